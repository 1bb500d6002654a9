use native.Mathlib.Omega.{arith}
use Rattle.definitions.specs.Gray.{from_rgb}
use Rattle.laws.specs.general.Writes.{stored_none, stored_first, stored_whole}
use Rattle.mtb_align.proofs.gray.flatten.Goals as goal

pub loop-i-init : goal.loop-i-init
loop-i-init c = (omega arith, stored_none _ _ _)

pub loop-i-preserved : goal.loop-i-preserved
loop-i-preserved c = (omega arith, stored_first c.loop-i.invariant.1 c.grey_of.ensures)

pub returns : goal.returns
unfolding from_rgb
returns c = stored_whole c.loop-i.invariant.1 (omega arith) (omega arith)
