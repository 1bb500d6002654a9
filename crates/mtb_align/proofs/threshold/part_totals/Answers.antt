use Prim.Native.Nat.{ℕ}
use native.Mathlib.Omega.{arith}
use lib.ListN.{length-replicate}
use Rattle.laws.specs.general.Writes.{stored_none, stored_first, stored_whole}
use Rattle.mtb_align.proofs.threshold.part_totals.Goals as goal

pub loop-i-init : goal.loop-i-init
loop-i-init c = stored_none _ _ _

pub loop-i-preserved : goal.loop-i-preserved
loop-i-preserved c = stored_first c.loop-i.invariant c.lane_total.ensures

pub returns : goal.returns
returns c = stored_whole c.loop-i.invariant (omega arith) (length-replicate {A = ℕ} 64 0)
