use native.Mathlib.Omega.{arith}
use Rattle.definitions.specs.Gray.{grey}
use Rattle.mtb_align.proofs.gray.grey_of.Goals as goal

pub returns : goal.returns
unfolding grey
returns c = omega arith
