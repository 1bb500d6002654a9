-- The measure is the distance to the last level.
use Prim.Native.Nat.{◌-◌}
use Rattle.mtb_align.proofs.align.+step_at.Given as goal

abbrev pub decreases-step_at : goal.decreases-step_at
decreases-step_at l = l.last - l.level
