-- From i on the rest of the gap ends where it ends from `at` on. A comment leaves less than there was with its first byte.
use mathlib.Core.Bool.{false}
use Prim.Native.Nat.{◌-◌}
use lib.ListN.{length}
use Rattle.pgm_format.specs.Pgm.{after_gap}
use Rattle.pgm.proofs.Places.{Left}
use Rattle.pgm.proofs.header.after_gap.Given as goal

abbrev pub invariant-loop-i : goal.invariant-loop-i
invariant-loop-i l = Left (after_gap false) l.file l.at l.i

abbrev pub decreases-loop-i : goal.decreases-loop-i
decreases-loop-i l = length l.file - l.i
