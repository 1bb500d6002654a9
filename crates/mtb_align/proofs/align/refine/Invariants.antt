-- The best of the first i shifts is known, and none of them was a clean match.
use mathlib.Core.Path.{◌≡◌}
use Prim.Native.Nat.{◌≤◌}
use Rattle.mtb_align.specs.Answers.{shift_in}
use Rattle.mtb_align.specs.Packed.{cost_of}
use Rattle.mtb_align.proofs.Nine.{Searched}
use Rattle.mtb_align.proofs.align.refine.Given as goal

abbrev pub invariant-loop-i : goal.invariant-loop-i
invariant-loop-i l = (l.i ≤ 9) × (l.made ≡ l.i) × Searched (cost_of l.packed) (shift_in l.around) l.best l.i
