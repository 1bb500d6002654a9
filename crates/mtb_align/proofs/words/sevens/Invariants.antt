-- The loop has counted the first words of each run.
use mathlib.Core.Path.{◌≡◌}
use Prim.Native.Nat.{◌+◌, ◌*◌}
use Rattle.laws.specs.bitmaps.Joints.{Counted}
use Rattle.laws.specs.bitmaps.Joints.{lines_sum}
use Rattle.mtb_align.proofs.words.sevens.Given as goal

abbrev pub invariant-loop : goal.invariant-loop
invariant-loop g l =
    (l.at ≡ l.i + l.counter) × (l.from ≡ l.j + l.counter)
    × Counted (lines_sum (g.V.View.shown l.view) l.rt l.re l.st l.se l.i l.j 1 l.apart l.counter 7) (l.counter * 448) l.compared l.disagreeing
