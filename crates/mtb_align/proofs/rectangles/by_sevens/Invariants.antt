-- The loop has counted the first rows, seven at a time.
use mathlib.Core.Path.{◌≡◌}
use Prim.Native.Nat.{◌+◌, ◌*◌}
use Rattle.laws.specs.bitmaps.Joints.{Counted}
use Rattle.laws.specs.bitmaps.Joints.{lines_sum}
use Rattle.mtb_align.proofs.rectangles.by_sevens.Given as goal

abbrev pub invariant-loop : goal.invariant-loop
invariant-loop g l =
    (l.at ≡ l.i + l.counter * 7 * l.n) × (l.from ≡ l.j + l.counter * 7 * l.n)
    × Counted (lines_sum (g.V.View.shown l.view) l.rt l.re l.st l.se l.i l.j l.n 1 (l.counter * 7) l.columns) (l.counter * 7 * 524288) l.compared l.disagreeing
