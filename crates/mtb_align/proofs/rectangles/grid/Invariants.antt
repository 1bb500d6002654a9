-- The loop has counted the first runs.
use mathlib.Core.Path.{◌≡◌}
use Prim.Native.Nat.{◌+◌, ◌*◌}
use Rattle.laws.specs.bitmaps.Joints.{Counted}
use Rattle.laws.specs.bitmaps.Joints.{lines_sum}
use Rattle.mtb_align.proofs.rectangles.grid.Given as goal

abbrev pub invariant-loop : goal.invariant-loop
invariant-loop g l =
    (l.at ≡ l.i + l.counter * l.apart) × (l.from ≡ l.j + l.counter * l.apart)
    × Counted (lines_sum (g.V.View.shown l.view) l.rt l.re l.st l.se l.i l.j l.apart l.step l.counter l.len) (l.counter * 524288) l.compared l.disagreeing
