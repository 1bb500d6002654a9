-- The loop has counted the first words.
use mathlib.Core.Path.{◌≡◌}
use Prim.Native.Nat.{◌+◌, ◌*◌}
use Rattle.laws.specs.bitmaps.Joints.{Counted}
use Rattle.laws.specs.bitmaps.Joints.{run_sum}
use Rattle.mtb_align.proofs.words.run.Given as goal

abbrev pub invariant-loop : goal.invariant-loop
invariant-loop g l =
    (l.at ≡ l.i + l.counter * l.step) × (l.from ≡ l.j + l.counter * l.step)
    × Counted (run_sum (g.V.View.shown l.view) l.rt l.re l.st l.se l.i l.j l.step l.counter) (l.counter * 64) l.compared l.disagreeing
