-- The first i numbers are these coordinates.
use Rattle.std.specs.Prelude.{◌≡◌, ℕ, ◌<◌, pos, length, get_or}
use Rattle.replay.specs.Lists.{coordinate_of}
use Rattle.replay.proofs.same_coordinates.Given as goal

abbrev pub invariant-loop-i : goal.invariant-loop-i
invariant-loop-i l = (length l.numbers ≡ length l.got) × ((k : ℕ) → k < l.i → coordinate_of (get_or l.numbers k 0) ≡ get_or l.got k (pos 0))
