-- The first i numbers are fields.
use Rattle.std.specs.Prelude.{◌≡◌, ℕ, ◌*◌, ◌<◌, length, get_or}
use Rattle.definitions.specs.Report.{field_of}
use Rattle.replay.proofs.same_fields.Given as goal

abbrev pub invariant-loop-i : goal.invariant-loop-i
invariant-loop-i l = (length l.got ≡ 4 * length l.numbers) × ((k : ℕ) → k < l.i → get_or l.numbers k 0 ≡ field_of l.got 0 k)
