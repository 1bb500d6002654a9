-- The loop has written the first y rows.
use mathlib.Core.Path.{◌≡◌}
use Prim.Native.Nat.{ℕ, ◌+◌, ◌*◌, ◌≤◌}
use lib.ListN.{length}
use lib.Seq.{sets}
use Rattle.definitions.specs.Build.{joined}
use Rattle.mtb_align.proofs.Stretches.{row_from}
use Rattle.mtb_align.proofs.geometry.move_covered.Given as goal

abbrev pub invariant-loop-y : goal.invariant-loop-y
invariant-loop-y l = (l.y ≤ l.rows) × (length l.out ≡ length l.initial.out)
    × (l.out ≡ sets l.initial.out l.at (joined l.y (λ (k : ℕ). row_from l.samples l.width l.before l.past (l.from + k * l.width))))
