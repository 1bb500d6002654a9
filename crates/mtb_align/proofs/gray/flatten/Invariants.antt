-- The loop has stored the first i grey samples.
use mathlib.Core.List.{List}
use Prim.Native.Nat.{ℕ, ◌+◌, ◌-◌, ◌*◌, ◌≤◌}
use lib.ListN.{length, get_or}
use Rattle.definitions.specs.Gray.{grey}
use Rattle.laws.specs.general.Writes.{Stored}
use Rattle.mtb_align.proofs.gray.flatten.Given as goal

-- pixel i
abbrev pub pixel : List ℕ → ℕ → ℕ
pixel rgb i = grey (get_or rgb (3 * i) 0) (get_or rgb (3 * i + 1) 0) (get_or rgb (3 * i + 2) 0)

abbrev pub invariant-loop-i : goal.invariant-loop-i
invariant-loop-i l = (l.i ≤ length l.initial.gray) × Stored (pixel l.rgb) 0 l.initial.gray l.gray l.i

abbrev pub decreases-loop-i : goal.decreases-loop-i
decreases-loop-i l = length l.initial.gray - l.i
