-- The first loop has counted the first `at` words of each of the fifteen parts, the second all of the first k words.
use mathlib.Core.Path.{◌≡◌}
use mathlib.Core.List.{List}
use Prim.Native.Nat.{ℕ, ◌+◌, ◌*◌, ◌≤◌}
use lib.ListN.{get_or}
use Rattle.definitions.specs.Bitmap.{bit_of}
use Rattle.definitions.specs.Sum.{sum}
use Rattle.mtb_align.proofs.ones.ones_in.Given as goal

-- the set bits of word k
abbrev pub ones_at : List ℕ → ℕ → ℕ
ones_at words k = sum 64 (bit_of (get_or words k 0))

-- of word `at` of each part
abbrev pub fifteen_at : List ℕ → ℕ → ℕ → ℕ
fifteen_at words step at = sum 15 (λ (j : ℕ). ones_at words (j * step + at))

abbrev pub invariant-loop-at : goal.invariant-loop-at
invariant-loop-at l = (l.set ≡ sum l.at (fifteen_at l.words l.step)) × (l.set ≤ l.at * 960)

abbrev pub invariant-loop-k : goal.invariant-loop-k
invariant-loop-k l = (l.set ≡ sum l.k (ones_at l.words)) × (l.set ≤ l.k * 64)
