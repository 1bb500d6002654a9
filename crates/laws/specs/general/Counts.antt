-- How many elements of a list pass a test: of none, of one list after another, one more as a loop counts, and never more than there
-- are.
use Rattle.std.specs.Prelude.{◌≡◌, Bool, length, get_or, take}
use Rattle.std.proofs.Math.Path.{refl, ap}
use Rattle.std.proofs.Common.{◌∙◌, add-zero, add-one}
use mathlib.Core.List.{List, [], ◌∷◌, ◌++◌}
use Prim.Native.Nat.{ℕ, ◌+◌, ◌≤◌, ◌<◌, zero-le}
use native.Mathlib.Omega.{arith}
use Rattle.std.proofs.Math.Seq.{take-suc}
use Rattle.definitions.specs.Sum.{bit, count_if}
use Rattle.laws.specs.general.Cases.{bit_le}

module _ (p : ℕ → Bool) where
  -- of no element
  pub count_none : count_if p [] ≡ 0
  unfolding count_if
  count_none = refl

  -- one list after another
  pub count_append : (a b : List ℕ) → count_if p (a ++ b) ≡ count_if p a + count_if p b
  unfolding count_if
  count_append [] b = omega arith
  count_append (x ∷ a) b = omega (arith, count_append a b)

  -- one more, as a loop counts
  pub count_more : (s : List ℕ) (i : ℕ) → i < length s → count_if p (take (i + 1) s) ≡ count_if p (take i s) + bit (p (get_or s i 0))
  unfolding count_if
  count_more s i h =
      rw (add-one, take-suc s i 0) (count_append (take i s) (get_or s i 0 ∷ []) ∙ ap (λ (n : ℕ). count_if p (take i s) + n) (add-zero (bit (p (get_or s i 0)))))

  -- no more pass than there are
  pub count_le : (s : List ℕ) → count_if p s ≤ length s
  unfolding count_if
  count_le [] = zero-le
  count_le (a ∷ s) = omega (arith, bit_le (p a), count_le s)
