-- The earliest least: it is one of the list, none costs less, and every earlier one costs more.
use Rattle.std.specs.Prelude.{◌≡◌, Bool, cond, get_or}
use Rattle.std.proofs.Math.Path.{refl}
use Rattle.std.proofs.Math.Bool.{true, false}
use mathlib.Core.List.{List, [], ◌∷◌}
use Prim.Native.Nat.{ℕ, zero, suc, ◌<◌, ◌≤◌, suc-le-suc}
use Rattle.std.proofs.Common.{not-suc-le-zero, le_of_suc-le-suc, ltb-true, ltb-false}
use Rattle.std.proofs.Math.Nat.{zero-lt-suc}
use native.Mathlib.Omega.{arith}
use Rattle.std.proofs.Math.Dec.{ltb}
use Rattle.std.proofs.Math.ListN.{length}
use Rattle.definitions.specs.Geometry.{Shift, origin}
use Rattle.definitions.specs.Align.{nine, least_from, earliest_least, refine}

-- b is the first of the list that costs least
pub record EarliestLeast (cost : Shift → ℕ) (l : List Shift) (b : Shift) : Type 0 where
  pub place : ℕ
  pub among : place < length l
  pub there : get_or l place origin ≡ b
  pub none_less : (j : ℕ) → j < length l → cost b ≤ cost (get_or l j origin)
  pub earlier_more : (j : ℕ) → j < place → cost b < cost (get_or l j origin)

module _ (cost : Shift → ℕ) where
  -- one list longer: a new first that costs more, or a second that costs no less than the first
  first_more : (a s : Shift) (l : List Shift) (b : Shift) → cost s < cost a → EarliestLeast cost (s ∷ l) b → EarliestLeast cost (a ∷ s ∷ l) b
  first_more a s l b h e = record {
    place = suc e.place;
    among = suc-le-suc e.among;
    there = e.there;
    none_less = every;
    earlier_more = before;
  }
    where
      below : cost b ≤ cost s
      below = e.none_less 0 (zero-lt-suc (length l))

      every : (j : ℕ) → j < length (a ∷ s ∷ l) → cost b ≤ cost (get_or (a ∷ s ∷ l) j origin)
      every zero k = omega (arith, below)
      every (suc j) k = e.none_less j (le_of_suc-le-suc k)

      before : (j : ℕ) → j < suc e.place → cost b < cost (get_or (a ∷ s ∷ l) j origin)
      before zero k = omega (arith, below)
      before (suc j) k = e.earlier_more j (le_of_suc-le-suc k)

  second_more : (a s : Shift) (l : List Shift) (b : Shift) → cost a ≤ cost s → EarliestLeast cost (a ∷ l) b → EarliestLeast cost (a ∷ s ∷ l) b
  second_more a s l b h e = on e.place e.among e.there e.earlier_more
    where
      below : cost b ≤ cost a
      below = e.none_less 0 (zero-lt-suc (length l))

      every : (j : ℕ) → j < length (a ∷ s ∷ l) → cost b ≤ cost (get_or (a ∷ s ∷ l) j origin)
      every zero k = below
      every (suc zero) k = omega (arith, below)
      every (suc (suc j)) k = e.none_less (suc j) (le_of_suc-le-suc k)

      -- not the first of the two, so the second is passed over too
      before : (i : ℕ) → ((j : ℕ) → j < suc i → cost b < cost (get_or (a ∷ l) j origin)) → (j : ℕ) → j < suc (suc i) → cost b < cost (get_or (a ∷ s ∷ l) j origin)
      before i m zero k = m 0 (zero-lt-suc i)
      before i m (suc zero) k = omega (arith, m 0 (zero-lt-suc i))
      before i m (suc (suc j)) k = m (suc j) (le_of_suc-le-suc k)

      on : (i : ℕ) → i < length (a ∷ l) → get_or (a ∷ l) i origin ≡ b → ((j : ℕ) → j < i → cost b < cost (get_or (a ∷ l) j origin)) → EarliestLeast cost (a ∷ s ∷ l) b
      on zero k t m = record { place = 0; among = zero-lt-suc (length (s ∷ l)); there = t; none_less = every; earlier_more = λ j n. absurd (not-suc-le-zero n) }
      on (suc i) k t m = record { place = suc (suc i); among = suc-le-suc k; there = t; none_less = every; earlier_more = before i m }

  least_from_lem : (best : Shift) (l : List Shift) → EarliestLeast cost (best ∷ l) (least_from cost best l)
  unfolding least_from
  least_from_lem best [] = record { place = 0; among = zero-lt-suc 0; there = refl; none_less = only; earlier_more = λ j n. absurd (not-suc-le-zero n) }
    where
      only : (j : ℕ) → j < length (best ∷ []) → cost best ≤ cost (get_or (best ∷ []) j origin)
      only zero k = omega arith
      only (suc j) k = absurd (not-suc-le-zero (le_of_suc-le-suc k))
  least_from_lem best (s ∷ l) = on (ltb (cost s) (cost best)) refl (least_from_lem s l) (least_from_lem best l)
    where
      on : (t : Bool) → ltb (cost s) (cost best) ≡ t → EarliestLeast cost (s ∷ l) (least_from cost s l) → EarliestLeast cost (best ∷ l) (least_from cost best l)
          → EarliestLeast cost (best ∷ s ∷ l) (least_from cost (cond t s best) l)
      on true h p q = first_more best s l (least_from cost s l) (ltb-true (cost s) (cost best) h) p
      on false h p q = second_more best s l (least_from cost best l) (ltb-false (cost s) (cost best) h) q

  -- of any list that has a first
  pub earliest_least_lem : (s : Shift) (l : List Shift) → EarliestLeast cost (s ∷ l) (earliest_least cost (s ∷ l))
  unfolding earliest_least
  earliest_least_lem s l = least_from_lem s l

  -- of the nine
  pub refine_earliest_least : (centre : Shift) → EarliestLeast cost (nine centre) (refine cost centre)
  unfolding nine refine
  refine_earliest_least centre = earliest_least_lem _ _

pub nine_nine : (centre : Shift) → length (nine centre) ≡ 9
unfolding nine
nine_nine centre = refl
