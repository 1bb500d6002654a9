-- What a level tries: the nine up to the first that disagrees in no pixel. How many these are, and that their best is the best of all nine.
use Rattle.std.specs.Prelude.{◌≡◌, Bool, ◌⊎◌, length, get_or}
use Rattle.std.proofs.Math.Path.{refl, sym, ap}
use Rattle.std.proofs.Common.{◌∙◌, subst, not-suc-le-zero, le_of_suc-le-suc, arith}
use Rattle.std.proofs.Math.Bool.{true, false, cond}
use mathlib.Core.List.{List, [], ◌∷◌}
use Rattle.std.proofs.Math.Logic.{inl, inr, ⊎_elim}
use Prim.Native.Nat.{ℕ, zero, suc, ◌-◌, ◌<◌, ◌≤◌, suc-le-suc, zero-le}
use Rattle.std.proofs.Math.Dec.{ltb, eqb}
use Rattle.std.proofs.Math.ListN.{take}
use borrow.Author.Tests.{le-ltb, ltb-false, eqb-true, eqb-false}
use Rattle.definitions.specs.Geometry.{Shift, origin, doubled}
use Rattle.definitions.specs.Align.{nine, least_from, earliest_least, refine, up_to_zero, tried, step_at}
use Rattle.laws.specs.general.Cases.{lt_or_le}
use Rattle.laws.specs.search.Least.{nine_nine}

-- 02's rule by places: n shifts of a list are tried where none before the nth disagrees in no pixel, and the nth does or is the last
pub record StopsAt (cost : Shift → ℕ) (l : List Shift) (n : ℕ) : Type 0 where
  pub some : 1 ≤ n
  pub most : n ≤ length l
  pub none_before : (j : ℕ) → suc j < n → 0 < cost (get_or l j origin)
  pub ends : (cost (get_or l (n - 1) origin) ≡ 0) ⊎ (n ≡ length l)

-- so there is at most one such n
pub stops_once : {cost : Shift → ℕ} {l : List Shift} {m n : ℕ} → StopsAt cost l m → StopsAt cost l n → m ≡ n
stops_once p q = omega (arith, no_later p q, no_later q p)
  where
    no_later : {cost : Shift → ℕ} {l : List Shift} {m n : ℕ} → StopsAt cost l m → StopsAt cost l n → n ≤ m
    no_later {cost} {l} {m} {n} p q = ⊎_elim
        (λ (h : m < n). ⊎_elim
        (λ e. absurd (omega (arith, e, q.none_before (m - 1) (omega (arith, h, p.some)))))
        (λ e. absurd (omega (arith, e, h, q.most)))
        p.ends)
        (λ (h : n ≤ m). h)
        (lt_or_le m n)

module _ (cost : Shift → ℕ) where
  -- ---- which are tried

  -- a clean match, or all there is
  first_stops : (s : Shift) (l : List Shift) → (cost s ≡ 0) ⊎ (1 ≡ length (s ∷ l)) → StopsAt cost (s ∷ l) 1
  first_stops s l e = record {
    some = suc-le-suc zero-le;
    most = suc-le-suc zero-le;
    none_before = λ j h. absurd (not-suc-le-zero (le_of_suc-le-suc h));
    ends = e;
  }

  up_to_stops : (s : Shift) (l : List Shift) → StopsAt cost (s ∷ l) (length (up_to_zero cost (s ∷ l)))
  unfolding up_to_zero
  up_to_stops s [] = on (eqb (cost s) 0)
    where
      on : (z : Bool) → StopsAt cost (s ∷ []) (suc (length (cond z [] (up_to_zero cost []))))
      on true = first_stops s [] (inr refl)
      on false = first_stops s [] (inr refl)
  up_to_stops s (t ∷ l) = on (eqb (cost s) 0) refl (up_to_stops t l)
    where
      on : (z : Bool) → eqb (cost s) 0 ≡ z → StopsAt cost (t ∷ l) (length (up_to_zero cost (t ∷ l)))
          → StopsAt cost (s ∷ t ∷ l) (suc (length (cond z [] (up_to_zero cost (t ∷ l)))))
      on true e q = first_stops s (t ∷ l) (inl (eqb-true (cost s) 0 e))
      on false e q = record { some = suc-le-suc zero-le; most = suc-le-suc q.most; none_before = before; ends = ⊎_elim (λ z. inl (last z)) (λ n. inr (ap suc n)) q.ends }
        where
          before : (j : ℕ) → suc j < suc (length (up_to_zero cost (t ∷ l))) → 0 < cost (get_or (s ∷ t ∷ l) j origin)
          before zero h = ⊎_elim (λ p. p) (λ p. absurd (eqb-false (cost s) 0 e (omega (arith, p)))) (lt_or_le 0 (cost s))
          before (suc j) h = q.none_before j (le_of_suc-le-suc h)

          last : cost (get_or (t ∷ l) (length (up_to_zero cost (t ∷ l)) - 1) origin) ≡ 0 → cost (get_or (s ∷ t ∷ l) (suc (length (up_to_zero cost (t ∷ l))) - 1) origin) ≡ 0
          last z =
              let n : suc (length (up_to_zero cost (t ∷ l)) - 1) ≡ suc (length (up_to_zero cost (t ∷ l))) - 1 = omega (arith, q.some) in
              subst (λ (n : ℕ). cost (get_or (s ∷ t ∷ l) n origin) ≡ 0) n z

  -- 02's "the candidates up to and including that one, or nine", by number
  pub tried_stops : (centre : Shift) → StopsAt cost (nine centre) (length (tried cost centre))
  unfolding nine tried
  tried_stops centre = up_to_stops _ _

  -- they are the first of the nine
  up_to_first : (l : List Shift) → up_to_zero cost l ≡ take (length (up_to_zero cost l)) l
  unfolding up_to_zero
  up_to_first [] = refl
  up_to_first (s ∷ l) = on (eqb (cost s) 0) (up_to_first l)
    where
      on : (z : Bool) → up_to_zero cost l ≡ take (length (up_to_zero cost l)) l
          → s ∷ cond z [] (up_to_zero cost l) ≡ take (suc (length (cond z [] (up_to_zero cost l)))) (s ∷ l)
      on true h = refl
      on false h = ap (λ (r : List Shift). s ∷ r) h

  pub tried_first : (centre : Shift) → tried cost centre ≡ take (length (tried cost centre)) (nine centre)
  unfolding tried
  tried_first centre = up_to_first (nine centre)

  -- at least one, and no more than nine
  pub tried_few : (centre : Shift) → (1 ≤ length (tried cost centre)) × (length (tried cost centre) ≤ 9)
  tried_few centre = let s = tried_stops centre in (s.some, omega (arith, s.most, nine_nine centre))

  -- ---- the best of them

  -- nothing beats a shift that disagrees in no pixel
  zero_stays : (best : Shift) (l : List Shift) → cost best ≡ 0 → least_from cost best l ≡ best
  unfolding least_from
  zero_stays best [] e = refl
  zero_stays best (s ∷ l) e = ap (λ (t : Bool). least_from cost (cond t s best) l) (le-ltb (cost s) (cost best) (omega (arith, e))) ∙ zero_stays best l e

  least_up_to : (best : Shift) (l : List Shift) → least_from cost best (up_to_zero cost l) ≡ least_from cost best l
  unfolding least_from up_to_zero
  least_up_to best [] = refl
  least_up_to best (s ∷ l) = on (eqb (cost s) 0) refl (ltb (cost s) (cost best)) refl (λ b. least_up_to b l)
    where
      on : (z : Bool) → eqb (cost s) 0 ≡ z → (t : Bool) → ltb (cost s) (cost best) ≡ t
          → ((b : Shift) → least_from cost b (up_to_zero cost l) ≡ least_from cost b l)
          → least_from cost (cond t s best) (cond z [] (up_to_zero cost l)) ≡ least_from cost (cond t s best) l
      on true e true h ih = sym (zero_stays s l (eqb-true (cost s) 0 e))
      on true e false h ih = sym (zero_stays best l (omega (arith, eqb-true (cost s) 0 e, ltb-false (cost s) (cost best) h)))
      on false e t h ih = ih (cond t s best)

  up_to_enough : (s : Shift) (l : List Shift) → earliest_least cost (up_to_zero cost (s ∷ l)) ≡ earliest_least cost (s ∷ l)
  unfolding earliest_least up_to_zero least_from
  up_to_enough s l = on (eqb (cost s) 0) refl
    where
      on : (z : Bool) → eqb (cost s) 0 ≡ z → least_from cost s (cond z [] (up_to_zero cost l)) ≡ least_from cost s l
      on true e = sym (zero_stays s l (eqb-true (cost s) 0 e))
      on false e = least_up_to s l

  -- the best of those tried is the best of all nine
  pub tried_enough : (centre : Shift) → earliest_least cost (tried cost centre) ≡ refine cost centre
  unfolding tried refine nine
  tried_enough centre = up_to_enough _ _

-- the step by the best of what is tried at each level
unfoldable pub tried_step_at : (ℕ → Shift → ℕ) → ℕ → ℕ → Shift
tried_step_at cost k zero = earliest_least (cost k) (tried (cost k) origin)
tried_step_at cost k (suc d) = earliest_least (cost k) (tried (cost k) (doubled (tried_step_at cost (suc k) d)))

-- it is the step over all nine
pub step_tried : (cost : ℕ → Shift → ℕ) (k d : ℕ) → tried_step_at cost k d ≡ step_at cost k d
unfolding tried_step_at step_at
step_tried cost k zero = tried_enough (cost k) origin
step_tried cost k (suc d) =
    ap (λ (s : Shift). earliest_least (cost k) (tried (cost k) (doubled s))) (step_tried cost (suc k) d)
    ∙ tried_enough (cost k) (doubled (step_at cost (suc k) d))
