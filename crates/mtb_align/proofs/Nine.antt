-- The search over the nine, over plain values: where the search starts, one shift more, and what it has found at a clean
-- match or after all nine.
use mathlib.Core.Path.{◌≡◌, refl, sym, ap, ◌∙◌}
use mathlib.Core.Bool.{Bool, true, false, cond}
use mathlib.Core.List.{List, [], ◌∷◌}
use Prim.Native.Nat.{ℕ, suc, ◌+◌, ◌<◌, zero-le}
use native.Mathlib.Numerals.{add-one}
use native.Mathlib.Omega.{arith}
use borrow.Author.Tests.{lt-ltb, le-ltb, ltb-false, eq-eqb, ne_eqb}
use lib.Dec.{ltb, eqb}
use lib.ListN.{length, drop, get_or, get_or-map}
use lib.Seq.{drop-cons}
use Rattle.definitions.specs.Geometry.{Shift, origin, offset}
use Rattle.definitions.specs.Align.{candidates, nine, least_from, earliest_least, refine, up_to_zero, tried, refined}
use Rattle.laws.specs.search.Least.{nine_nine}
use Rattle.mtb_align.specs.declared.align.Candidate.{Candidate}
use Rattle.mtb_align.specs.declared.geometry.Shift as code
use Rattle.mtb_align.specs.Answers.{shift_in, stepped_in}

-- ---- the search

-- each of the nine around a shift is the sum that the code makes
nine_at : (around : Shift) (i : ℕ) → get_or (nine around) i (offset around origin) ≡ offset around (get_or candidates i origin)
unfolding nine
nine_at around i = get_or-map (offset around) candidates i origin

-- the earliest least of those of a list that cost less than a price, or else the best so far, which has that price
unfoldable pub below : (Shift → ℕ) → ℕ → Shift → List Shift → Shift
below cost price best [] = best
below cost price best (s ∷ l) = cond (ltb (cost s) price) (below cost (cost s) s l) (below cost price best l)

-- The best of the first i of the nine, none of them a clean match: what is left to try gives the answer and the count.
pub record Searched (cost : Shift → ℕ) (around : Shift) (best : Candidate) (i : ℕ) : Type 0 where
  pub rest : below cost best.error (shift_in best.shift) (drop i (nine around)) ≡ refine cost around
  pub counted : length (tried cost around) ≡ i + length (up_to_zero cost (drop i (nine around)))

module _ (cost : Shift → ℕ) where
  below_least : (b : Shift) (l : List Shift) → below cost (cost b) b l ≡ least_from cost b l
  unfolding below least_from
  below_least b [] = refl
  below_least b (s ∷ l) = on (ltb (cost s) (cost b)) (below_least s l) (below_least b l)
    where
      on : (t : Bool) → below cost (cost s) s l ≡ least_from cost s l → below cost (cost b) b l ≡ least_from cost b l
          → cond t (below cost (cost s) s l) (below cost (cost b) b l) ≡ least_from cost (cond t s b) l
      on true p q = p
      on false p q = q

  below_first : (price : ℕ) (b s : Shift) (l : List Shift) → cost s < price → below cost price b (s ∷ l) ≡ least_from cost s l
  unfolding below
  below_first price b s l h = ap (λ (t : Bool). cond t (below cost (cost s) s l) (below cost price b l)) (lt-ltb (cost s) price h) ∙ below_least s l

  none_below : (b : Shift) (l : List Shift) → below cost 0 b l ≡ b
  unfolding below
  none_below b [] = refl
  none_below b (s ∷ l) = ap (λ (t : Bool). cond t (below cost (cost s) s l) (below cost 0 b l)) (le-ltb (cost s) 0 zero-le) ∙ none_below b l

module _ (cost : Shift → ℕ) (around : Shift) where
  -- before the first, at a price that each of them is below
  pub start : {best : Candidate} → ((s : Shift) → cost s < best.error) → Searched cost around best 0
  unfolding nine refine earliest_least tried
  start {best} h = record { rest = below_first cost best.error (shift_in best.shift) _ _ (h _); counted = omega arith }

  both : {s : code.Shift} {made : ℕ} → shift_in s ≡ refine cost around → made ≡ length (tried cost around)
      → stepped_in (record { shift = s; comparisons = made }) ≡ refined cost around
  unfolding refined
  both s n = λ j. record { shift = s j; comparisons = n j }

  -- one more
  module _ {best : Candidate} {i : ℕ} (f : Searched cost around best i) (l : i < 9) (s : code.Shift) (e : ℕ)
      (p : shift_in s ≡ offset around (get_or candidates i origin)) (q : e ≡ cost (shift_in s)) where
    abbrev left : List Shift
    left = drop (suc i) (nine around)

    split : drop i (nine around) ≡ shift_in s ∷ left
    split =
        drop-cons (nine around) i (offset around origin) (rw nine_nine l)
        ∙ ap (λ (x : Shift). x ∷ left) (nine_at around i ∙ sym p)

    abbrev better : Candidate
    better = cond (ltb e best.error) (record { shift = s; error = e }) best

    best_of_all : below cost better.error (shift_in better.shift) left ≡ refine cost around
    unfolding below
    best_of_all = on (ltb e best.error) (ap (λ (n : ℕ). ltb n best.error) (sym q)) ∙ before
      where
        before : below cost best.error (shift_in best.shift) (shift_in s ∷ left) ≡ refine cost around
        before = ap (below cost best.error (shift_in best.shift)) (sym split) ∙ f.rest

        on : (t : Bool) → ltb (cost (shift_in s)) best.error ≡ t
            → let b : Candidate = cond t (record { shift = s; error = e }) best in
            below cost b.error (shift_in b.shift) left ≡ below cost best.error (shift_in best.shift) (shift_in s ∷ left)
        on true h = rw (h, q) refl
        on false h = rw h refl

    all : length (tried cost around) ≡ i + suc (length (cond (eqb e 0) [] (up_to_zero cost left)))
    unfolding up_to_zero
    all = f.counted ∙ ap (λ (r : List Shift). i + length (up_to_zero cost r)) split ∙ ap (λ (n : ℕ). i + suc (length (cond (eqb n 0) [] (up_to_zero cost left)))) (sym q)

    -- that is no clean match
    pub next : (e ≡ 0 → ⊥) → Searched cost around better (i + 1)
    next n = record {
      rest = rw add-one best_of_all;
      counted = rw add-one (omega (arith, all ∙ ap (λ (t : Bool). i + suc (length (cond t [] (up_to_zero cost left)))) (ne_eqb e 0 n)));
    }

    -- or that is one
    pub found_clean : {made : ℕ} → e ≡ 0 → made ≡ i + 1 → stepped_in (record { shift = better.shift; comparisons = made }) ≡ refined cost around
    found_clean {made} z m = both
        (sym (none_below cost (shift_in better.shift) left) ∙ ap (λ (n : ℕ). below cost n (shift_in better.shift) left) (sym clean) ∙ best_of_all)
        (omega (arith, m, all ∙ ap (λ (t : Bool). i + suc (length (cond t [] (up_to_zero cost left)))) (eq-eqb e 0 z)))
      where
        clean : better.error ≡ 0
        clean = on (ltb e best.error) refl
          where
            on : (t : Bool) → ltb e best.error ≡ t → (cond t (record { shift = s; error = e }) best).error ≡ 0
            on true h = z
            on false h = omega (arith, z, ltb-false e best.error h)

  -- after all nine
  pub found : {best : Candidate} {i made : ℕ} → Searched cost around best i → i ≡ 9 → made ≡ i
      → stepped_in (record { shift = best.shift; comparisons = made }) ≡ refined cost around
  unfolding below nine up_to_zero
  found {best} {i} {made} f e m = both (best_of (rw e at f.rest)) (m ∙ e ∙ sym (count_of (rw e at f.counted)))
    where
      best_of : below cost best.error (shift_in best.shift) (drop 9 (nine around)) ≡ refine cost around → shift_in best.shift ≡ refine cost around
      best_of r = r

      count_of : length (tried cost around) ≡ 9 + length (up_to_zero cost (drop 9 (nine around))) → length (tried cost around) ≡ 9
      count_of c = c
