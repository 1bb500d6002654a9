-- Reading on in a file: what a rule leaves of the rest is the same from place to place.
use mathlib.Core.Path.{◌≡◌, refl, sym, ap, subst, ◌∙◌}
use mathlib.Core.Bool.{Bool, true, false, cond, not}
use mathlib.Core.List.{List, [], ◌∷◌}
use Prim.Native.Nat.{ℕ, zero, suc, ◌+◌, ◌≤◌, ◌<◌}
use native.Mathlib.Numerals.{add-one}
use native.Mathlib.Omega.{arith}
use borrow.Author.Tests.{eq-eqb, ne_eqb}
use lib.Dec.{eqb}
use lib.ListN.{length, get_or, drop, length-drop, drop_of_length-le}
use lib.Seq.{drop-cons}
use Rattle.definitions.specs.Sum.{bit, sum}
use Rattle.laws.specs.general.Sums.{sum_none_in}
use Rattle.pgm_format.specs.Pgm.{is_white, after_gap}
use Rattle.pgm.specs.Inner.{From, after_comment}
use Rattle.laws.specs.general.Cases.{cond_true, cond_false}

-- the byte at a place, and what is behind it
pub split : (file : List ℕ) (i : ℕ) → i < length file → drop i file ≡ get_or file i 0 ∷ drop (i + 1) file
split file i h = drop-cons file i 0 h ∙ sym (ap (λ (k : ℕ). get_or file i 0 ∷ drop k file) (add-one i))

-- ---- a rule

-- From i on the rule f leaves what it leaves from `at` on.
pub record Left (f : List ℕ → List ℕ) (file : List ℕ) (at i : ℕ) : Type 0 where
  pub inside : i ≤ length file
  pub same : f (drop i file) ≡ f (drop at file)

module _ {f : List ℕ → List ℕ} {file : List ℕ} {at : ℕ} where
  pub left_none : at ≤ length file → Left f file at at
  left_none h = record { inside = h; same = refl }

  module _ {i : ℕ} (l : Left f file at i) where
    -- f passes the byte over
    pub left_more : i < length file → f (get_or file i 0 ∷ drop (i + 1) file) ≡ f (drop (i + 1) file) → Left f file at (i + 1)
    left_more h e = record { inside = omega arith; same = sym e ∙ sym (ap f (split file i h)) ∙ l.same }

    -- f leaves what is there
    pub left_stop : f (drop i file) ≡ drop i file → From file (f (drop at file)) i
    left_stop e = record { inside = l.inside; left = sym e ∙ l.same }

    -- the file ends
    pub left_end : length file ≤ i → f [] ≡ [] → From file (f (drop at file)) (length file)
    left_end h e =
        let d : drop i file ≡ [] = drop_of_length-le file h in
        let n : i ≡ length file = omega (arith, l.inside) in
        subst (From file (f (drop at file))) n (left_stop (ap f d ∙ e ∙ sym d))

-- a place behind which no more stands than behind another is not before it
pub no_sooner : {file l : List ℕ} {at r : ℕ} → at ≤ length file → From file l r → length l ≤ length (drop at file) → at ≤ r
no_sooner {file} {l} {at} {r} h p q = omega (arith, p.inside, ap length p.left, length-drop r file, length-drop at file)

-- ---- a comment

comment_ends : (b : ℕ) (l : List ℕ) → b ≡ 10 → after_comment (b ∷ l) ≡ l
unfolding after_comment
comment_ends b l e = cond_true l (after_comment l) (eq-eqb b 10 e)

comment_on : (b : ℕ) (l : List ℕ) → (b ≡ 10 → ⊥) → after_comment (b ∷ l) ≡ after_comment l
unfolding after_comment
comment_on b l e = cond_false l (after_comment l) (ne_eqb b 10 e)

pub comment_none : after_comment [] ≡ []
unfolding after_comment
comment_none = refl

-- it leaves no more than there was
pub comment_length : (l : List ℕ) → length (after_comment l) ≤ length l
unfolding after_comment
comment_length [] = omega arith
comment_length (b ∷ l) = on (eqb b 10) (comment_length l)
  where
    on : (t : Bool) → length (after_comment l) ≤ length l → length (cond t l (after_comment l)) ≤ suc (length l)
    on true h = omega arith
    on false h = omega arith

module _ {file : List ℕ} {at i : ℕ} (l : Left after_comment file at i) (h : i < length file) where
  pub line_feed : get_or file i 0 ≡ 10 → From file (after_comment (drop at file)) (i + 1)
  line_feed e = record {
    inside = omega arith;
    left = sym (comment_ends (get_or file i 0) (drop (i + 1) file) e) ∙ sym (ap after_comment (split file i h)) ∙ l.same;
  }

  pub comment_more : (get_or file i 0 ≡ 10 → ⊥) → Left after_comment file at (i + 1)
  comment_more e = left_more l h (comment_on (get_or file i 0) (drop (i + 1) file) e)

-- a block of n bytes without a line feed
feedless : {file : List ℕ} {at i : ℕ} (n : ℕ) → i + n ≤ length file → ((k : ℕ) → k < n → get_or file (i + k) 0 ≡ 10 → ⊥)
    → Left after_comment file at i → Left after_comment file at (i + n)
feedless {file} {at} {i} zero h e l = subst (Left after_comment file at) (omega arith) l
feedless {file} {at} {i} (suc n) h e l =
    subst (Left after_comment file at) (omega arith)
    (comment_more (feedless n (omega arith) (λ k g. e k (omega arith)) l) (omega arith) (e n (omega arith)))

no_feed : (b : ℕ) → bit (eqb b 10) ≡ 0 → b ≡ 10 → ⊥
no_feed b e p = never (sym (ap bit (eq-eqb b 10 p)) ∙ e)
  where
    never : ◌≡◌ {A = ℕ} 1 0 → ⊥
    never z = omega arith

pub block_more : {file : List ℕ} {at i : ℕ} (n : ℕ) → i + n ≤ length file → sum n (λ k. bit (eqb (get_or file (i + k) 0) 10)) ≡ 0
    → Left after_comment file at i → Left after_comment file at (i + n)
block_more {file} {at} {i} n h e l =
    feedless n h (λ k g. no_feed (get_or file (i + k) 0) (sum_none_in n (λ (j : ℕ). bit (eqb (get_or file (i + j) 0) 10)) e k g)) l

-- ---- a gap

pub gap_none : after_gap false [] ≡ []
unfolding after_gap
gap_none = refl

-- in a comment
gap_comment : (l : List ℕ) → after_gap true l ≡ after_gap false (after_comment l)
unfolding after_gap after_comment
gap_comment [] = refl
gap_comment (b ∷ l) = on (eqb b 10) (gap_comment l)
  where
    on : (t : Bool) → after_gap true l ≡ after_gap false (after_comment l) → after_gap (not t) l ≡ after_gap false (cond t l (after_comment l))
    on true h = refl
    on false h = h

module _ (b : ℕ) (l : List ℕ) where
  gap_white : is_white b ≡ true → after_gap false (b ∷ l) ≡ after_gap false l
  unfolding after_gap
  gap_white e = cond_true _ _ e

  gap_hash : is_white b ≡ false → b ≡ 35 → after_gap false (b ∷ l) ≡ after_gap true l
  unfolding after_gap
  gap_hash e p = cond_false _ _ e ∙ cond_true _ _ (eq-eqb b 35 p)

  gap_stop : is_white b ≡ false → (b ≡ 35 → ⊥) → after_gap false (b ∷ l) ≡ b ∷ l
  unfolding after_gap
  gap_stop e p = cond_false _ _ e ∙ cond_false _ _ (ne_eqb b 35 p)

-- it leaves no more than there was
pub gap_length : (inside : Bool) (l : List ℕ) → length (after_gap inside l) ≤ length l
unfolding after_gap
gap_length inside [] = omega arith
gap_length true (b ∷ l) = omega (arith, gap_length (not (eqb b 10)) l)
gap_length false (b ∷ l) = on (is_white b) (eqb b 35) (gap_length false l) (gap_length true l)
  where
    on : (s t : Bool) → length (after_gap false l) ≤ length l → length (after_gap true l) ≤ length l
        → length (cond s (after_gap false l) (cond t (after_gap true l) (b ∷ l))) ≤ suc (length l)
    on true t h g = omega arith
    on false true h g = omega arith
    on false false h g = omega arith

module _ {file : List ℕ} {at i : ℕ} (l : Left (after_gap false) file at i) (h : i < length file) where
  pub white_more : is_white (get_or file i 0) ≡ true → Left (after_gap false) file at (i + 1)
  white_more e = left_more l h (gap_white (get_or file i 0) (drop (i + 1) file) e)

  pub hash_more : is_white (get_or file i 0) ≡ false → get_or file i 0 ≡ 35 → {r : ℕ} → From file (after_comment (drop (i + 1) file)) r
      → Left (after_gap false) file at r
  hash_more e p {r} q = record {
    inside = q.inside;
    same =
        ap (after_gap false) q.left
        ∙ sym (gap_comment (drop (i + 1) file))
        ∙ sym (gap_hash (get_or file i 0) (drop (i + 1) file) e p)
        ∙ sym (ap (after_gap false) (split file i h))
        ∙ l.same;
  }

  pub gap_ends : is_white (get_or file i 0) ≡ false → (get_or file i 0 ≡ 35 → ⊥) → From file (after_gap false (drop at file)) i
  gap_ends e p =
      left_stop l (ap (after_gap false) (split file i h) ∙ gap_stop (get_or file i 0) (drop (i + 1) file) e p ∙ sym (split file i h))
