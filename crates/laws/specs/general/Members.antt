-- What a list has in it, and in what order: of a list by index, of lists one after another, of an image, of the elements that pass a
-- test, and of a mapped list.
use Rattle.std.specs.Prelude.{◌≡◌, Bool, true, false, cond, ◌⊎◌, get_or}
use Rattle.std.proofs.Math.Path.{refl, ap, subst₂}
use Rattle.std.proofs.Common.{sym, ◌∙◌, subst, not-suc-le-zero, eq-or-lt_of_le, le_of_suc-le-suc, arith}
use Rattle.std.proofs.Math.Logic.{inl, inr, ⊎_elim}
use mathlib.Core.List.{List, [], ◌∷◌, ◌++◌, map}
use mathlib.Core.List.{Memᴰ}
use Prim.Native.Nat.{ℕ, zero, suc, ◌+◌, ◌≤◌, ◌<◌}
use Rattle.std.proofs.Math.Nat.{le_refl, le-suc, lt_of_lt_of_le}
use Rattle.std.proofs.Math.ListN.{length, length-append}
use Rattle.definitions.specs.Sum.{sum}
use Rattle.definitions.specs.Build.{build, joined, image, keep_if}
use Rattle.laws.specs.general.Cases.{clash}

-- ---- membership: `in_` says what a list has, `of_` what each of its elements is

module _ {A : Type 0} where
  -- a list by index: what f gives below n
  pub in_build : {a : A} (n : ℕ) (f : ℕ → A) (i : ℕ) → i < n → a ≡ f i → Memᴰ a (build n f)
  unfolding build
  in_build zero f i l e = absurd (not-suc-le-zero l)
  in_build (suc n) f i l e = ⊎_elim
      (λ (p : i ≡ n). mathlib.Core.List.Memᴰ.append_right (build n f) (mathlib.Core.List.Memᴰ.head (e ∙ ap f p)))
      (λ (p : i < n). mathlib.Core.List.Memᴰ.append_left (f n ∷ []) (in_build n f i p e))
      (eq-or-lt_of_le (le_of_suc-le-suc l))

  pub of_build : {a : A} (n : ℕ) (f : ℕ → A) → Memᴰ a (build n f) → (i : ℕ) × (i < n) × (a ≡ f i)
  unfolding build
  of_build zero f m = absurd (mathlib.Core.List.Memᴰ.not-nil m)
  of_build {a} (suc n) f m = ⊎_elim
      (λ (p : Memᴰ a (build n f)). let t = of_build n f p in (t.0, lt_of_lt_of_le t.1 (le-suc n), t.2))
      (λ (p : Memᴰ a (f n ∷ [])). (n, le_refl (suc n), mathlib.Core.List.Memᴰ.eq_of_singleton p))
      (mathlib.Core.List.Memᴰ.append_cases (build n f) m)

  -- lists one after another: what each of them has
  pub in_joined : {a : A} (n : ℕ) (r : ℕ → List A) (i : ℕ) → i < n → Memᴰ a (r i) → Memᴰ a (joined n r)
  unfolding joined
  in_joined zero r i l m = absurd (not-suc-le-zero l)
  in_joined {a} (suc n) r i l m = ⊎_elim
      (λ (p : i ≡ n). mathlib.Core.List.Memᴰ.append_right (joined n r) (subst (λ (k : ℕ). Memᴰ a (r k)) p m))
      (λ (p : i < n). mathlib.Core.List.Memᴰ.append_left (r n) (in_joined n r i p m))
      (eq-or-lt_of_le (le_of_suc-le-suc l))

  pub of_joined : {a : A} (n : ℕ) (r : ℕ → List A) → Memᴰ a (joined n r) → (i : ℕ) × (i < n) × Memᴰ a (r i)
  unfolding joined
  of_joined zero r m = absurd (mathlib.Core.List.Memᴰ.not-nil m)
  of_joined {a} (suc n) r m = ⊎_elim
      (λ (p : Memᴰ a (joined n r)). let t = of_joined n r p in (t.0, lt_of_lt_of_le t.1 (le-suc n), t.2))
      (λ (p : Memᴰ a (r n)). (n, le_refl (suc n), p))
      (mathlib.Core.List.Memᴰ.append_cases (joined n r) m)

  -- an image: its pixels
  pub in_image : {a : A} (w h : ℕ) (p : ℕ → ℕ → A) (x y : ℕ) → x < w → y < h → a ≡ p x y → Memᴰ a (image w h p)
  in_image w h p x y u v e = in_joined h (λ (y : ℕ). build w (λ (x : ℕ). p x y)) y v (in_build w (λ (x : ℕ). p x y) x u e)

  pub of_image : {a : A} (w h : ℕ) (p : ℕ → ℕ → A) → Memᴰ a (image w h p) → (x : ℕ) × (y : ℕ) × (x < w) × (y < h) × (a ≡ p x y)
  of_image w h p m =
      let row = of_joined h (λ (y : ℕ). build w (λ (x : ℕ). p x y)) m in
      let place = of_build w (λ (x : ℕ). p x row.0) row.2 in
      (place.0, row.0, place.1, row.1, place.2)

  -- one more element of a list whose elements have to pass a test, by what the test says of it
  in_cond : {a b : A} {l : List A} (t : Bool) → ((a ≡ b) × (t ≡ true)) ⊎ Memᴰ a l → Memᴰ a (cond t (b ∷ l) l)
  in_cond true (inl e) = mathlib.Core.List.Memᴰ.head e.0
  in_cond true (inr m) = mathlib.Core.List.Memᴰ.tail m
  in_cond false (inl e) = clash (sym e.1)
  in_cond false (inr m) = m

  of_cond : {a b : A} {l : List A} (t : Bool) → Memᴰ a (cond t (b ∷ l) l) → ((a ≡ b) × (t ≡ true)) ⊎ Memᴰ a l
  of_cond {a} {b} {l} true m = ⊎_elim (λ (e : a ≡ b). inl (e, refl)) (λ (p : Memᴰ a l). inr p) (mathlib.Core.List.Memᴰ.cases_cons m)
  of_cond false m = inr m

  -- the elements that pass a test: those of the list that do
  pub in_kept : {a : A} (test : A → Bool) (l : List A) → Memᴰ a l → test a ≡ true → Memᴰ a (keep_if test l)
  unfolding keep_if
  in_kept test [] m e = m
  in_kept {a} test (b ∷ l) m e = in_cond (test b)
      (⊎_elim (λ (p : a ≡ b). inl (p, ap test (sym p) ∙ e)) (λ (p : Memᴰ a l). inr (in_kept test l p e)) (mathlib.Core.List.Memᴰ.cases_cons m))

  pub of_kept : {a : A} (test : A → Bool) (l : List A) → Memᴰ a (keep_if test l) → Memᴰ a l × (test a ≡ true)
  unfolding keep_if
  of_kept test [] m = absurd (mathlib.Core.List.Memᴰ.not-nil m)
  of_kept {a} test (b ∷ l) m = ⊎_elim
      (λ (p : (a ≡ b) × (test b ≡ true)). (mathlib.Core.List.Memᴰ.head p.0, ap test p.0 ∙ p.1))
      (λ (p : Memᴰ a (keep_if test l)). let t = of_kept test l p in (mathlib.Core.List.Memᴰ.tail t.0, t.1))
      (of_cond (test b) m)

  -- a mapped list: what f gives at each element
  pub in_map : {B : Type 0} {a : A} {b : B} (f : A → B) {l : List A} → Memᴰ a l → b ≡ f a → Memᴰ b (map f l)
  in_map f m e = mathlib.Core.List.Memᴰ.cast e (mathlib.Core.List.Memᴰ.map f m)

  pub of_map : {B : Type 0} {b : B} (f : A → B) (l : List A) → Memᴰ b (map f l) → (a : A) × Memᴰ a l × (b ≡ f a)
  of_map f l m = let t = mathlib.Core.List.Memᴰ.of_map f l m in (t.0, t.1, sym t.2)

  -- what stands at an index
  pub in_at : (l : List A) (i : ℕ) (d : A) → i < length l → Memᴰ (get_or l i d) l
  in_at [] i d h = absurd (not-suc-le-zero h)
  in_at (a ∷ l) zero d h = mathlib.Core.List.Memᴰ.head refl
  in_at (a ∷ l) (suc i) d h = mathlib.Core.List.Memᴰ.tail (in_at l i d (le_of_suc-le-suc h))

  -- a list of one has nothing else in it
  pub of_one : (l : List A) → length l ≡ 1 → {a b : A} → Memᴰ a l → Memᴰ b l → a ≡ b
  of_one [] e m k = absurd (mathlib.Core.List.Memᴰ.not-nil m)
  of_one (c ∷ []) e m k = mathlib.Core.List.Memᴰ.eq_of_singleton m ∙ sym (mathlib.Core.List.Memᴰ.eq_of_singleton k)
  of_one (c ∷ c' ∷ l) e m k = absurd (never (length l) e)
    where
      never : (n : ℕ) → suc (suc n) ≡ 1 → ⊥
      never n e = omega arith

  -- ---- length

  -- of lists one after another, the sum of theirs
  pub joined_sum : (n : ℕ) (r : ℕ → List A) → length (joined n r) ≡ sum n (λ (i : ℕ). length (r i))
  unfolding joined sum
  joined_sum zero r = refl
  joined_sum (suc n) r = length-append (joined n r) (r n) ∙ ap (λ (k : ℕ). k + length (r n)) (joined_sum n r)

-- ---- order

-- each element stands in R to every one after it
pub data Ordered {A : Type 0} (R : A → A → Type 0) : List A → Type 0 where
  none : Ordered R []
  more : {a : A} {l : List A} → ((b : A) → Memᴰ b l → R a b) → Ordered R l → Ordered R (a ∷ l)

module _ {A : Type 0} {R : A → A → Type 0} where
  -- two lists, where each element of the first stands in R to each of the second
  pub ordered_append : {s t : List A} → Ordered R s → Ordered R t → ((a b : A) → Memᴰ a s → Memᴰ b t → R a b) → Ordered R (s ++ t)
  ordered_append none q h = q
  ordered_append {t} (more {a = a} {l = l} f p) q h = more
      (λ b m. ⊎_elim (λ (k : Memᴰ b l). f b k) (λ (k : Memᴰ b t). h a b (mathlib.Core.List.Memᴰ.head refl) k) (mathlib.Core.List.Memᴰ.append_cases l m))
      (ordered_append p q (λ c d m k. h c d (mathlib.Core.List.Memᴰ.tail m) k))

  -- one element
  pub ordered_one : (a : A) → Ordered R (a ∷ [])
  ordered_one a = more (λ b m. absurd (mathlib.Core.List.Memᴰ.not-nil m)) none

  -- lists one after another, each in order, and each element of one before each of a later one
  pub ordered_joined : (n : ℕ) (r : ℕ → List A) → ((i : ℕ) → i < n → Ordered R (r i))
      → ((i j : ℕ) → i < j → j < n → (a b : A) → Memᴰ a (r i) → Memᴰ b (r j) → R a b) → Ordered R (joined n r)
  unfolding joined
  ordered_joined zero r p h = none
  ordered_joined (suc n) r p h = ordered_append
      (ordered_joined n r (λ i l. p i (lt_of_lt_of_le l (le-suc n))) (λ i j l k. h i j l (lt_of_lt_of_le k (le-suc n))))
      (p n (le_refl (suc n)))
      (λ a b m k. let t = of_joined n r m in h t.0 n t.1 (le_refl (suc n)) a b t.2 k)

  -- a list by index, where f rises
  pub ordered_build : (n : ℕ) (f : ℕ → A) → ((i j : ℕ) → i < j → j < n → R (f i) (f j)) → Ordered R (build n f)
  unfolding build
  ordered_build zero f h = none
  ordered_build (suc n) f h = ordered_append
      (ordered_build n f (λ i j l k. h i j l (lt_of_lt_of_le k (le-suc n))))
      (ordered_one (f n))
      (λ a b m k. let t = of_build n f m in subst₂ R (sym t.2) (sym (mathlib.Core.List.Memᴰ.eq_of_singleton k)) (h t.0 n t.1 (le_refl (suc n))))

  -- an image that rises along each row, and from a row to every lower one
  pub ordered_image : (w h : ℕ) (p : ℕ → ℕ → A) → ((x x' y : ℕ) → x < x' → x' < w → y < h → R (p x y) (p x' y))
      → ((x x' y y' : ℕ) → y < y' → x < w → x' < w → y' < h → R (p x y) (p x' y')) → Ordered R (image w h p)
  ordered_image w h p along below = ordered_joined h (λ (y : ℕ). build w (λ (x : ℕ). p x y))
      (λ y l. ordered_build w (λ (x : ℕ). p x y) (λ x x' u v. along x x' y u v l))
      (λ y y' u v a b m k.
      let s = of_build w (λ (x : ℕ). p x y) m in
      let t = of_build w (λ (x : ℕ). p x y') k in
      subst₂ R (sym s.2) (sym t.2) (below s.0 t.0 y y' u s.1 t.1 v))

  -- one more element of a list whose elements have to pass a test
  ordered_cond : (a : A) {l : List A} (t : Bool) → ((b : A) → Memᴰ b l → R a b) → Ordered R l → Ordered R (cond t (a ∷ l) l)
  ordered_cond a true f p = more f p
  ordered_cond a false f p = p

  -- the elements that pass a test
  pub ordered_kept : (test : A → Bool) {l : List A} → Ordered R l → Ordered R (keep_if test l)
  unfolding keep_if
  ordered_kept test none = none
  ordered_kept test (more {a = a} {l = l} f p) = ordered_cond a (test a) (λ b m. f b (of_kept test l m).0) (ordered_kept test p)

  -- a mapped list, where f takes one order to the other
  pub ordered_map : {B : Type 0} {S : B → B → Type 0} (f : B → A) {l : List B} → ((a b : B) → S a b → R (f a) (f b)) → Ordered S l → Ordered R (map f l)
  ordered_map f h none = none
  ordered_map f h (more {a = a} {l = l} g p) = more
      (λ b m. let t = of_map f l m in subst (λ c. R (f a) c) (sym t.2) (h a t.0 (g t.0 t.1)))
      (ordered_map f h p)

  -- the order by index
  pub ordered_at : {l : List A} → Ordered R l → (i j : ℕ) → i < j → j < length l → (d : A) → R (get_or l i d) (get_or l j d)
  ordered_at none i j u v d = absurd (not-suc-le-zero v)
  ordered_at (more {l = l} f p) i zero u v d = absurd (not-suc-le-zero u)
  ordered_at (more {l = l} f p) zero (suc j) u v d = f (get_or l j d) (in_at l j d (le_of_suc-le-suc v))
  ordered_at (more {l = l} f p) (suc i) (suc j) u v d = ordered_at p i j (le_of_suc-le-suc u) (le_of_suc-le-suc v) d

-- ---- where nothing stands in R to itself, no element comes twice
module _ {A : Type 0} (R : A → A → Type 0) (irreflexive : (a : A) → R a a → ⊥) where
  -- two that stand in R are not both the same
  apart : {a b c : A} → R a b → a ≡ c → b ≡ c → ⊥
  apart {c} r e k = irreflexive c (subst₂ R e k r)

  -- so a list of which every element is the same has one
  pub ordered_alone : {a : A} {l : List A} → Ordered R l → Memᴰ a l → ((b : A) → Memᴰ b l → b ≡ a) → length l ≡ 1
  ordered_alone none m h = absurd (mathlib.Core.List.Memᴰ.not-nil m)
  ordered_alone (more f none) m h = refl
  ordered_alone (more {a = b} f (more {a = c} g p)) m h =
      absurd (apart (f c (mathlib.Core.List.Memᴰ.head refl)) (h b (mathlib.Core.List.Memᴰ.head refl)) (h c (mathlib.Core.List.Memᴰ.tail (mathlib.Core.List.Memᴰ.head refl))))

  -- and at most one where it may have none
  pub ordered_few : {a : A} {l : List A} → Ordered R l → ((b : A) → Memᴰ b l → b ≡ a) → length l ≤ 1
  ordered_few none h = omega arith
  ordered_few (more {a = b} f p) h = omega (arith, ordered_alone (more f p) (mathlib.Core.List.Memᴰ.head refl) (λ c m. h c m ∙ sym (h b (mathlib.Core.List.Memᴰ.head refl))))

  -- and one of another length has another element
  pub ordered_another : {a : A} {l : List A} → Ordered R l → Memᴰ a l → (length l ≡ 1 → ⊥) → (b : A) × Memᴰ b l × (b ≡ a → ⊥)
  ordered_another none m ne = absurd (mathlib.Core.List.Memᴰ.not-nil m)
  ordered_another (more f none) m ne = absurd (ne refl)
  ordered_another {a} (more {a = b} f (more {a = c} {l = l} g p)) m ne = ⊎_elim
      (λ (e : a ≡ b). (c, mathlib.Core.List.Memᴰ.tail (mathlib.Core.List.Memᴰ.head refl), λ k. apart (f c (mathlib.Core.List.Memᴰ.head refl)) (sym e) k))
      (λ (k : Memᴰ a (c ∷ l)). (b, mathlib.Core.List.Memᴰ.head refl, λ e. apart (f a k) e refl))
      (mathlib.Core.List.Memᴰ.cases_cons m)
