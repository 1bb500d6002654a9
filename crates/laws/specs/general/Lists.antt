-- Laws of lists by index and of images by pixel and by rows: one more, length, element, extensionality.
use Rattle.std.specs.Prelude.{◌≡◌}
use Rattle.std.proofs.Math.Path.{refl, sym, ap}
use Rattle.std.proofs.Common.{◌∙◌, subst, ⊎_elim, add-zero, add-suc, not-suc-le-zero, eq-or-lt_of_le, le_of_suc-le-suc, zero-mul, le_refl, lt_of_lt_of_le, arith, ext_get_or}
use mathlib.Core.List.{List, [], ◌∷◌, ◌++◌, append_assoc, append-nil}
use Prim.Native.Nat.{ℕ, zero, suc, ◌+◌, ◌*◌, ◌<◌, ◌≤◌}
use Rattle.std.proofs.Math.Nat.{suc-mul, mul-le-mul_right, le-suc}
use Rattle.std.proofs.Math.Numerals.{add-one}
use Rattle.definitions.specs.Build.{build, joined, image}
use Rattle.std.proofs.Math.ListN.{length, get_or, replicate, length-append, get_or-append, replicate-append-replicate}
use Rattle.std.proofs.Math.Seq.{get_or-append-add, get_or_at}

-- an index below n + 1 is n, or below n
split : {n i : ℕ} {P : Type 0} → i < suc n → (i < n → P) → (i ≡ n → P) → P
split h f g = ⊎_elim g f (eq-or-lt_of_le (le_of_suc-le-suc h))

module _ {A : Type 0} where
  pub build_none : (f : ℕ → A) → build 0 f ≡ []
  unfolding build
  build_none f = refl

  pub build_more : (n : ℕ) (f : ℕ → A) → build (n + 1) f ≡ build n f ++ (f n ∷ [])
  unfolding build
  build_more n f = ap (λ (k : ℕ). build k f) (add-one n)

  -- the first apart, and some before others
  pub build_cons : (n : ℕ) (f : ℕ → A) → build (suc n) f ≡ f 0 ∷ build n (λ (k : ℕ). f (suc k))
  unfolding build
  build_cons zero f = refl
  build_cons (suc n) f = ap (λ (l : List A). l ++ (f (suc n) ∷ [])) (build_cons n f)

  pub build_add : (n m : ℕ) (f : ℕ → A) → build (n + m) f ≡ build n f ++ build m (λ (k : ℕ). f (n + k))
  unfolding build
  build_add n zero f = ap (λ (k : ℕ). build k f) (add-zero n) ∙ sym (append-nil (build n f))
  build_add n (suc m) f =
      ap (λ (k : ℕ). build k f) (add-suc n m)
      ∙ ap (λ (l : List A). l ++ (f (n + m) ∷ [])) (build_add n m f)
      ∙ append_assoc (build n f) (build m (λ (k : ℕ). f (n + k))) (f (n + m) ∷ [])

  pub build_length : (n : ℕ) (f : ℕ → A) → length (build n f) ≡ n
  unfolding build
  build_length zero f = refl
  build_length (suc n) f = length-append (build n f) (f n ∷ []) ∙ ap (λ (k : ℕ). k + 1) (build_length n f) ∙ add-one n

  pub build_at : (n : ℕ) (f : ℕ → A) (i : ℕ) (d : A) → i < n → get_or (build n f) i d ≡ f i
  unfolding build
  build_at zero f i d h = absurd (not-suc-le-zero h)
  build_at (suc n) f i d h =
      split h
      (λ (l : i < n). get_or-append (build n f) (f n ∷ []) d i (subst (λ (k : ℕ). i < k) (sym (build_length n f)) l) ∙ build_at n f i d l)
      (λ (e : i ≡ n). get_or_at (build n f) (f n) [] d i (build_length n f ∙ sym e) ∙ ap f (sym e))

  -- two functions that agree below n
  pub build_same : (n : ℕ) (f g : ℕ → A) → ((i : ℕ) → i < n → f i ≡ g i) → build n f ≡ build n g
  unfolding build
  build_same zero f g h = refl
  build_same (suc n) f g h =
      ap (λ (l : List A). l ++ (f n ∷ [])) (build_same n f g (λ i l. h i (lt_of_lt_of_le l (le-suc n))))
      ∙ ap (λ (a : A). build n g ++ (a ∷ [])) (h n (le_refl (suc n)))

  -- a list is built by what it has at each index
  pub build_is : (n : ℕ) (f : ℕ → A) (l : List A) (d : A) → length l ≡ n → ((i : ℕ) → i < n → get_or l i d ≡ f i) → l ≡ build n f
  build_is n f l d e h =
      ext_get_or d l (build n f) (e ∙ sym (build_length n f))
      (λ i k. let b : i < n = subst (λ (m : ℕ). i < m) e k in h i b ∙ sym (build_at n f i d b))

  pub build_const : (n : ℕ) (v : A) → build n (λ (i : ℕ). v) ≡ replicate n v
  unfolding build
  build_const zero v = refl
  build_const (suc n) v =
      ap (λ (l : List A). l ++ (v ∷ [])) (build_const n v)
      ∙ replicate-append-replicate n 1 v
      ∙ ap (λ (k : ℕ). replicate k v) (add-one n)

  pub joined_none : (r : ℕ → List A) → joined 0 r ≡ []
  unfolding joined
  joined_none r = refl

  pub joined_more : (n : ℕ) (r : ℕ → List A) → joined (n + 1) r ≡ joined n r ++ r n
  unfolding joined
  joined_more n r = ap (λ (k : ℕ). joined k r) (add-one n)

  pub joined_length : (n w : ℕ) (r : ℕ → List A) → ((i : ℕ) → i < n → length (r i) ≡ w) → length (joined n r) ≡ n * w
  unfolding joined
  joined_length zero w r h = sym (zero-mul w)
  joined_length (suc n) w r h =
      length-append (joined n r) (r n)
      ∙ ap (λ (k : ℕ). k + length (r n)) (joined_length n w r (λ i l. h i (lt_of_lt_of_le l (le-suc n))))
      ∙ ap (λ (k : ℕ). n * w + k) (h n (le_refl (suc n)))
      ∙ sym (suc-mul n w)

  pub joined_at : (n w : ℕ) (r : ℕ → List A) (d : A) → ((i : ℕ) → i < n → length (r i) ≡ w) → (y x : ℕ) → y < n → x < w → get_or (joined n r) (y * w + x) d ≡ get_or (r y) x d
  unfolding joined
  joined_at zero w r d h y x p q = absurd (not-suc-le-zero p)
  joined_at (suc n) w r d h y x p q =
      let h' : (i : ℕ) → i < n → length (r i) ≡ w = λ i l. h i (lt_of_lt_of_le l (le-suc n)) in
      let e : length (joined n r) ≡ n * w = joined_length n w r h' in
      split p
      (λ (l : y < n).
      let m : suc y * w ≤ n * w = mul-le-mul_right w l in
      get_or-append (joined n r) (r n) d (y * w + x) (omega (arith, suc-mul y w)) ∙ joined_at n w r d h' y x l q)
      (λ (k : y ≡ n).
      ap (λ (j : ℕ). get_or (joined n r ++ r n) (j + x) d) (ap (λ (i : ℕ). i * w) k ∙ sym e)
      ∙ get_or-append-add (joined n r) (r n) x d
      ∙ ap (λ (i : ℕ). get_or (r i) x d) (sym k))

  pub joined_same : (n : ℕ) (r s : ℕ → List A) → ((i : ℕ) → i < n → r i ≡ s i) → joined n r ≡ joined n s
  unfolding joined
  joined_same zero r s h = refl
  joined_same (suc n) r s h =
      ap (λ (l : List A). l ++ r n) (joined_same n r s (λ i l. h i (lt_of_lt_of_le l (le-suc n))))
      ∙ ap (λ (l : List A). joined n s ++ l) (h n (le_refl (suc n)))

  pub joined_const : (n w : ℕ) (v : A) → joined n (λ (i : ℕ). replicate w v) ≡ replicate (n * w) v
  unfolding joined
  joined_const zero w v = ap (λ (k : ℕ). replicate k v) (sym (zero-mul w))
  joined_const (suc n) w v =
      ap (λ (l : List A). l ++ replicate w v) (joined_const n w v)
      ∙ replicate-append-replicate (n * w) w v
      ∙ ap (λ (k : ℕ). replicate k v) (sym (suc-mul n w))

  -- ---- an image
  pub image_length : (w h : ℕ) (p : ℕ → ℕ → A) → length (image w h p) ≡ h * w
  image_length w h p = joined_length h w (λ (y : ℕ). build w (λ (x : ℕ). p x y)) (λ y l. build_length w (λ (x : ℕ). p x y))

  pub image_at : (w h : ℕ) (p : ℕ → ℕ → A) (x y : ℕ) (d : A) → x < w → y < h → get_or (image w h p) (y * w + x) d ≡ p x y
  image_at w h p x y d a b =
      joined_at h w (λ (y : ℕ). build w (λ (x : ℕ). p x y)) d (λ y l. build_length w (λ (x : ℕ). p x y)) y x b a
      ∙ build_at w (λ (x : ℕ). p x y) x d a
