-- Lists by index, images by pixel, and the sample of a frame at a column and a row.
use Rattle.std.specs.Prelude.{ℕ, zero, suc, ◌+◌, ◌*◌, Bool, cond, List, [], ◌∷◌, ◌++◌, get_or}

-- The list f 0, f 1, .. f (n - 1).
unfoldable pub build : {A : Type 0} → ℕ → (ℕ → A) → List A
build zero f = []
build (suc n) f = build n f ++ (f n ∷ [])

-- The lists r 0, r 1, .. r (n - 1), one after another.
unfoldable pub joined : {A : Type 0} → ℕ → (ℕ → List A) → List A
joined zero r = []
joined (suc n) r = joined n r ++ r n

-- An image row by row: p column row for each of w columns and h rows. Empty where a side is 0.
abbrev pub image : {A : Type 0} → ℕ → ℕ → (ℕ → ℕ → A) → List A
image w h p = joined h (λ (y : ℕ). build w (λ (x : ℕ). p x y))

-- The sample at column x and row y of a frame of width w. Past the last sample it is 0, on which nothing rests.
abbrev pub sample : List ℕ → ℕ → ℕ → ℕ → ℕ
sample s w x y = get_or s (y * w + x) 0

-- The elements of a list that pass a test, in their order.
unfoldable pub keep_if : {A : Type 0} → (A → Bool) → List A → List A
keep_if test [] = []
keep_if test (a ∷ l) = cond (test a) (a ∷ keep_if test l) (keep_if test l)
