-- One axis of a shift list: the coordinates that stand at every second place, and the largest of them, one more at a time.
use Rattle.std.specs.Prelude.{◌≡◌, List, [], ◌∷◌, ◌++◌, map, ℕ, suc, ◌+◌, ◌*◌, ◌/◌, max, length, get_or, ℤ, pos}
use Rattle.std.proofs.Common.{sym, ap, ◌∙◌, arith}
use Rattle.definitions.specs.Build.{build}
use Rattle.definitions.specs.Geometry.{Shift, largest, crop_start, crop_width, Rect, common_crop, shifts_of}
use Rattle.laws.specs.general.Lists.{build_none, build_more, build_cons, build_same}

-- Of axis 0 the first coordinate, the third and so on; of axis 1 the second, the fourth and so on.
unfoldable pub axis_of : ℕ → List ℤ → List ℤ
axis_of axis l = build (length l / 2) (λ (k : ℕ). get_or l (2 * k + axis) (pos 0))

-- ---- the largest, one more at a time

largest_last : (f : ℤ → ℕ) (l : List ℤ) (z : ℤ) → largest f (l ++ (z ∷ [])) ≡ max (largest f l) (f z)
unfolding largest
largest_last f [] z = omega arith
largest_last f (y ∷ l) z = omega (arith, largest_last f l z)

pub largest_none : (f : ℤ → ℕ) (g : ℕ → ℤ) → 0 ≡ largest f (build 0 g)
unfolding largest
largest_none f g = sym (ap (largest f) (build_none g))

pub largest_more : (f : ℤ → ℕ) (g : ℕ → ℤ) (n : ℕ) {m : ℕ} → m ≡ largest f (build n g) → max m (f (g n)) ≡ largest f (build (n + 1) g)
largest_more f g n {m} e = sym (ap (largest f) (build_more n g) ∙ largest_last f (build n g) (g n) ∙ ap (λ (k : ℕ). max k (f (g n))) (sym e))

-- ---- the two axes of a shift list are the coordinates of its shifts

axis_next : (axis : ℕ) (x y : ℤ) (l : List ℤ) → axis_of axis (x ∷ y ∷ l) ≡ get_or (x ∷ y ∷ l) axis (pos 0) ∷ axis_of axis l
unfolding axis_of
axis_next axis x y l =
    ap (λ (n : ℕ). build n (λ (k : ℕ). get_or (x ∷ y ∷ l) (2 * k + axis) (pos 0))) (half (length l))
    ∙ build_cons (length l / 2) (λ (k : ℕ). get_or (x ∷ y ∷ l) (2 * k + axis) (pos 0))
    ∙ ap (λ (n : ℕ). get_or (x ∷ y ∷ l) n (pos 0) ∷ build (length l / 2) (λ (k : ℕ). get_or (x ∷ y ∷ l) (2 * suc k + axis) (pos 0))) (first axis)
    ∙ ap (λ (m : List ℤ). get_or (x ∷ y ∷ l) axis (pos 0) ∷ m)
    (build_same (length l / 2) (λ (k : ℕ). get_or (x ∷ y ∷ l) (2 * suc k + axis) (pos 0)) (λ (k : ℕ). get_or l (2 * k + axis) (pos 0))
    (λ k h. ap (λ (n : ℕ). get_or (x ∷ y ∷ l) n (pos 0)) (past k axis)))
  where
    half : (n : ℕ) → suc (suc n) / 2 ≡ suc (n / 2)
    half n = omega arith

    first : (axis : ℕ) → 2 * 0 + axis ≡ axis
    first axis = omega arith

    past : (k axis : ℕ) → 2 * suc k + axis ≡ suc (suc (2 * k + axis))
    past k axis = omega arith

axis_few : (axis : ℕ) (l : List ℤ) → length l / 2 ≡ 0 → axis_of axis l ≡ []
unfolding axis_of
axis_few axis l e =
    ap (λ (n : ℕ). build n (λ (k : ℕ). get_or l (2 * k + axis) (pos 0))) e ∙ build_none (λ (k : ℕ). get_or l (2 * k + axis) (pos 0))

across : (l : List ℤ) → map (λ (s : Shift). s.x) (shifts_of l) ≡ axis_of 0 l
unfolding shifts_of
across [] = sym (axis_few 0 [] (omega arith))
across (x ∷ []) = sym (axis_few 0 (x ∷ []) (omega arith))
across (x ∷ y ∷ l) = ap (λ (m : List ℤ). x ∷ m) (across l) ∙ sym (axis_next 0 x y l)

down : (l : List ℤ) → map (λ (s : Shift). s.y) (shifts_of l) ≡ axis_of 1 l
unfolding shifts_of
down [] = sym (axis_few 1 [] (omega arith))
down (x ∷ []) = sym (axis_few 1 (x ∷ []) (omega arith))
down (x ∷ y ∷ l) = ap (λ (m : List ℤ). y ∷ m) (down l) ∙ sym (axis_next 1 x y l)

-- ---- the crop of a shift list, an axis at a time

pub crop_of_axes : (l : List ℤ) (w h : ℕ) {x y width height : ℕ}
    → x ≡ crop_start (axis_of 0 l) → y ≡ crop_start (axis_of 1 l) → width ≡ crop_width w (axis_of 0 l) → height ≡ crop_width h (axis_of 1 l)
    → ◌≡◌ {A = Rect} (record { x = x; y = y; width = width; height = height }) (common_crop (shifts_of l) w h)
unfolding common_crop
crop_of_axes l w h p q r s = λ i. record {
  x = (p ∙ ap crop_start (sym (across l))) i;
  y = (q ∙ ap crop_start (sym (down l))) i;
  width = (r ∙ ap (crop_width w) (sym (across l))) i;
  height = (s ∙ ap (crop_width h) (sym (down l))) i;
}
