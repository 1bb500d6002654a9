-- The crop: a place is in it exactly if every frame, moved by its shift, covers it.
use Rattle.std.specs.Prelude.{◌≡◌, refl, length, get_or, ℤ}
use Rattle.std.proofs.Common.{sym, ap, not-suc-le-zero, le_of_suc-le-suc, zero-lt-suc}
use Rattle.std.proofs.Math.Path.{subst}
use mathlib.Core.List.{List, [], ◌∷◌, map}
use Prim.Native.Nat.{ℕ, zero, suc, ◌+◌, ◌-◌, ◌<◌, ◌≤◌, suc-le-suc}
use native.Mathlib.Omega.{arith}
use Rattle.definitions.specs.Geometry.{Shift, Inside, source, origin, ahead, behind, largest, crop_start, crop_lost, crop_width, common_crop, Covers, Place, shifts_of, listed}
use Rattle.definitions.specs.Align.{Stack, shift_of, shifts}
use Rattle.definitions.specs.Report.{report_crop}
use Rattle.laws.specs.general.Lists.{build_length, build_at}
use Rattle.laws.specs.images.Places.{Keeps, keeps_inside, inside_keeps}

-- ---- along one axis, where c gives each shift's coordinate

module _ (c : Shift → ℤ) where
  le_largest : (f : ℤ → ℕ) (l : List Shift) (i : ℕ) → i < length l → f (c (get_or l i origin)) ≤ largest f (map c l)
  unfolding largest
  le_largest f [] i h = absurd (not-suc-le-zero h)
  le_largest f (s ∷ l) zero h = omega arith
  le_largest f (s ∷ l) (suc i) h = omega (arith, le_largest f l i (le_of_suc-le-suc h))

  pub largest_le : (f : ℤ → ℕ) (l : List Shift) (b : ℕ) → ((i : ℕ) → i < length l → f (c (get_or l i origin)) ≤ b) → largest f (map c l) ≤ b
  unfolding largest
  largest_le f [] b h = omega arith
  largest_le f (s ∷ l) b h = omega (arith, h 0 (zero-lt-suc (length l)), largest_le f l b (λ i k. h (suc i) (suc-le-suc k)))

  module _ (d e : ℕ) (l : List Shift) where
    between_inside : crop_start (map c l) ≤ d → d < crop_start (map c l) + crop_width e (map c l) → (i : ℕ) → i < length l → Inside (source d (c (get_or l i origin)) e)
    between_inside p q i h =
        keeps_inside d e (c (get_or l i origin)) (record { low = omega (arith, le_largest ahead l i h); high = omega (arith, le_largest ahead l i h, le_largest behind l i h) })

    module _ (k : d < e) (h : (i : ℕ) → i < length l → Inside (source d (c (get_or l i origin)) e)) where
      keeps : (i : ℕ) → i < length l → Keeps d e (c (get_or l i origin))
      keeps i m = inside_keeps d e (c (get_or l i origin)) k (h i m)

      start_le : crop_start (map c l) ≤ d
      start_le = largest_le ahead l d (λ i m. (keeps i m).low)

      lost_le : crop_lost (map c l) ≤ e - d - 1
      lost_le = largest_le behind l (e - d - 1) (λ i m. room (keeps i m).high)
        where
          room : {b : ℕ} → d + b < e → b ≤ e - d - 1
          room {b} h = omega arith

      inside_between : (crop_start (map c l) ≤ d) × (d < crop_start (map c l) + crop_width e (map c l))
      inside_between = (start_le, omega (arith, start_le, lost_le))

-- ---- the theorem, for any list of shifts: frame i is moved by the i-th

abbrev pub CoveredByAll : List Shift → ℕ → ℕ → ℕ → ℕ → Type 0
CoveredByAll l w h x y = (i : ℕ) → i < length l → Covers w h (get_or l i origin) x y

module _ (l : List Shift) (w h x y : ℕ) where
  pub crop_covered : Place (common_crop l w h) x y → CoveredByAll l w h x y
  unfolding common_crop
  crop_covered p i k = record {
    across = between_inside (λ (s : Shift). s.x) x w l p.from_x p.to_x i k;
    down = between_inside (λ (s : Shift). s.y) y h l p.from_y p.to_y i k;
  }

  -- x and y a place of the frame
  pub covered_crop : x < w → y < h → CoveredByAll l w h x y → Place (common_crop l w h) x y
  unfolding common_crop
  covered_crop a b c =
      let across = inside_between (λ (s : Shift). s.x) x w l a (λ i k. (c i k).across) in
      let down = inside_between (λ (s : Shift). s.y) y h l b (λ i k. (c i k).down) in
      record { from_x = across.0; to_x = across.1; from_y = down.0; to_y = down.1 }

-- a place of a crop is a place of the frame
pub crop_in_frame : (l : List Shift) (w h x y : ℕ) → Place (common_crop l w h) x y → (x < w) × (y < h)
unfolding common_crop
crop_in_frame l w h x y p = (omega (arith, p.from_x, p.to_x), omega (arith, p.from_y, p.to_y))

-- ---- for a report: frame k is moved by its shift

abbrev pub CoveredByFrames : Stack → ℕ → ℕ → Type 0
CoveredByFrames a x y = (k : ℕ) → k < a.frames → Covers a.width a.height (shift_of a k) x y

module _ (a : Stack) (x y : ℕ) where
  shift_at : (k : ℕ) → k < a.frames → get_or (shifts a) k origin ≡ shift_of a k
  unfolding shifts
  shift_at k h = build_at a.frames (shift_of a) k origin h

  shifts_length : length (shifts a) ≡ a.frames
  unfolding shifts
  shifts_length = build_length a.frames (shift_of a)

  pub report_crop_in_frame : Place (report_crop a) x y → (x < a.width) × (y < a.height)
  unfolding report_crop
  report_crop_in_frame p = crop_in_frame (shifts a) a.width a.height x y p

  pub report_crop_covered : Place (report_crop a) x y → CoveredByFrames a x y
  unfolding report_crop
  report_crop_covered p k h = subst (λ (s : Shift). Covers a.width a.height s x y) (shift_at k h)
      (crop_covered (shifts a) a.width a.height x y p k (subst (λ (n : ℕ). k < n) (sym shifts_length) h))

  pub covered_report_crop : x < a.width → y < a.height → CoveredByFrames a x y → Place (report_crop a) x y
  unfolding report_crop
  covered_report_crop p q c = covered_crop (shifts a) a.width a.height x y p q
      (λ i h. let k : i < a.frames = subst (λ (n : ℕ). i < n) shifts_length h in
      subst (λ (s : Shift). Covers a.width a.height s x y) (sym (shift_at i k)) (c i k))

-- ---- a shift list and its shifts

pub shifts_listed : (l : List Shift) → shifts_of (listed l) ≡ l
unfolding shifts_of listed
shifts_listed [] = refl
shifts_listed (s ∷ l) = ap (λ (m : List Shift). s ∷ m) (shifts_listed l)

pub listed_length : (l : List Shift) → length (listed l) ≡ length l + length l
unfolding listed
listed_length [] = refl
listed_length (s ∷ l) = omega (arith, listed_length l)
