-- The planes of a mosaic as they stand in the list: each plane's part is that plane, and each sample is found at its place.
use Prim.Native.Nat.{ℕ, zero, suc, ◌+◌, ◌*◌, ◌/◌, ◌%◌, ◌<◌, ◌≤◌}
use Rattle.std.specs.Prelude.{◌≡◌, Bool, ◌||◌, take, drop}
use Rattle.std.proofs.Math.Path.{sym, ap, ap₂, subst}
use Rattle.std.proofs.Common.{◌∙◌, not-suc-le-zero, le_of_suc-le-suc, eq-or-lt_of_le, arith, take_at}
use Rattle.std.proofs.Math.Bool.{false}
use mathlib.Core.List.{List, [], ◌∷◌, ◌++◌, append_assoc, append-nil}
use Rattle.std.proofs.Math.Logic.{⊎_elim}
use Rattle.std.proofs.Math.Nat.{mul_comm}
use Rattle.std.proofs.Math.Dec.{ltb}
use Rattle.std.proofs.Math.ListN.{length, get_or, get_or-append}
use Rattle.std.proofs.Math.Seq.{drop_at, get_or-append-add}
use borrow.Author.Tests.{le-ltb}
use Rattle.definitions.specs.Build.{joined, sample}
use Rattle.definitions.specs.Refusals.{accepted, answer, side_over, either_over, wrong_length}
use Rattle.laws.specs.general.Lists.{image_length, image_at}
use Rattle.laws.specs.general.Members.{joined_sum}
use Rattle.laws.specs.general.Sums.{sum_ext}
use Rattle.laws.specs.images.Sizes.{row_inside}
use Rattle.laws.specs.checks.Checks.{side_skip, length_skip, done}
use Rattle.mosaic_format.specs.Mosaic.{plane_width, plane_height, plane_start, plane, apart, plane_of, place_of, plane_at, part_of}
use Rattle.mosaic_format.specs.Accepted.{part_inside}
use Rattle.mosaic_format.specs.Halves.{half_le, plane_column, plane_row}
use Rattle.mosaic_format.specs.Places.{planes_whole, start_next, starts_up, seat, Seat, pixel_seat}

-- ---- lists one after another, of any lengths

module _ {A : Type 0} where
  -- one of them, and what stands behind it
  pub record Behind (n p : ℕ) (r : ℕ → List A) : Type 0 where
    pub rest : List A
    pub parts : joined n r ≡ joined p r ++ (r p ++ rest)

  pub one_of : (n p : ℕ) (r : ℕ → List A) → p < n → Behind n p r
  unfolding joined
  one_of zero p r l = absurd (not-suc-le-zero l)
  one_of (suc n) p r l = ⊎_elim
      (λ (e : p ≡ n). record { rest = []; parts = ap (λ (k : ℕ). joined k r ++ r k) (sym e) ∙ ap (λ (m : List A). joined p r ++ m) (sym (append-nil (r p))) })
      (λ (k : p < n). let b = one_of n p r k in record {
        rest = b.rest ++ r n;
        parts =
            ap (λ (m : List A). m ++ r n) b.parts
            ∙ append_assoc (joined p r) (r p ++ b.rest) (r n)
            ∙ ap (λ (m : List A). joined p r ++ m) (append_assoc (r p) b.rest (r n));
      })
      (eq-or-lt_of_le (le_of_suc-le-suc l))

module _ (w h : ℕ) (s : List ℕ) where
  -- ---- lengths

  pub plane_length : (p : ℕ) → length (plane w h s p) ≡ plane_width w p * plane_height h p
  unfolding plane
  plane_length p =
      image_length (plane_width w p) (plane_height h p) (λ (u v : ℕ). sample s w (2 * u + p % 2) (2 * v + p / 2)) ∙ mul_comm (plane_height h p) (plane_width w p)

  before : (p : ℕ) → length (joined p (plane w h s)) ≡ plane_start w h p
  unfolding plane_start
  before p =
      joined_sum p (plane w h s)
      ∙ sum_ext p (λ (q : ℕ). length (plane w h s q)) (λ (q : ℕ). plane_width w q * plane_height h q) (λ q _. plane_length q)

  pub apart_length : length (apart w h s) ≡ w * h
  unfolding apart
  apart_length = before 4 ∙ planes_whole w h

  -- ---- a plane stands where it starts

  module _ (p : ℕ) (l : p < 4) where
    abbrev others : Behind 4 p (plane w h s)
    others = one_of 4 p (plane w h s) l

    stands : drop (plane_start w h p) (apart w h s) ≡ plane w h s p ++ others.rest
    unfolding apart
    stands = ap (drop (plane_start w h p)) others.parts ∙ drop_at (joined p (plane w h s)) (plane w h s p ++ others.rest) (plane_start w h p) (before p)

    pub plane_stands : take (plane_width w p * plane_height h p) (drop (plane_start w h p) (apart w h s)) ≡ plane w h s p
    plane_stands =
        ap (take (plane_width w p * plane_height h p)) stands
        ∙ take_at (plane w h s p) others.rest (plane_width w p * plane_height h p) (plane_length p)

    pub plane_ends : plane_start w h p + plane_width w p * plane_height h p ≤ length (apart w h s)
    plane_ends = omega (arith, apart_length, planes_whole w h, start_next w h p, starts_up w h (p + 1) 4 (omega arith))

    -- no side is over 4,096
    module _ (a : w ≤ 8192) (b : h ≤ 8192) where
      pub plane_small : (plane_width w p ≤ 4096) × (plane_height h p ≤ 4096)
      unfolding plane_width plane_height
      plane_small = (omega (arith, half_le (p % 2) w (omega arith)), omega (arith, half_le (p / 2) h (omega arith)))

      -- its part of the list is the plane
      pub plane_part : part_of (plane_at w h p) (apart w h s) ≡ plane w h s p
      unfolding plane_at either_over
      plane_part =
          let n = plane_width w p in
          let m = plane_height h p in
          let wide : ltb 8192 n ≡ false = le-ltb 8192 n (omega (arith, plane_small.0)) in
          let high : ltb 8192 m ≡ false = le-ltb 8192 m (omega (arith, plane_small.1)) in
          sym (part_inside (plane_at w h p) (apart w h s) (ap (λ (t : Bool). t || ltb 8192 m) wide ∙ high) plane_ends) ∙ plane_stands

      -- and passes the aligner's checks 1 and 2 of a frame of its sides
      pub plane_frame : {A : Type 0} (v : A) → accepted v
          ≡ answer (side_over (plane_width w p) ∷ side_over (plane_height h p) ∷ wrong_length (length (part_of (plane_at w h p) (apart w h s))) (plane_width w p * plane_height h p) ∷ []) v
      plane_frame v =
          side_skip v _ _ (omega (arith, plane_small.0))
          (side_skip v _ _ (omega (arith, plane_small.1)) (length_skip v _ _ _ (ap length plane_part ∙ plane_length p) (done v)))

  -- ---- a sample is found at its place

  pub seat_at : {p u v : ℕ} → Seat w h p u v → get_or (apart w h s) (seat w h p u v) 0 ≡ sample s w (2 * u + p % 2) (2 * v + p / 2)
  unfolding apart plane
  seat_at {p} {u} {v} t =
      let n = plane_width w p in
      let m = plane_height h p in
      let f : ℕ → ℕ → ℕ = λ x y. sample s w (2 * x + p % 2) (2 * y + p / 2) in
      let i = v * n + u in
      let b = one_of 4 p (plane w h s) t.plane_in_lem in
      let low : i < length (plane w h s p) = omega (arith, plane_length p, t.column_in, row_low) in
      ap₂ (λ (l : List ℕ) (k : ℕ). get_or l (k + i) 0) b.parts (sym (before p))
      ∙ get_or-append-add (joined p (plane w h s)) (plane w h s p ++ b.rest) i 0
      ∙ get_or-append (plane w h s p) b.rest 0 i low
      ∙ image_at n m f u v 0 t.column_in t.row_in
    where
      row_low : v * plane_width w p + plane_width w p ≤ plane_width w p * plane_height h p
      row_low = subst (λ (k : ℕ). v * plane_width w p + plane_width w p ≤ k) (mul_comm (plane_height h p) (plane_width w p)) (row_inside (plane_width w p) (plane_height h p) v t.row_in)

  pub found : (x y : ℕ) → x < w → y < h → get_or (apart w h s) (place_of w h x y) 0 ≡ sample s w x y
  unfolding place_of
  found x y a b =
      let across : 2 * (x / 2) + plane_of x y % 2 ≡ x = omega (arith, plane_column x y) in
      let down : 2 * (y / 2) + plane_of x y / 2 ≡ y = omega (arith, plane_row x y) in
      seat_at (pixel_seat w h a b) ∙ ap₂ (sample s w) across down
