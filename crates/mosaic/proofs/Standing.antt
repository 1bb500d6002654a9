-- The part that a plane has of a list, the four planes, and a row of the mosaic in them.
use Rattle.std.specs.Prelude.{◌≡◌, ℕ, ◌+◌, ◌*◌, ◌/◌, ◌%◌, ◌≤◌, ◌<◌, ◌^◌, ◌-◌, false, List, [], min, length, take, drop}
use Rattle.std.proofs.Common.{arith, sym, ap, ◌∙◌, get_or}
use Rattle.std.specs.Int.{div_ceil}
use Rattle.definitions.specs.Refusals.{either_over}
use Rattle.laws.specs.checks.Checks.{sides_within}
use Rattle.laws.specs.images.Sizes.{area}
use Rattle.mosaic_format.specs.Mosaic.{plane_of, place_of, planes_of, part_of}
use Rattle.mosaic_format.specs.Mosaic as format
use Rattle.mosaic_format.specs.Accepted.{part_over, part_inside, part_outside}
use Rattle.mosaic_format.specs.Rows.{four_planes, start_small, row_small, row_place}
use Rattle.mosaic.specs.declared.Planes.{Planes}
use Rattle.mosaic.specs.Answers.{planes_in}

pub area_within : (w h : ℕ) → either_over w h ≡ false → w * h ≤ 67108864
area_within w h e = let s = sides_within w h e in area w h s.0 s.1

-- ---- a plane's part, as a range that ends where the numbers do at most

module _ (p : format.Plane) (l : List ℕ) (e : either_over p.width p.height ≡ false) (end : ℕ) (m : end ≡ min (p.start + p.width * p.height) 18446744073709551615) where
  pub part_there : {x : List ℕ} → p.start ≤ end → end ≤ length l → length l < 2 ^ 63 → x ≡ take (end - p.start) (drop p.start l) → x ≡ part_of p l
  part_there {x} a b h q =
      let n : end - p.start ≡ p.width * p.height = omega arith in
      q ∙ ap (λ (k : ℕ). take k (drop p.start l)) n ∙ part_inside p l e (omega arith)

  pub part_before : p.start < 2 ^ 64 → end < p.start → [] ≡ part_of p l
  part_before b h = absurd (omega arith)

  pub part_past : length l < end → [] ≡ part_of p l
  part_past h = part_outside p l e (omega arith)

-- ---- the four planes

half_up : (n : ℕ) → div_ceil n 2 ≡ (n + 1) / 2
half_up n = omega arith

pub four : (w h : ℕ) {columns rows : ℕ} → columns ≡ div_ceil w 2 → rows ≡ div_ceil h 2 → planes_in (record {
  even_even = record { width = columns; height = rows; start = 0 };
  even_odd = record { width = w / 2; height = rows; start = columns * rows };
  odd_even = record { width = columns; height = h / 2; start = w * rows };
  odd_odd = record { width = w / 2; height = h / 2; start = w * rows + columns * (h / 2) };
}) ≡ planes_of w h
four w h a b = rw (a, b, half_up w, half_up h) (sym (four_planes w h))

-- ---- a row

abbrev none : format.Plane
none = record { width = 0; height = 0; start = 0 }

module _ (w h y : ℕ) (a : w ≤ 8192) (b : h ≤ 8192) (l : y < h) (p : Planes) (e : planes_in p ≡ planes_of w h) where
  small : (q : ℕ) → q < 4 → (get_or (planes_in p) q none).start + y / 2 * (get_or (planes_in p) q none).width ≤ 134217728
  small q k = omega (arith, start_small w h y a b l (planes_in p) e none q k, row_small w h y a b l (planes_in p) e none q k)

  pub small_even_even : p.even_even.start + y / 2 * p.even_even.width ≤ 134217728
  small_even_even = small 0 (omega arith)

  pub small_even_odd : p.even_odd.start + y / 2 * p.even_odd.width ≤ 134217728
  small_even_odd = small 1 (omega arith)

  pub small_odd_even : p.odd_even.start + y / 2 * p.odd_even.width ≤ 134217728
  small_odd_even = small 2 (omega arith)

  pub small_odd_odd : p.odd_odd.start + y / 2 * p.odd_odd.width ≤ 134217728
  small_odd_odd = small 3 (omega arith)

  pub at_even_even : y % 2 ≡ 0 → p.even_even.start + y / 2 * p.even_even.width ≡ place_of w h 0 y
  unfolding plane_of
  at_even_even d = row_place w h y a b l (planes_in p) e none 0 0 (omega arith) (omega arith) (omega arith)

  pub at_even_odd : y % 2 ≡ 0 → p.even_odd.start + y / 2 * p.even_odd.width ≡ place_of w h 1 y
  unfolding plane_of
  at_even_odd d = row_place w h y a b l (planes_in p) e none 1 1 (omega arith) (omega arith) (omega arith)

  pub at_odd_even : (y % 2 ≡ 0 → ⊥) → p.odd_even.start + y / 2 * p.odd_even.width ≡ place_of w h 0 y
  unfolding plane_of
  at_odd_even d = row_place w h y a b l (planes_in p) e none 2 0 (omega arith) (omega arith) (omega arith)

  pub at_odd_odd : (y % 2 ≡ 0 → ⊥) → p.odd_odd.start + y / 2 * p.odd_odd.width ≡ place_of w h 1 y
  unfolding plane_of
  at_odd_odd d = row_place w h y a b l (planes_in p) e none 3 1 (omega arith) (omega arith) (omega arith)

pub ruleset row_stands = (small_even_even, small_even_odd, small_odd_even, small_odd_odd, at_even_even, at_even_odd, at_odd_even, at_odd_odd)

pub ruleset part_taken = (area_within, part_over, part_there, part_before, part_past)
