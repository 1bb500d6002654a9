-- The samples of one row of the mosaic in the planes: its even columns stand side by side, and so do its odd ones, in the plane behind.
use Rattle.std.specs.Prelude.{ℕ, ◌+◌, ◌*◌, ◌/◌, ◌%◌, ◌<◌, ◌≤◌, ◌≡◌, refl}
use Rattle.std.proofs.Math.Path.{sym, ap, subst}
use Rattle.std.proofs.Common.{ap₂, ◌∙◌, add-mul}
use mathlib.Core.List.{List, [], ◌∷◌}
use Rattle.std.proofs.Math.Nat.{mul_comm}
use native.Mathlib.Omega.{arith}
use Rattle.std.proofs.Math.ListN.{get_or}
use Rattle.definitions.specs.Build.{build}
use Rattle.definitions.specs.Sum.{sum}
use Rattle.laws.specs.general.Lists.{build_at}
use Rattle.laws.specs.images.Sizes.{area, row_inside}
use Rattle.mosaic_format.specs.Mosaic.{half, plane_width, plane_height, plane_start, plane_of, place_of, Plane, plane_at, planes_of}
use Rattle.mosaic_format.specs.Halves.{even_half, odd_half, halves, half_le, column_half, plane_column, plane_row, plane_four}
use Rattle.mosaic_format.specs.Places.{planes_whole, start_next, starts_up}

-- ---- the four planes by arithmetic alone

abbrev at : ℕ → ℕ → ℕ → Plane
at w h start = record { width = w; height = h; start = start }

at_is : {w w' h h' s s' : ℕ} → w ≡ w' → h ≡ h' → s ≡ s' → at w h s ≡ at w' h' s'
at_is {w' = w'} {h} {s = s} a b c = ap (λ (n : ℕ). at n h s) a ∙ ap₂ (at w') b c

pub four_planes : (w h : ℕ) → planes_of w h
    ≡ at ((w + 1) / 2) ((h + 1) / 2) 0
    ∷ at (w / 2) ((h + 1) / 2) ((w + 1) / 2 * ((h + 1) / 2))
    ∷ at ((w + 1) / 2) (h / 2) (w * ((h + 1) / 2))
    ∷ at (w / 2) (h / 2) (w * ((h + 1) / 2) + (w + 1) / 2 * (h / 2)) ∷ []
unfolding sum build plane_width plane_height plane_start plane_at planes_of
four_planes w h =
    let a = even_half w in
    let b = odd_half w in
    let c = even_half h in
    let d = odd_half h in
    let first : half 0 w * half 0 h ≡ (w + 1) / 2 * ((h + 1) / 2) = ap₂ ◌*◌ a c in
    let third : half 0 w * half 1 h ≡ (w + 1) / 2 * (h / 2) = ap₂ ◌*◌ a d in
    let even-rows : half 0 w * half 0 h + half 1 w * half 0 h ≡ w * ((h + 1) / 2) =
    sym (add-mul (half 0 w) (half 1 w) (half 0 h)) ∙ ap₂ ◌*◌ (halves w) c in
    ap₂ ◌∷◌ (at_is a c refl)
    (ap₂ ◌∷◌ (at_is b c (omega (arith, first)))
    (ap₂ ◌∷◌ (at_is a d (omega (arith, even-rows))) (ap (λ (p : Plane). p ∷ []) (at_is b d (omega (arith, even-rows, third))))))

-- ---- the planes of a row

module _ (w h y : ℕ) where
  -- even columns from the place of column 0 on, odd ones from that of column 1 on
  pub even_place : (k : ℕ) → place_of w h (2 * k) y ≡ place_of w h 0 y + k
  unfolding place_of plane_of
  even_place k =
      let p : 2 * (y % 2) + 2 * k % 2 ≡ 2 * (y % 2) + 0 = omega arith in
      ap (λ (q : ℕ). plane_start w h q + ((y / 2) * plane_width w q + 2 * k / 2)) p ∙ omega arith

  pub odd_place : (k : ℕ) → place_of w h (2 * k + 1) y ≡ place_of w h 1 y + k
  unfolding place_of plane_of
  odd_place k =
      let p : 2 * (y % 2) + (2 * k + 1) % 2 ≡ 2 * (y % 2) + 1 = omega arith in
      ap (λ (q : ℕ). plane_start w h q + ((y / 2) * plane_width w q + (2 * k + 1) / 2)) p ∙ omega arith

  -- the row's plane of a parity, whose rows end before the next plane
  module _ (l : y < h) (x : ℕ) (b : x < 2) where
    abbrev p : ℕ
    p = plane_of x y

    width_is : plane_width w p ≡ half x w
    unfolding plane_width
    width_is = ap (λ (q : ℕ). half q w) (omega (arith, plane_column x y))

    row_in : y / 2 < plane_height h p
    unfolding plane_height
    row_in = subst (λ (q : ℕ). y / 2 < half q h) (sym (plane_row x y)) (column_half y h l)

    before_next : place_of w h x y + half x w ≤ plane_start w h (p + 1)
    unfolding place_of
    before_next =
        let n = plane_width w p in
        let m = plane_height h p in
        omega (arith, width_is, start_next w h p, row_inside n m (y / 2) row_in, mul_comm n m)

    -- so that the run lies inside
    pub run_inside : place_of w h x y + half x w ≤ w * h
    run_inside = omega (arith, before_next, planes_whole w h, starts_up w h (p + 1) 4 (omega (arith, plane_four x y)))

  -- the odd columns' run lies behind the even ones'
  pub run_behind : y < h → place_of w h 0 y + half 0 w ≤ place_of w h 1 y
  unfolding place_of plane_of
  run_behind l =
      let next : 2 * (y % 2) + 0 + 1 ≡ 2 * (y % 2) + 1 = omega arith in
      omega (arith, before_next l 0 (omega arith), ap (plane_start w h) next)

  -- ---- from the list of the four planes

  module _ (a : w ≤ 8192) (b : h ≤ 8192) (l : y < h) (planes : List Plane) (e : planes ≡ planes_of w h) (none : Plane) where
    plane_is : (p : ℕ) → p < 4 → get_or planes p none ≡ plane_at w h p
    unfolding planes_of
    plane_is p k = ap (λ (m : List Plane). get_or m p none) e ∙ build_at 4 (plane_at w h) p none k

    -- where a plane starts and where the row stands in it are small
    pub start_small : (p : ℕ) → p < 4 → (get_or planes p none).start ≤ 67108864
    unfolding plane_at
    start_small p k =
        omega (arith, ap (λ (q : Plane). q.start) (plane_is p k), starts_up w h p 4 (omega arith), planes_whole w h, area w h a b)

    pub row_small : (p : ℕ) → p < 4 → y / 2 * (get_or planes p none).width ≤ 67108864
    unfolding plane_at plane_width
    row_small p k =
        let wide : (get_or planes p none).width ≤ 8192 = omega (arith, ap (λ (q : Plane). q.width) (plane_is p k), half_le (p % 2) w (omega arith)) in
        area (y / 2) (get_or planes p none).width (omega arith) wide

    -- the place of the row's first column of a parity
    pub row_place : (p x : ℕ) → p < 4 → x < 2 → plane_of x y ≡ p → (get_or planes p none).start + y / 2 * (get_or planes p none).width ≡ place_of w h x y
    unfolding plane_at place_of
    row_place p x k j q =
        ap (λ (r : Plane). r.start + y / 2 * r.width) (plane_is p k)
        ∙ sym (ap (λ (r : ℕ). plane_start w h r + ((y / 2) * plane_width w r + x / 2)) q ∙ omega arith)
