-- What a plane's shift is to the mosaic: a mosaic that is moved by twice a shift has planes that are moved by that shift.
use Rattle.std.specs.Prelude.{ℕ, ◌+◌, ◌-◌, ◌*◌, ◌/◌, ◌%◌, ◌<◌, ◌≤◌, ◌≡◌, List, ℤ, ◌+ℤ◌}
use Rattle.std.proofs.Math.Path.{sym}
use Rattle.std.proofs.Common.{ap, ◌∙◌, arith}
use Rattle.std.proofs.Math.Logic.{⊎_elim}
use Rattle.definitions.specs.Build.{build, image, sample}
use Rattle.definitions.specs.Geometry.{Shift, doubled, Source, source, value_at_source, at_sources, ahead, behind, shifted}
use Rattle.laws.specs.general.Cases.{lt_or_le}
use Rattle.laws.specs.general.Lists.{build_same, joined_same, image_at}
use Rattle.laws.specs.general.Whole.{alone, add}
use Rattle.laws.specs.images.Places.{source_before, source_inside, source_past}
use Rattle.mosaic_format.specs.Mosaic.{half, plane_width, plane_height, plane}
use Rattle.mosaic_format.specs.Halves.{half_column}

-- ---- along one axis: the columns or rows of a parity

module _ (side parity : ℕ) (b : parity < 2) (z : ℤ) where
  twice_ahead : ahead (z +ℤ z) ≡ 2 * ahead z
  twice_ahead = omega (arith, add z z, alone z, alone (z +ℤ z))

  twice_behind : behind (z +ℤ z) ≡ 2 * behind z
  twice_behind = omega (arith, add z z, alone z, alone (z +ℤ z))

  by : (place n : ℕ) (f : ℕ → ℕ) (y : ℤ) {p : Source} → source place y n ≡ p → value_at_source (source place y n) f ≡ value_at_source p f
  by place n f y e = ap (λ (q : Source). value_at_source q f) e

  pub axis : (f g : ℕ → ℕ) → ((m : ℕ) → m < half parity side → f (2 * m + parity) ≡ g m) → (u : ℕ)
      → value_at_source (source (2 * u + parity) (z +ℤ z) side) f ≡ value_at_source (source u z (half parity side)) g
  unfolding half
  axis f g same u =
      let x = 2 * u + parity in
      let n = u + behind z - ahead z in
      ⊎_elim
      (λ (l : u < ahead z).
      by x side f (z +ℤ z) (source_before x (z +ℤ z) side (omega (arith, twice_ahead)))
      ∙ sym (by u (half parity side) g z (source_before u z (half parity side) l)))
      (λ (l : ahead z ≤ u).
      ⊎_elim
      (λ (k : n < half parity side).
      by x side f (z +ℤ z)
      (source_inside x (z +ℤ z) side (2 * n + parity) (omega (arith, twice_ahead, twice_behind)) (half_column n parity side b k))
      ∙ same n k
      ∙ sym (by u (half parity side) g z (source_inside u z (half parity side) n (omega arith) k)))
      (λ (k : half parity side ≤ n).
      by x side f (z +ℤ z) (source_past x (z +ℤ z) side (omega (arith, twice_ahead, twice_behind)))
      ∙ sym (by u (half parity side) g z (source_past u z (half parity side) (omega arith))))
      (lt_or_le n (half parity side)))
      (lt_or_le u (ahead z))

-- ---- both

module _ (w h : ℕ) (s : List ℕ) (d : Shift) (p : ℕ) (l : p < 4) where
  abbrev c : ℕ
  c = p % 2

  abbrev r : ℕ
  r = p / 2

  abbrev n : ℕ
  n = half c w

  abbrev m : ℕ
  m = half r h

  abbrev moved : List ℕ
  moved = shifted w h s (doubled d)

  abbrev part : List ℕ
  part = image n m (λ (x y : ℕ). sample s w (2 * x + c) (2 * y + r))

  -- what the moved plane has at column u and row v
  abbrev after : ℕ → ℕ → ℕ
  after u v = value_at_source (source u d.x n) (λ (x : ℕ). value_at_source (source v d.y m) (λ (y : ℕ). sample part n x y))

  columns : c < 2
  columns = omega arith

  rows : r < 2
  rows = omega arith

  down : (v x : ℕ) → x < n
      → value_at_source (source (2 * v + r) (d.y +ℤ d.y) h) (λ (y : ℕ). sample s w (2 * x + c) y) ≡ value_at_source (source v d.y m) (λ (y : ℕ). sample part n x y)
  down v x i =
      axis h r rows d.y (λ (y : ℕ). sample s w (2 * x + c) y) (λ (y : ℕ). sample part n x y)
      (λ y j. sym (image_at n m (λ (x y : ℕ). sample s w (2 * x + c) (2 * y + r)) x y 0 i j)) v

  pixel : (u v : ℕ) → u < n → v < m → sample moved w (2 * u + c) (2 * v + r) ≡ after u v
  unfolding shifted at_sources
  pixel u v i j =
      image_at w h (λ (x y : ℕ). at_sources w h (doubled d) x y (λ (x y : ℕ). sample s w x y)) (2 * u + c) (2 * v + r) 0
      (half_column u c w columns i) (half_column v r h rows j)
      ∙ axis w c columns d.x (λ (x : ℕ). value_at_source (source (2 * v + r) (d.y +ℤ d.y) h) (λ (y : ℕ). sample s w x y))
      (λ (x : ℕ). value_at_source (source v d.y m) (λ (y : ℕ). sample part n x y)) (λ x k. down v x k) u

  pub plane_moved : plane w h (shifted w h s (doubled d)) p ≡ shifted (plane_width w p) (plane_height h p) (plane w h s p) d
  unfolding plane plane_width plane_height shifted at_sources
  plane_moved =
      joined_same m (λ (v : ℕ). build n (λ (u : ℕ). sample moved w (2 * u + c) (2 * v + r))) (λ (v : ℕ). build n (λ (u : ℕ). after u v))
      (λ v j. build_same n (λ (u : ℕ). sample moved w (2 * u + c) (2 * v + r)) (λ (u : ℕ). after u v) (λ u i. pixel u v i j))
