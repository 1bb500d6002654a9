-- Where a mosaic's samples stand in the list of its planes: each pixel has one place, no two share one, and every place is a pixel's (`once`).
use Prim.Native.Nat.{ℕ, zero, suc, ◌+◌, ◌-◌, ◌*◌, ◌/◌, ◌%◌, ◌<◌, ◌≤◌}
use Rattle.std.specs.Prelude.{◌≡◌}
use Rattle.std.proofs.Math.Path.{sym, ap, ap₂, subst}
use Rattle.std.proofs.Common.{◌∙◌, not-suc-le-zero, suc-mul, zero-mul, mul-le-mul_right}
use Rattle.std.proofs.Math.Logic.{⊎_elim}
use Rattle.std.proofs.Math.Nat.{add-mul, mul_comm}
use native.Mathlib.Omega.{arith}
use Rattle.definitions.specs.Sum.{sum}
use Rattle.laws.specs.general.Cases.{lt_or_le}
use Rattle.laws.specs.general.Sums.{sum_mono, sum_more}
use Rattle.laws.specs.images.Sizes.{row_inside}
use Rattle.mosaic_format.specs.Mosaic.{half, plane_width, plane_height, plane_start, plane_of, place_of}
use Rattle.mosaic_format.specs.Halves.{halves, column_half, half_column, plane_column, plane_row, plane_four, plane_back}

-- ---- places of a frame of n columns

-- place i is that of a column and a row
pub record Pixel (n h i : ℕ) : Type 0 where
  pub column : ℕ
  pub row : ℕ
  pub column_in : column < n
  pub row_in : row < h
  pub here : i ≡ row * n + column

pub pixel_at : (n h i : ℕ) → i < h * n → Pixel n h i
pixel_at n zero i l = absurd (not-suc-le-zero (subst (λ (k : ℕ). i < k) (zero-mul n) l))
pixel_at n (suc h) i l = ⊎_elim
    (λ (k : i < h * n). let p = pixel_at n h i k in record {
      column = p.column;
      row = p.row;
      column_in = p.column_in;
      row_in = omega (arith, p.row_in);
      here = p.here;
    })
    (λ (k : h * n ≤ i). record { column = i - h * n; row = h; column_in = omega (arith, suc-mul h n); row_in = omega arith; here = omega arith })
    (lt_or_le i (h * n))

-- and of one only: not in an earlier row
not_earlier : (n u v x y : ℕ) → u < n → v < y → v * n + u ≡ y * n + x → ⊥
not_earlier n u v x y a l e = omega (arith, mul-le-mul_right n l, suc-mul v n)

pub same_pixel : (n u v x y : ℕ) → u < n → x < n → v * n + u ≡ y * n + x → (u ≡ x) × (v ≡ y)
same_pixel n u v x y a b e = ⊎_elim
    (λ (l : v < y). absurd (not_earlier n u v x y a l e))
    (λ (g : y ≤ v).
    ⊎_elim
    (λ (l : y < v). absurd (not_earlier n x y u v b l (sym e)))
    (λ (k : v ≤ y). let s : v ≡ y = omega arith in (omega (arith, ap (λ (i : ℕ). i * n) s), s))
    (lt_or_le y v))
    (lt_or_le v y)

-- ---- where the planes start

module _ (w h : ℕ) where
  abbrev area : ℕ → ℕ
  area p = plane_width w p * plane_height h p

  pub start_next : (p : ℕ) → plane_start w h (p + 1) ≡ plane_start w h p + plane_width w p * plane_height h p
  unfolding plane_start
  start_next p = sum_more p area

  pub starts_up : (p q : ℕ) → p ≤ q → plane_start w h p ≤ plane_start w h q
  unfolding plane_start
  starts_up p q l = sum_mono p q area l

  -- all four planes have as many samples as the mosaic
  pub planes_whole : plane_start w h 4 ≡ w * h
  unfolding sum plane_start plane_width plane_height
  planes_whole =
      let a = half 0 w in
      let b = half 1 w in
      let c = half 0 h in
      let d = half 1 h in
      let across : (n : ℕ) → w * n ≡ a * n + b * n = λ n. ap (λ (k : ℕ). k * n) (sym (halves w)) ∙ add-mul a b n in
      let down : w * h ≡ w * c + w * d =
      mul_comm w h ∙ ap (λ (k : ℕ). k * w) (sym (halves h)) ∙ add-mul c d w ∙ ap₂ ◌+◌ (mul_comm c w) (mul_comm d w) in
      omega (arith, down, across c, across d)

  -- ---- column u and row v of plane p

  abbrev pub seat : ℕ → ℕ → ℕ → ℕ
  seat p u v = plane_start w h p + (v * plane_width w p + u)

  pub record Seat (p u v : ℕ) : Type 0 where
    pub plane_in_lem : p < 4
    pub column_in : u < plane_width w p
    pub row_in : v < plane_height h p

  -- it lies behind the plane's start and before the next one's
  pub seat_before : {p u v : ℕ} → Seat p u v → seat p u v < plane_start w h (p + 1)
  seat_before {p} {u} {v} s =
      let n = plane_width w p in
      let m = plane_height h p in
      omega (arith, s.column_in, start_next p, row_inside n m v s.row_in, mul_comm n m)

  pub seat_inside : {p u v : ℕ} → Seat p u v → seat p u v < w * h
  seat_inside {p} s = omega (arith, seat_before s, starts_up (p + 1) 4 (omega (arith, s.plane_in_lem)), planes_whole)

  pub record SameSeat (p u v q x y : ℕ) : Type 0 where
    pub planes : p ≡ q
    pub columns : u ≡ x
    pub rows : v ≡ y

  not_before : {p u v q x y : ℕ} → Seat p u v → Seat q x y → p < q → seat p u v ≡ seat q x y → ⊥
  not_before {p} {u} {v} {q} s t l e = omega (arith, seat_before s, starts_up (p + 1) q (omega arith))

  pub same_seat : {p u v q x y : ℕ} → Seat p u v → Seat q x y → seat p u v ≡ seat q x y → SameSeat p u v q x y
  same_seat {p} {u} {v} {q} {x} {y} s t e = ⊎_elim
      (λ (l : p < q). absurd (not_before s t l e))
      (λ (g : q ≤ p).
      ⊎_elim
      (λ (l : q < p). absurd (not_before t s l (sym e)))
      (λ (k : p ≤ q). one (omega arith))
      (lt_or_le q p))
      (lt_or_le p q)
    where
      one : q ≡ p → SameSeat p u v q x y
      one k =
          let t' : Seat p x y = subst (λ (r : ℕ). Seat r x y) k t in
          let e' : seat p u v ≡ seat p x y = e ∙ ap (λ (r : ℕ). seat r x y) k in
          let same = same_pixel (plane_width w p) u v x y s.column_in t'.column_in (omega (arith, e')) in
          record { planes = sym k; columns = same.0; rows = same.1 }

  -- a place has its seat: below a plane's start it is in a plane before
  pub record SeatOf (i : ℕ) : Type 0 where
    pub plane : ℕ
    pub column : ℕ
    pub row : ℕ
    pub seated : Seat plane column row
    pub here : i ≡ seat plane column row

  find : (p : ℕ) → p ≤ 4 → (i : ℕ) → i < plane_start w h p → SeatOf i
  unfolding sum plane_start
  find zero l i b = absurd (not-suc-le-zero b)
  find (suc p) l i b = ⊎_elim
      (λ (k : i < plane_start w h p). find p (omega arith) i k)
      (λ (k : plane_start w h p ≤ i).
      let n = plane_width w p in
      let m = plane_height h p in
      let f = pixel_at n m (i - plane_start w h p) (omega (arith, mul_comm n m)) in record {
        plane = p;
        column = f.column;
        row = f.row;
        seated = record { plane_in_lem = omega arith; column_in = f.column_in; row_in = f.row_in };
        here = omega (arith, f.here);
      })
      (lt_or_le i (plane_start w h p))

  pub seat_of : (i : ℕ) → i < w * h → SeatOf i
  seat_of i l = find 4 (omega arith) i (subst (λ (k : ℕ). i < k) (sym planes_whole) l)

  -- ---- the seat of a pixel, and the pixel of a seat

  pub pixel_seat : {x y : ℕ} → x < w → y < h → Seat (plane_of x y) (x / 2) (y / 2)
  unfolding plane_width plane_height
  pixel_seat {x} {y} a b = record {
    plane_in_lem = plane_four x y;
    column_in = subst (λ (q : ℕ). x / 2 < half q w) (sym (plane_column x y)) (column_half x w a);
    row_in = subst (λ (q : ℕ). y / 2 < half q h) (sym (plane_row x y)) (column_half y h b);
  }

  pub seat_pixel : {p u v : ℕ} → Seat p u v → (2 * u + p % 2 < w) × (2 * v + p / 2 < h)
  unfolding plane_width plane_height
  seat_pixel {p} {u} {v} s = (
    half_column u (p % 2) w (omega arith) s.column_in,
    half_column v (p / 2) h (omega (arith, s.plane_in_lem)) s.row_in,
  )

  pub place_seat : (p u v : ℕ) → p < 4 → place_of w h (2 * u + p % 2) (2 * v + p / 2) ≡ seat p u v
  unfolding place_of
  place_seat p u v l =
      let x = 2 * u + p % 2 in
      let y = 2 * v + p / 2 in
      let across : x / 2 ≡ u = omega arith in
      let down : y / 2 ≡ v = omega arith in
      ap (λ (q : ℕ). seat q (x / 2) (y / 2)) (plane_back p u v l) ∙ ap₂ (seat p) across down

  -- ---- the table: pixels and places are one to one

  pub record PixelOf (i : ℕ) : Type 0 where
    pub column : ℕ
    pub row : ℕ
    pub column_in : column < w
    pub row_in : row < h
    pub here : place_of w h column row ≡ i

  pub record Once : Type 0 where
    -- each pixel has its place in the planes
    pub inside : (x y : ℕ) → x < w → y < h → place_of w h x y < w * h
    -- no two pixels share one
    pub alone : (x y u v : ℕ) → x < w → y < h → u < w → v < h → place_of w h x y ≡ place_of w h u v → (x ≡ u) × (y ≡ v)
    -- every place is a pixel's
    pub every : (i : ℕ) → i < w * h → PixelOf i

  pub once : Once
  unfolding place_of
  once = record {
    inside = λ x y a b. seat_inside (pixel_seat a b);
    alone = λ x y u v a b c d e.
        let s = same_seat (pixel_seat a b) (pixel_seat c d) e in
        let p : plane_of x y ≡ plane_of u v = s.planes in
        let across : x % 2 ≡ u % 2 = sym (plane_column x y) ∙ ap (λ (k : ℕ). k % 2) p ∙ plane_column u v in
        let down : y % 2 ≡ v % 2 = sym (plane_row x y) ∙ ap (λ (k : ℕ). k / 2) p ∙ plane_row u v in
        (omega (arith, s.columns), omega (arith, s.rows));
    every = λ i l.
        let f = seat_of i l in
        let inside = seat_pixel f.seated in record {
          column = 2 * f.column + f.plane % 2;
          row = 2 * f.row + f.plane / 2;
          column_in = inside.0;
          row_in = inside.1;
          here = place_seat f.plane f.column f.row f.seated.plane_in_lem ∙ sym f.here;
        };
  }
