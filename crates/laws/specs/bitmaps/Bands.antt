-- A band of rows of a bitmap, and that what two bands disagree in is part of what the whole bitmaps disagree in.
use Rattle.std.specs.Prelude.{◌≡◌, List, [], ◌∷◌, pos, length, take, drop}
use Rattle.std.proofs.Math.Path.{refl, sym, ap, ap₂}
use Rattle.std.proofs.Common.{◌∙◌, zero-add, suc-add, get_or-take, take-take, drop-drop}
use Prim.Native.Nat.{ℕ, zero, suc, ◌+◌, ◌-◌, ◌*◌, ◌/◌, ◌%◌, ◌<◌, ◌≤◌, min}
use Rattle.std.proofs.Math.Nat.{add-mul, mul-le-mul_right}
use native.Mathlib.Omega.{arith}
use Rattle.std.specs.Int.Bits.{differ}
use Rattle.std.proofs.Math.ListN.{get_or, length-drop}
use Rattle.std.proofs.Math.Seq.{get_or-drop, length-take-le}
use Rattle.definitions.specs.Sum.{sum}
use Rattle.definitions.specs.Geometry.{Shift, Source, inside, outside, source, value_at_source, at_sources, ahead, behind}
use Rattle.definitions.specs.Bitmap.{words_per_row, bit_of, bit_at}
use Rattle.definitions.specs.Difference.{Bitmaps, bitmaps_in, compared_bit, disagreeing_bit, overlap, counts}
use Rattle.laws.specs.bitmaps.Bitmaps.{IsBitmap, columns_fit}
use Rattle.laws.specs.images.Places.{source_inside, inside_lt}
use Rattle.laws.specs.images.Sizes.{row_inside}
use Rattle.laws.specs.general.Sums.{sum_none, sum_ext, sum_split}

-- ---- a part of a part

drop_take : {A : Type 0} (b c : ℕ) (l : List A) → drop b (take (b + c) l) ≡ take c (drop b l)
drop_take zero c l = ap (λ (k : ℕ). take k l) (zero-add c)
drop_take {A} (suc b) c [] = ap (λ (k : ℕ). drop (suc b) (take {A = A} k [])) (suc-add b c) ∙ take-nil c
  where
    take-nil : (k : ℕ) → [] ≡ take {A = A} k []
    take-nil zero = refl
    take-nil (suc k) = refl
drop_take (suc b) c (x ∷ l) = ap (λ (k : ℕ). drop (suc b) (take k (x ∷ l))) (suc-add b c) ∙ drop_take b c l

pub part_part : {A : Type 0} (a b c d : ℕ) (l : List A) → b + a ≤ c → take a (drop b (take c (drop d l))) ≡ take a (drop (d + b) l)
part_part a b c d l h =
    let e : c ≡ b + (c - b) = omega arith in
    ap (λ (k : ℕ). take a (drop b (take k (drop d l)))) e
    ∙ ap (take a) (drop_take b (c - b) (drop d l))
    ∙ take-take a (c - b) (drop b (drop d l)) (omega arith)
    ∙ ap (take a) (drop-drop b d l)

-- ---- bands

-- So many rows of a bitmap of width w, from row `at` on.
unfoldable pub band : ℕ → List ℕ → ℕ → ℕ → List ℕ
band w m at rows = take (rows * words_per_row w) (drop (at * words_per_row w) m)

module _ (w : ℕ) (m : List ℕ) (at rows : ℕ) where
  -- its bits
  band_bit : (x y : ℕ) → x < words_per_row w * 64 → y < rows → bit_at (band w m at rows) w x y ≡ bit_at m w x (at + y)
  unfolding band bit_at
  band_bit x y p q =
      let n = words_per_row w in
      let i = y * n + x / 64 in
      let word : x / 64 < n = omega arith in
      let place : at * n + i ≡ (at + y) * n + x / 64 = omega (arith, add-mul at y n) in
      ap (λ (v : ℕ). bit_of v (x % 64))
      (get_or-take (rows * n) (drop (at * n) m) i 0 (omega (arith, row_inside n rows y q)) ∙ get_or-drop (at * n) m i 0 ∙ ap (λ (k : ℕ). get_or m k 0) place)

  band_long : (h : ℕ) → length m ≡ h * words_per_row w → at + rows ≤ h → length (band w m at rows) ≡ rows * words_per_row w
  unfolding band
  band_long h e l =
      let n = words_per_row w in
      length-take-le (rows * n) (drop (at * n) m) (omega (arith, e, length-drop (at * n) m, add-mul at rows n, mul-le-mul_right n l))

  -- it is a bitmap of so many rows
  pub band_bitmap : (h : ℕ) → IsBitmap m w h → at + rows ≤ h → IsBitmap (band w m at rows) w rows
  band_bitmap h b l = record {
    long = band_long h b.long l;
    clear = λ x y p q r. band_bit x y q r ∙ b.clear x (at + y) p q (omega arith);
  }

-- a sum over some of the numbers is no more than the whole
sum_inside : (at rows h : ℕ) (f : ℕ → ℕ) → at + rows ≤ h → sum rows (λ (i : ℕ). f (at + i)) ≤ sum h f
sum_inside at rows h f l =
    let g : ℕ → ℕ = λ i. f (at + i) in
    let e : h ≡ at + (h - at) = omega arith in
    let d : h - at ≡ rows + (h - at - rows) = omega arith in
    omega (arith, ap (λ (k : ℕ). sum k f) e, sum_split at (h - at) f, ap (λ (k : ℕ). sum k g) d, sum_split rows (h - at - rows) g)

-- ---- bands of two pairs, as far apart as a shift moves rows

module _ (w : ℕ) (rt re st se : List ℕ) (s : Shift) (rows : ℕ) where
  abbrev up : ℕ
  up = ahead s.y

  abbrev down : ℕ
  down = behind s.y

  -- along x they are moved as the frames are, and no more along y
  abbrev aside : Shift
  aside = record { x = s.x; y = pos 0 }

  abbrev band_reference : Bitmaps
  band_reference = bitmaps_in w (band w rt up rows) (band w re up rows)

  abbrev band_target : Bitmaps
  band_target = bitmaps_in w (band w st down rows) (band w se down rows)

  -- In how many pixels of the bands they disagree.
  unfoldable pub band_disagreeing : ℕ
  band_disagreeing = (counts w rows band_reference band_target aside).disagreeing

  -- a pixel of the bands is one of the frames
  same_bit : (x y u : ℕ) → x < w → y < rows → u < w → disagreeing_bit band_reference band_target x y u y ≡ disagreeing_bit (bitmaps_in w rt re) (bitmaps_in w st se) x (up + y) u (down + y)
  unfolding disagreeing_bit compared_bit bitmaps_in
  same_bit x y u p q r =
      let a : x < words_per_row w * 64 = omega (arith, columns_fit w) in
      let b : u < words_per_row w * 64 = omega (arith, columns_fit w) in
      ap₂ (λ (i j : ℕ). min i j)
      (ap₂ (λ (i j : ℕ). differ i j) (band_bit w rt up rows x y a q) (band_bit w st down rows u y b q))
      (ap₂ (λ (i j : ℕ). min i j) (band_bit w re up rows x y a q) (band_bit w se down rows u y b q))

  same_pixel : (h x y : ℕ) → up + down + rows ≤ h → x < w → y < rows
      → at_sources w rows aside x y (disagreeing_bit band_reference band_target x y) ≡ at_sources w h s x (up + y) (disagreeing_bit (bitmaps_in w rt re) (bitmaps_in w st se) x (up + y))
  unfolding at_sources
  same_pixel h x y l p q =
      ap (λ (o : Source). value_at_source (source x s.x w) (λ (u : ℕ). value_at_source o (λ (v : ℕ). disagreeing_bit band_reference band_target x y u v)))
      (source_inside y (pos 0) rows y (omega arith) q)
      ∙ on (source x s.x w) refl
      ∙ sym
      (ap (λ (o : Source). value_at_source (source x s.x w) (λ (u : ℕ). value_at_source o (λ (v : ℕ). disagreeing_bit (bitmaps_in w rt re) (bitmaps_in w st se) x (up + y) u v)))
      (source_inside (up + y) s.y h (down + y) (omega arith) (omega arith)))
    where
      on : (o : Source) → source x s.x w ≡ o
          → value_at_source o (λ (u : ℕ). disagreeing_bit band_reference band_target x y u y)
          ≡ value_at_source o (λ (u : ℕ). disagreeing_bit (bitmaps_in w rt re) (bitmaps_in w st se) x (up + y) u (down + y))
      on (inside u) e = same_bit x y u p q (inside_lt x s.x w u e)
      on outside e = refl

  pub band_part : (h : ℕ) → up + down + rows ≤ h → band_disagreeing ≤ (counts w h (bitmaps_in w rt re) (bitmaps_in w st se) s).disagreeing
  unfolding band_disagreeing counts overlap
  band_part h l =
      let f : ℕ → ℕ = λ y. sum w (λ (x : ℕ). at_sources w h s x y (disagreeing_bit (bitmaps_in w rt re) (bitmaps_in w st se) x y)) in
      omega (
        arith,
        sum_ext rows (λ (y : ℕ). sum w (λ (x : ℕ). at_sources w rows aside x y (disagreeing_bit band_reference band_target x y))) (λ (y : ℕ). f (up + y))
            (λ y q. sum_ext w _ _ (λ x p. same_pixel h x y l p q)),
        sum_inside up rows h f (omega arith),
      )

  -- no rows, no pixels
  pub band_none : rows ≡ 0 → 0 ≡ band_disagreeing
  unfolding band_disagreeing counts overlap
  band_none e = sym (ap (λ (n : ℕ). sum n (λ (y : ℕ). sum w (λ (x : ℕ). at_sources w rows aside x y (disagreeing_bit band_reference band_target x y)))) e ∙ sum_none _)
