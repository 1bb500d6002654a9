-- Both counts of two packed pairs by pixel are those of their words: of the rows whose source is inside, each against its source row
-- moved.
use Rattle.std.specs.Prelude.{◌≡◌, refl, ℤ, get_or}
use Rattle.std.proofs.Math.Path.{sym, ap, ap₂}
use Rattle.std.proofs.Common.{◌∙◌, add-mul, arith}
use mathlib.Core.List.{List}
use Rattle.std.proofs.Math.Logic.{⊎_elim}
use Prim.Native.Nat.{ℕ, ◌+◌, ◌-◌, ◌*◌, ◌^◌, ◌≤◌, ◌<◌}
use Rattle.definitions.specs.Sum.{sum}
use Rattle.definitions.specs.Bitmap.{bit_of, words_per_row, bit_at, row_of}
use Rattle.definitions.specs.Difference.{bitmaps_in, compared_bit, disagreeing_bit, overlap, counts}
use Rattle.definitions.specs.Geometry.{Shift, Source, inside, outside, source, value_at_source, at_sources, ahead, behind}
use Rattle.laws.specs.bitmaps.Bitmaps.{IsBitmap, column, columns_fit, word_bit, row_bit, row_bit_lem, row_clear}
use Rattle.laws.specs.general.Cases.{lt_or_le}
use Rattle.laws.specs.general.Grids.{sum_strip}
use Rattle.laws.specs.bitmaps.Joints.{Joint, IsJoint, both, odd, both_joint, odd_joint, of_words, Counted}
use Rattle.laws.specs.bitmaps.Moved.{lined, lined_before, lined_in, moved_bit}
use Rattle.laws.specs.bitmaps.MovedRows.{row_from, row_from_fits, moved_from, moved_row, moved_rows}
use Rattle.laws.specs.images.Places.{source_before, source_inside, source_past, outside_all}
use Rattle.laws.specs.general.Sums.{sum_ext, sum_upto, sum_rows, sum_zero}
use Rattle.laws.specs.general.Whole.{alone}

-- ---- the rows, and the columns, whose source is inside

-- nothing at a source of which nothing is asked
at_nothing : (s : Source) → value_at_source s (λ (u : ℕ). 0) ≡ 0
at_nothing (inside i) = refl
at_nothing outside = refl

module _ (w h : ℕ) (d : Shift) (f : ℕ → ℕ → ℕ → ℕ → ℕ) where
  -- the pixels of row y
  abbrev in_row : ℕ → ℕ
  in_row y = sum w (λ (x : ℕ). at_sources w h d x y (λ (u v : ℕ). f x y u v))

  row_outside : (y : ℕ) → source y d.y h ≡ outside → in_row y ≡ 0
  unfolding at_sources
  row_outside y o = sum_zero w (λ (x : ℕ). at_sources w h d x y (λ (u v : ℕ). f x y u v))
      (λ x _. ap (λ (s : Source). value_at_source (source x d.x w) (λ (u : ℕ). value_at_source s (λ (v : ℕ). f x y u v))) o ∙ at_nothing (source x d.x w))

  row_at : (y v : ℕ) → source y d.y h ≡ inside v → in_row y ≡ sum w (λ (x : ℕ). value_at_source (source x d.x w) (λ (u : ℕ). f x y u v))
  unfolding at_sources
  row_at y v e = ap (λ (s : Source). sum w (λ (x : ℕ). value_at_source (source x d.x w) (λ (u : ℕ). value_at_source s (λ (v : ℕ). f x y u v)))) e

  pub no_rows : h ≤ ahead d.y + behind d.y → overlap w h d f ≡ 0
  unfolding overlap
  no_rows l = sum_zero h in_row (λ y k. row_outside y (outside_all h d.y l y k))

  pub no_columns : w ≤ ahead d.x + behind d.x → overlap w h d f ≡ 0
  unfolding overlap at_sources
  no_columns l = sum_zero h in_row (λ y _. sum_zero w (λ (x : ℕ). at_sources w h d x y (λ (u v : ℕ). f x y u v))
      (λ x k. ap (λ (s : Source). value_at_source s (λ (u : ℕ). value_at_source (source y d.y h) (λ (v : ℕ). f x y u v))) (outside_all w d.x l x k)))

  -- else so many rows count, each with its source
  rows_inside : (rows : ℕ) → ahead d.y + behind d.y + rows ≡ h
      → overlap w h d f ≡ sum rows (λ (r : ℕ). sum w (λ (x : ℕ). value_at_source (source x d.x w) (λ (u : ℕ). f x (ahead d.y + r) u (behind d.y + r))))
  unfolding overlap
  rows_inside rows e =
      let a = ahead d.y in
      let b = behind d.y in
      sum_strip a rows h in_row (omega arith)
      (λ y k. row_outside y (source_before y d.y h k))
      (λ y k l. row_outside y (source_past y d.y h (omega (arith, alone d.y))))
      ∙ sum_ext rows (λ (r : ℕ). in_row (a + r)) (λ (r : ℕ). sum w (λ (x : ℕ). value_at_source (source x d.x w) (λ (u : ℕ). f x (a + r) u (b + r))))
      (λ r k. row_at (a + r) (b + r) (source_inside (a + r) d.y h (b + r) (omega arith) (omega arith)))

-- ---- a row by its words

module _ (rt re st se : List ℕ) (w h : ℕ) (pre : IsBitmap re w h) (pse : IsBitmap se w h)
    (ft : (v : ℕ) → get_or st v 0 < 2 ^ 64) (fe : (v : ℕ) → get_or se v 0 < 2 ^ 64) (g : Joint) (is : IsJoint g) where
  -- of pixel (x, y) and its source (u, v)
  abbrev pixel : ℕ → ℕ → ℕ → ℕ → ℕ
  pixel x y u v = g (bit_at rt w x y) (bit_at re w x y) (bit_at st w u v) (bit_at se w u v)

  module _ (z : ℤ) (m q s : ℕ) (few : s < 64) (lag : ahead z + (q * 64 + s) ≡ behind z + m * 64) (y v : ℕ) (ly : y < h) (lv : v < h) where
    -- what column x shows of a target's row
    abbrev shown : List ℕ → ℕ → ℕ
    shown words x = lined m (column (row_from words (words_per_row w) (v * words_per_row w))) (x + (q * 64 + s))

    abbrev at_column : ℕ → ℕ
    at_column x = g (bit_at rt w x y) (bit_at re w x y) (shown st x) (shown se x)

    -- it is what stands at its source
    at_source : (x : ℕ) → x < w → at_column x ≡ value_at_source (source x z w) (λ (u : ℕ). pixel x y u v)
    unfolding row_of
    at_source x l = ⊎_elim
        (λ (k : t < m * 64). blank (lined_before m (column (row_from se n (v * n))) t k) (source_before x z w (omega arith)))
        (λ (k : m * 64 ≤ t).
        let u = t - m * 64 in
        let stands : (words : List ℕ) → shown words x ≡ row_bit (row_of words w v) u = λ words. lined_in m (column (row_from words n (v * n))) t u (omega arith) in
        ⊎_elim
        (λ (i : u < w).
        ap₂ (g (bit_at rt w x y) (bit_at re w x y)) (stands st ∙ row_bit_lem st w u v (omega (arith, columns_fit w))) (stands se ∙ row_bit_lem se w u v (omega (arith, columns_fit w)))
        ∙ sym (on (source_inside x z w u (omega arith) i)))
        (λ (i : w ≤ u). blank (stands se ∙ row_clear pse v lv u i) (source_past x z w (omega arith)))
        (lt_or_le u w))
        (lt_or_le t (m * 64))
      where
        n : ℕ
        n = words_per_row w

        t : ℕ
        t = x + (q * 64 + s)

        on : {o : Source} → source x z w ≡ o → value_at_source (source x z w) (λ (u : ℕ). pixel x y u v) ≡ value_at_source o (λ (u : ℕ). pixel x y u v)
        on e = ap (λ (o : Source). value_at_source o (λ (u : ℕ). pixel x y u v)) e

        blank : shown se x ≡ 0 → source x z w ≡ outside → at_column x ≡ value_at_source (source x z w) (λ (u : ℕ). pixel x y u v)
        blank e o =
            ap (g (bit_at rt w x y) (bit_at re w x y) (shown st x)) e ∙ is.no_target (bit_at rt w x y) (bit_at re w x y) (shown st x) ∙ sym (on o)

    row_law : sum (words_per_row w) (moved_row rt re st se (words_per_row w) (y * words_per_row w) (v * words_per_row w) m q s g)
        ≡ sum w (λ (x : ℕ). value_at_source (source x z w) (λ (u : ℕ). pixel x y u v))
    unfolding moved_row of_words
    row_law =
        let n = words_per_row w in
        sum_ext n (moved_row rt re st se n (y * n) (v * n) m q s g) (λ (k : ℕ). sum 64 (λ (i : ℕ). at_column (k * 64 + i)))
        (λ k _. sum_ext 64
        (λ (i : ℕ). g (bit_of (get_or rt (y * n + k) 0) i) (bit_of (get_or re (y * n + k) 0) i) (bit_of (moved_from n m q s st (v * n) k) i) (bit_of (moved_from n m q s se (v * n) k) i))
        (λ (i : ℕ). at_column (k * 64 + i))
        (λ i l. ap₂ (λ (a b : ℕ). g a b (bit_of (moved_from n m q s st (v * n) k) i) (bit_of (moved_from n m q s se (v * n) k) i)) (word_bit rt w k y i l) (word_bit re w k y i l)
        ∙ ap₂ (g (bit_at rt w (k * 64 + i) y) (bit_at re w (k * 64 + i) y))
        (moved_bit m q s (row_from st n (v * n)) k i (row_from_fits st ft n (v * n)) few l)
        (moved_bit m q s (row_from se n (v * n)) k i (row_from_fits se fe n (v * n)) few l)))
        ∙ sym (sum_rows n 64 at_column)
        ∙ sum_upto w (n * 64) at_column (columns_fit w)
        (λ x l k. ap (λ (b : ℕ). g (bit_at rt w x y) b (shown st x) (shown se x)) (pre.clear x y l k ly) ∙ is.no_reference_lem (bit_at rt w x y) (shown st x) (shown se x))
        ∙ sum_ext w at_column (λ (x : ℕ). value_at_source (source x z w) (λ (u : ℕ). pixel x y u v)) at_source

  -- ---- and the frame

  frame_law : (d : Shift) (m q s : ℕ) → s < 64 → ahead d.x + (q * 64 + s) ≡ behind d.x + m * 64 → (rows : ℕ) → ahead d.y + behind d.y + rows ≡ h
      → moved_rows rt re st se (words_per_row w) rows (ahead d.y * words_per_row w) (behind d.y * words_per_row w) m q s g ≡ overlap w h d pixel
  unfolding moved_rows
  frame_law d m q s few lag rows e =
      let n = words_per_row w in
      let a = ahead d.y in
      let b = behind d.y in
      sum_ext rows (λ (r : ℕ). sum n (moved_row rt re st se n (a * n + r * n) (b * n + r * n) m q s g))
      (λ (r : ℕ). sum w (λ (x : ℕ). value_at_source (source x d.x w) (λ (u : ℕ). pixel x (a + r) u (b + r))))
      (λ r l. ap₂ (λ (i j : ℕ). sum n (moved_row rt re st se n i j m q s g)) (sym (add-mul a r n)) (sym (add-mul b r n))
      ∙ row_law d.x m q s few lag (a + r) (b + r) (omega arith) (omega arith))
      ∙ sym (rows_inside w h d pixel rows e)

-- ---- both counts

module _ (rt re st se : List ℕ) (w h : ℕ) (d : Shift) where
  answer : {c e : ℕ} → c ≡ overlap w h d (compared_bit (bitmaps_in w rt re) (bitmaps_in w st se)) → e ≡ overlap w h d (disagreeing_bit (bitmaps_in w rt re) (bitmaps_in w st se))
      → record { disagreeing = e; compared = c } ≡ counts w h (bitmaps_in w rt re) (bitmaps_in w st se) d
  unfolding counts
  answer {c} {e} p q = ap₂ (λ (a b : ℕ). record { disagreeing = a; compared = b }) q p

  -- none where no row, or no column, has its source inside
  pub none_down : h ≤ ahead d.y + behind d.y → record { disagreeing = 0; compared = 0 } ≡ counts w h (bitmaps_in w rt re) (bitmaps_in w st se) d
  none_down l = answer (sym (no_rows w h d _ l)) (sym (no_rows w h d _ l))

  pub none_across : w ≤ ahead d.x + behind d.x → record { disagreeing = 0; compared = 0 } ≡ counts w h (bitmaps_in w rt re) (bitmaps_in w st se) d
  none_across l = answer (sym (no_columns w h d _ l)) (sym (no_columns w h d _ l))

  -- else those of the words: n to a row, from rows a and b on
  pub counts_words : IsBitmap re w h → IsBitmap se w h → ((v : ℕ) → get_or st v 0 < 2 ^ 64) → ((v : ℕ) → get_or se v 0 < 2 ^ 64)
      → (n a b rows : ℕ) → n ≡ words_per_row w → a ≡ ahead d.y → b ≡ behind d.y → a + b + rows ≡ h
      → (m q s : ℕ) → s < 64 → ahead d.x + (q * 64 + s) ≡ behind d.x + m * 64
      → {most c e : ℕ} → Counted (moved_rows rt re st se n rows (a * n) (b * n) m q s) most c e
      → record { disagreeing = e; compared = c } ≡ counts w h (bitmaps_in w rt re) (bitmaps_in w st se) d
  unfolding bitmaps_in compared_bit disagreeing_bit
  counts_words pre pse ft fe n a b rows en ea eb all m q s few lag o =
      let law : (g : Joint) → IsJoint g
      → moved_rows rt re st se n rows (a * n) (b * n) m q s g ≡ overlap w h d (λ (x y u v : ℕ). g (bit_at rt w x y) (bit_at re w x y) (bit_at st w u v) (bit_at se w u v)) =
      λ g is.
      ap (λ (k : ℕ). moved_rows rt re st se k rows (a * k) (b * k) m q s g) en
      ∙ ap₂ (λ (i j : ℕ). moved_rows rt re st se (words_per_row w) rows (i * words_per_row w) (j * words_per_row w) m q s g) ea eb
      ∙ frame_law rt re st se w h pre pse ft fe g is d m q s few lag rows (omega arith) in
      answer (o.compared_is ∙ law both both_joint) (o.disagreeing_is ∙ law odd odd_joint)
