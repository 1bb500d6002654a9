-- A row of a bitmap that is asked for, by its checks: how many words it has, and where they start.
use Rattle.std.specs.Prelude.{◌≡◌, List, [], ℕ, ◌*◌, ◌≤◌, ◌<◌, length, drop}
use Rattle.std.proofs.Math.Path.{refl}
use Rattle.std.proofs.Common.{sym, mul-zero, arith, ltb-false, leb-false, eqb-true}
use Rattle.std.proofs.lemmas.Bool.{not-false}
use Rattle.std.proofs.Math.ListN.{take}
use Rattle.definitions.specs.Bitmap.{words_per_row, bitmap_words, row_of}
use Rattle.definitions.specs.Refusals.{Check, accepted, answer, after, side_over, wrong_length, pixel_outside, row_checks}
use Rattle.laws.specs.bitmaps.Bitmaps.{bitmap_most, row_length}
use Rattle.laws.specs.checks.Checks.{passed, after_holds, after_by}
use Rattle.laws.specs.images.Sizes.{row_inside}

record RowInOrder (w h words y : ℕ) : Type 0 where
  wide : w ≤ 8192
  high : h ≤ 8192
  whole : words ≡ bitmap_words w h
  inside : y < h

row_in_order : (w h words y : ℕ) → accepted (tt {0}) ≡ answer (row_checks w h words y) tt → RowInOrder w h words y
unfolding row_checks side_over wrong_length pixel_outside
row_in_order w h words y e =
    let a = passed (tt {0}) _ _ (sym e) in
    let b = passed (tt {0}) _ _ a.1 in
    let c = passed (tt {0}) _ _ b.1 in
    let d = passed (tt {0}) _ _ c.1 in
    record {
      wide = ltb-false 8192 w a.0;
      high = ltb-false 8192 h b.0;
      whole = eqb-true words (bitmap_words w h) (not-false _ c.0);
      inside = leb-false h y d.0;
    }

module _ (words : List ℕ) (w h y : ℕ) where
  abbrev checks : List Check
  checks = row_checks w h (length words) y

  abbrev long : ℕ
  long = after checks (words_per_row w) 0

  pub row_long : length (after checks (row_of words w y) []) ≡ long
  row_long =
      sym
      (after_by checks (row_of words w y) [] length
      (λ e. let f = row_in_order w h (length words) y e in sym (row_length words w h y f.whole f.inside))
      refl)

  pub row_start : y * long ≡ after checks (y * words_per_row w) 0
  row_start = sym (after_by checks (words_per_row w) 0 (λ (n : ℕ). y * n) (λ e. refl) (sym (mul-zero y)))

  -- it is small
  pub row_start_most : y * long ≤ 1048576
  row_start_most =
      after_holds checks (words_per_row w) 0 (λ (n : ℕ). y * n ≤ 1048576)
      (λ e. let f = row_in_order w h (length words) y e in omega (arith, row_inside (words_per_row w) h y f.inside, bitmap_most w h f.wide f.high))
      (omega arith)

  -- the row is the part that has so many words and starts there
  pub row_stands : after checks (row_of words w y) [] ≡ take long (drop (y * long) words)
  unfolding row_of
  row_stands = after_by checks (words_per_row w) 0 (λ (n : ℕ). take n (drop (y * n) words)) (λ e. refl) refl
