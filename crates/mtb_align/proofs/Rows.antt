-- The words of a row: a full one, and the last one of fewer than 64 pixels, as the definition has them.
use mathlib.Core.Path.{◌≡◌, sym, ap, ◌∙◌}
use mathlib.Core.Bool.{Bool, cond}
use mathlib.Core.List.{List}
use Prim.Native.Nat.{ℕ, ◌+◌, ◌*◌, ◌/◌, ◌%◌, ◌<◌}
use native.Mathlib.Nat.{add_assoc, zero-add}
use native.Mathlib.Omega.{arith}
use lib.Dec.{ltb}
use lib.ListN.{length, get_or, set}
use lib.Seq.{sets}
use borrow.Author.Tests.{lt-ltb, le-ltb}
use Rattle.definitions.specs.Build.{build, joined, sample}
use Rattle.definitions.specs.Bitmap.{words_per_row, bitmap_words, word_of, packed}
use Rattle.laws.specs.general.Lists.{build_length, joined_length}
use Rattle.laws.specs.bitmaps.WordsOf.{word_ext, word_upto}
use Rattle.laws.specs.general.Writes.{store_more, rows_more, sets_whole}
use Rattle.mtb_align.specs.Packing.{bits_from, words_of_row}

module _ (s : List ℕ) (test : ℕ → ℕ) (from w : ℕ) where
  -- word k of the row by the definition
  pub word_at : ℕ → ℕ
  word_at k = word_of 64 (λ (i : ℕ). cond (ltb (k * 64 + i) w) (bits_from s test from (k * 64 + i)) 0)

  -- a pixel of the row
  inside : (k i : ℕ) → k * 64 + i < w → bits_from s test (from + k * 64) i ≡ cond (ltb (k * 64 + i) w) (bits_from s test from (k * 64 + i)) 0
  inside k i h =
      ap (λ (j : ℕ). test (get_or s j 0)) (add_assoc from (k * 64) i)
      ∙ sym (ap (λ (t : Bool). cond t (bits_from s test from (k * 64 + i)) 0) (lt-ltb (k * 64 + i) w h))

  pub full_word : (k : ℕ) → k < w / 64 → {r : ℕ} → r ≡ word_of 64 (bits_from s test (from + k * 64)) → r ≡ word_at k
  unfolding word_at
  full_word k h e = e ∙ word_ext 64 _ _ (λ i l. inside k i (omega arith))

  pub part_word : {r : ℕ} → r ≡ word_of (w % 64) (bits_from s test (from + w / 64 * 64)) → r ≡ word_at (w / 64)
  unfolding word_at
  part_word e =
      e
      ∙ word_ext (w % 64) _ _ (λ i l. inside (w / 64) i (omega arith))
      ∙ sym
      (word_upto (w % 64) 64 (λ (i : ℕ). cond (ltb (w / 64 * 64 + i) w) (bits_from s test from (w / 64 * 64 + i)) 0) (omega arith)
      (λ i l m. ap (λ (t : Bool). cond t (bits_from s test from (w / 64 * 64 + i)) 0) (le-ltb (w / 64 * 64 + i) w (omega arith))))

  -- ---- the row stored

  -- all of its words are full
  pub row_full : (l : List ℕ) (at : ℕ) → w % 64 ≡ 0 → {m : List ℕ} {k : ℕ} → k ≡ w / 64 → m ≡ sets l at (build k word_at) → m ≡ sets l at (words_of_row w (bits_from s test from))
  unfolding word_at words_of_row words_per_row
  row_full l at e {m} {k} p q =
      let n : k ≡ (w + 63) / 64 = omega arith in
      q ∙ ap (λ (j : ℕ). sets l at (build j word_at)) n

  -- the last one is not
  pub row_part_lem : (l : List ℕ) (at : ℕ) → (w % 64 ≡ 0 → ⊥) → {m : List ℕ} {v k : ℕ} → k ≡ w / 64 → m ≡ sets l at (build k word_at) → v ≡ word_at (w / 64)
      → set m (at + w / 64) v ≡ sets l at (words_of_row w (bits_from s test from))
  unfolding word_at words_of_row words_per_row
  row_part_lem l at e {m} {v} {k} p q r =
      let n : w / 64 + 1 ≡ (w + 63) / 64 = omega arith in
      store_more l at (w / 64) word_at (q ∙ ap (λ (j : ℕ). sets l at (build j word_at)) p) r
      ∙ ap (λ (j : ℕ). sets l at (build j word_at)) n

-- a row has so many words
pub row_words : (w : ℕ) (f : ℕ → ℕ) → length (words_of_row w f) ≡ words_per_row w
unfolding words_of_row
row_words w f = build_length (words_per_row w) _

-- ---- the rows of a frame stored, under either test

module _ (s : List ℕ) (test : ℕ → ℕ) (w h : ℕ) where
  -- row y
  unfoldable pub row_at : ℕ → List ℕ
  row_at y = words_of_row w (bits_from s test (y * w))

  pub row_at_words : (y : ℕ) → length (row_at y) ≡ words_per_row w
  unfolding row_at
  row_at_words y = row_words w (bits_from s test (y * w))

  -- one more
  pub rows_turn : (l : List ℕ) (y : ℕ) {n : ℕ} {m new : List ℕ} → n ≡ words_per_row w → m ≡ sets l 0 (joined y row_at)
      → new ≡ sets m (y * n) (words_of_row w (bits_from s test (y * w)))
      → new ≡ sets l 0 (joined (y + 1) row_at)
  unfolding row_at
  rows_turn l y {n} {m} are e q =
      rows_more l 0 (words_per_row w) y row_at row_at_words e
      (q ∙ ap (λ (k : ℕ). sets m k (row_at y)) (ap (λ (k : ℕ). y * k) are ∙ sym (zero-add (y * words_per_row w))))

  -- all of them
  pub rows_all : (l : List ℕ) → length l ≡ bitmap_words w h → {m : List ℕ} {y : ℕ} → y ≡ h → m ≡ sets l 0 (joined y row_at) → m ≡ packed w h (λ (x y : ℕ). test (sample s w x y))
  unfolding row_at words_of_row packed
  rows_all l e p q =
      q ∙ ap (λ (k : ℕ). sets l 0 (joined k row_at)) p
      ∙ sets_whole l (joined h row_at) (joined_length h (words_per_row w) row_at (λ y _. row_at_words y) ∙ sym e)
