-- A packed bitmap has the bits that it was packed from and clear padding, and counts rest on the bits of pixels alone: so those
-- of two packed pairs are those of their frames.
use Rattle.std.specs.Prelude.{◌≡◌, refl, Bool, cond, List, ltb, length}
use Rattle.std.proofs.Math.Path.{ap, ap₂}
use Rattle.std.proofs.Common.{◌∙◌, ⊎_elim, lt-ltb, le-ltb}
use Prim.Native.Nat.{ℕ, ◌+◌, ◌*◌, ◌/◌, ◌%◌, ◌≤◌, ◌<◌, min}
use native.Mathlib.Omega.{arith}
use Rattle.std.specs.Int.Bits.{differ}
use Rattle.definitions.specs.Build.{sample}
use Rattle.definitions.specs.Threshold.{threshold_bit, exclusion_bit, distance}
use Rattle.definitions.specs.Geometry.{Shift, Source, inside, outside, source, value_at_source, at_sources}
use Rattle.definitions.specs.Bitmap.{words_per_row, bitmap_words, bit_of, word_of, bit_at, packed}
use Rattle.definitions.specs.Difference.{Bitmaps, bitmaps_of, bitmaps_in, compared_bit, disagreeing_bit, overlap, counts}
use Rattle.laws.specs.bitmaps.Bitmaps.{IsBitmap, columns_fit}
use Rattle.laws.specs.general.Cases.{lt_or_le, bit_le}
use Rattle.laws.specs.general.Lists.{image_length, image_at}
use Rattle.laws.specs.images.Places.{inside_lt}
use Rattle.laws.specs.general.Sums.{sum_ext}
use Rattle.laws.specs.bitmaps.WordsOf.{bit_word}

-- ---- the words

pub packed_length : (w h : ℕ) (p : ℕ → ℕ → ℕ) → length (packed w h p) ≡ bitmap_words w h
unfolding packed
packed_length w h p = image_length (words_per_row w) h (λ (k y : ℕ). word_of 64 (λ (i : ℕ). cond (ltb (k * 64 + i) w) (p (k * 64 + i) y) 0))

module _ (w h : ℕ) (p : ℕ → ℕ → ℕ) (bits : (x y : ℕ) → x < w → y < h → p x y < 2) where
  -- what a column of row y holds, pixel or padding
  abbrev held : ℕ → ℕ → ℕ
  held y x = cond (ltb x w) (p x y) 0

  pixel : (x y : ℕ) → x < w → held y x ≡ p x y
  pixel x y l = ap (λ (t : Bool). cond t (p x y) 0) (lt-ltb x w l)

  padding : (x y : ℕ) → w ≤ x → held y x ≡ 0
  padding x y l = ap (λ (t : Bool). cond t (p x y) 0) (le-ltb x w l)

  held_lt : (x y : ℕ) → y < h → held y x < 2
  held_lt x y k = ⊎_elim
      (λ (l : x < w). omega (arith, pixel x y l, bits x y l k))
      (λ (l : w ≤ x). omega (arith, padding x y l))
      (lt_or_le x w)

  column_bit : (x y : ℕ) → x < words_per_row w * 64 → y < h → bit_at (packed w h p) w x y ≡ held y x
  unfolding bit_at packed
  column_bit x y l k =
      let e : x / 64 * 64 + x % 64 ≡ x = omega arith in
      ap (λ (v : ℕ). bit_of v (x % 64)) (image_at (words_per_row w) h (λ (k y : ℕ). word_of 64 (λ (i : ℕ). held y (k * 64 + i))) (x / 64) y 0 (omega arith) k)
      ∙ bit_word 64 (λ (i : ℕ). held y (x / 64 * 64 + i)) (λ i _. held_lt (x / 64 * 64 + i) y k) (x % 64) (omega arith)
      ∙ ap (held y) e

  pub packed_bit : (x y : ℕ) → x < w → y < h → bit_at (packed w h p) w x y ≡ p x y
  packed_bit x y l k = column_bit x y (omega (arith, columns_fit w)) k ∙ pixel x y l

  pub packed_bitmap : IsBitmap (packed w h p) w h
  packed_bitmap = record { long = packed_length w h p; clear = λ x y g l k. column_bit x y l k ∙ padding x y g }

-- ---- counts rest on the bits of pixels

-- two pairs of bitmaps have the same bits at every pixel
pub record Agree (w h : ℕ) (a b : Bitmaps) : Type 0 where
  pub threshold : (x y : ℕ) → x < w → y < h → a.threshold x y ≡ b.threshold x y
  pub exclusion : (x y : ℕ) → x < w → y < h → a.exclusion x y ≡ b.exclusion x y

source_ext : (p : Source) (f g : ℕ → ℕ) → ((i : ℕ) → p ≡ inside i → f i ≡ g i) → value_at_source p f ≡ value_at_source p g
source_ext (inside i) f g e = e i refl
source_ext outside f g e = refl

sources_ext : (w h : ℕ) (s : Shift) (x y : ℕ) (f g : ℕ → ℕ → ℕ) → ((u v : ℕ) → u < w → v < h → f u v ≡ g u v) → at_sources w h s x y f ≡ at_sources w h s x y g
unfolding at_sources
sources_ext w h s x y f g e =
    source_ext (source x s.x w) _ _
    (λ u p. source_ext (source y s.y h) (f u) (g u) (λ v q. e u v (inside_lt x s.x w u p) (inside_lt y s.y h v q)))

overlap_ext : (w h : ℕ) (s : Shift) (f g : ℕ → ℕ → ℕ → ℕ → ℕ) → ((x y u v : ℕ) → x < w → y < h → u < w → v < h → f x y u v ≡ g x y u v) → overlap w h s f ≡ overlap w h s g
unfolding overlap
overlap_ext w h s f g e =
    sum_ext h _ _ (λ y k. sum_ext w _ _ (λ x l. sources_ext w h s x y (f x y) (g x y) (λ u v m n. e x y u v l k m n)))

module _ (w h : ℕ) {r r' t t' : Bitmaps} (a : Agree w h r r') (b : Agree w h t t') where
  compared_same : (x y u v : ℕ) → x < w → y < h → u < w → v < h → compared_bit r t x y u v ≡ compared_bit r' t' x y u v
  unfolding compared_bit
  compared_same x y u v l k m n = ap₂ min (a.exclusion x y l k) (b.exclusion u v m n)

  disagreeing_same : (x y u v : ℕ) → x < w → y < h → u < w → v < h → disagreeing_bit r t x y u v ≡ disagreeing_bit r' t' x y u v
  unfolding disagreeing_bit
  disagreeing_same x y u v l k m n = ap₂ min (ap₂ differ (a.threshold x y l k) (b.threshold u v m n)) (compared_same x y u v l k m n)

  pub counts_ext : (s : Shift) → counts w h r t s ≡ counts w h r' t' s
  unfolding counts
  counts_ext s = ap₂ (λ (d c : ℕ). record { disagreeing = d; compared = c })
      (overlap_ext w h s (disagreeing_bit r t) (disagreeing_bit r' t') disagreeing_same)
      (overlap_ext w h s (compared_bit r t) (compared_bit r' t') compared_same)

-- ---- the bitmaps of a frame

pub threshold_lt : (c v : ℕ) → threshold_bit c v < 2
unfolding threshold_bit
threshold_lt c v = omega (arith, bit_le (ltb c v))

pub exclusion_lt : (c t v : ℕ) → exclusion_bit c t v < 2
unfolding exclusion_bit
exclusion_lt c t v = omega (arith, bit_le (ltb t (distance v c)))

-- both packed
abbrev pub packed_threshold : ℕ → ℕ → List ℕ → ℕ → ℕ → List ℕ
packed_threshold w h s c t = packed w h (bitmaps_of w s c t).threshold

abbrev pub packed_exclusion : ℕ → ℕ → List ℕ → ℕ → ℕ → List ℕ
packed_exclusion w h s c t = packed w h (bitmaps_of w s c t).exclusion

module _ (w h : ℕ) (s : List ℕ) (c t : ℕ) where
  threshold_bits : (x y : ℕ) → x < w → y < h → (bitmaps_of w s c t).threshold x y < 2
  unfolding bitmaps_of
  threshold_bits x y l k = threshold_lt c (sample s w x y)

  exclusion_bits : (x y : ℕ) → x < w → y < h → (bitmaps_of w s c t).exclusion x y < 2
  unfolding bitmaps_of
  exclusion_bits x y l k = exclusion_lt c t (sample s w x y)

  pub threshold_bitmap : IsBitmap (packed_threshold w h s c t) w h
  threshold_bitmap = packed_bitmap w h (bitmaps_of w s c t).threshold threshold_bits

  pub exclusion_bitmap : IsBitmap (packed_exclusion w h s c t) w h
  exclusion_bitmap = packed_bitmap w h (bitmaps_of w s c t).exclusion exclusion_bits

  pub packed_agree : Agree w h (bitmaps_in w (packed_threshold w h s c t) (packed_exclusion w h s c t)) (bitmaps_of w s c t)
  unfolding bitmaps_in
  packed_agree = record {
    threshold = packed_bit w h (bitmaps_of w s c t).threshold threshold_bits;
    exclusion = packed_bit w h (bitmaps_of w s c t).exclusion exclusion_bits;
  }

-- the counts of two frames by their packed bitmaps
pub counts_packed : (w h : ℕ) (r : List ℕ) (c : ℕ) (t : List ℕ) (d tolerance : ℕ) (s : Shift)
    → counts w h (bitmaps_in w (packed_threshold w h r c tolerance) (packed_exclusion w h r c tolerance)) (bitmaps_in w (packed_threshold w h t d tolerance) (packed_exclusion w h t d tolerance)) s
    ≡ counts w h (bitmaps_of w r c tolerance) (bitmaps_of w t d tolerance) s
counts_packed w h r c t d tolerance s = counts_ext w h (packed_agree w h r c tolerance) (packed_agree w h t d tolerance) s
