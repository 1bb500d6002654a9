-- The words of a level, both bitmaps of the reference and then both of the target: each is found at its place, and the costs
-- that they give are those of the frames.
use mathlib.Core.Path.{◌≡◌, refl, sym, ap, ap₂, ◌∙◌, subst, fun_ext}
use mathlib.Core.List.{List, [], ◌++◌, append_assoc, append-nil}
use Prim.Native.Nat.{ℕ, ◌*◌, ◌≤◌}
use native.Mathlib.Omega.{arith}
use lib.ListN.{length, take, drop, length-append}
use lib.Seq.{sets, length-sets, take_at, drop_at}
use Rattle.definitions.specs.Geometry.{Shift}
use Rattle.definitions.specs.Threshold.{cut}
use Rattle.definitions.specs.Bitmap.{bitmap_words}
use Rattle.definitions.specs.Shrink.{side_at, level_of}
use Rattle.definitions.specs.Difference.{Bitmaps, Counts, bitmaps_of, bitmaps_in, counts}
use Rattle.definitions.specs.Align.{Options, Exposure, bitmaps_at, counts_at, cost_of}
use Rattle.definitions.specs.Refusals.{FreeUpTo}
use Rattle.laws.specs.bitmaps.Bitmaps.{IsBitmap}
use Rattle.laws.specs.bitmaps.Packed.{packed_length, packed_threshold, packed_exclusion, threshold_bitmap, exclusion_bitmap, counts_packed}
use Rattle.laws.specs.general.Writes.{stored_front, drop_past}
use Rattle.mtb_align.specs.Layout.{map_at, pair_counts, cost_in}
use Rattle.mtb_align.specs.Search.{packed_pair, pair_of, four_of}

-- What a Packed keeps of its words and sides.
pub record TwoPairs (words : List ℕ) (w h : ℕ) : Type 0 where
  pub wide : w ≤ 8192
  pub high : h ≤ 8192
  pub long : length words ≡ 4 * bitmap_words w h
  pub reference_threshold : IsBitmap (map_at words w h 0) w h
  pub reference_exclusion : IsBitmap (map_at words w h 1) w h
  pub target_threshold : IsBitmap (map_at words w h 2) w h
  pub target_exclusion : IsBitmap (map_at words w h 3) w h

-- ---- a part of a list

part_at : (p q s : List ℕ) {l : List ℕ} (i n : ℕ) → l ≡ p ++ (q ++ s) → length p ≡ i → length q ≡ n → take n (drop i l) ≡ q
part_at p q s i n e a b = ap (λ (m : List ℕ). take n (drop i m)) e ∙ ap (take n) (drop_at p (q ++ s) i a) ∙ take_at q s n b

-- the words of a frame's pair
pub pair_length : (w h : ℕ) (s : List ℕ) (c tolerance : ℕ) → length (packed_pair w h s c tolerance) ≡ 2 * bitmap_words w h
unfolding packed_pair
pair_length w h s c tolerance =
    let a = packed_length w h (bitmaps_of w s c tolerance).threshold in
    let b = packed_length w h (bitmaps_of w s c tolerance).exclusion in
    length-append (packed_threshold w h s c tolerance) (packed_exclusion w h s c tolerance) ∙ omega arith

module _ (w h tolerance : ℕ) (r t : Exposure) where
  abbrev pair : Exposure → List ℕ
  pair e = pair_of w h tolerance e

  abbrev four : List ℕ
  four = four_of w h tolerance r t

  -- ---- both pairs stored

  pair_words : (e : Exposure) → length (pair e) ≡ 2 * bitmap_words w h
  unfolding pair_of
  pair_words e = pair_length w h e.samples (cut e.samples e.percentile) tolerance

  pub four_length : length four ≡ 4 * bitmap_words w h
  unfolding four_of pair_of
  four_length = length-append (pair r) (pair t) ∙ omega (arith, pair_words r, pair_words t)

  pub four_packed : {a b m n : List ℕ} {c d : ℕ} → c ≡ cut r.samples r.percentile → d ≡ cut t.samples t.percentile
      → a ≡ packed_threshold w h r.samples c tolerance → b ≡ packed_exclusion w h r.samples c tolerance
      → m ≡ packed_threshold w h t.samples d tolerance → n ≡ packed_exclusion w h t.samples d tolerance → (a ++ b) ++ (m ++ n) ≡ four
  unfolding four_of pair_of packed_pair
  four_packed p q ea eb em en =
      ap₂ (λ (i j : List ℕ). i ++ j)
      (ap₂ (λ (i j : List ℕ). i ++ j) ea eb ∙ ap (λ (k : ℕ). packed_threshold w h r.samples k tolerance ++ packed_exclusion w h r.samples k tolerance) p)
      (ap₂ (λ (i j : List ℕ). i ++ j) em en ∙ ap (λ (k : ℕ). packed_threshold w h t.samples k tolerance ++ packed_exclusion w h t.samples k tolerance) q)

  module _ (l : List ℕ) (room : 4 * bitmap_words w h ≤ length l) {new : List ℕ} (e : new ≡ sets l 0 four) where
    pub four_front : (k : ℕ) → k ≡ 4 * bitmap_words w h → take k new ≡ four
    four_front k q = stored_front l four (omega (arith, four_length)) e k (q ∙ sym four_length)

    pub four_free : FreeUpTo (4 * bitmap_words w h) l new
    four_free = record {
      long = ap length e ∙ length-sets l 0 four;
      past = ap (drop (4 * bitmap_words w h)) e ∙ drop_past l four 0 (4 * bitmap_words w h) (omega (arith, four_length));
    }

  -- ---- each at its place

  abbrev threshold_of : Exposure → List ℕ
  threshold_of e = packed_threshold w h e.samples (cut e.samples e.percentile) tolerance

  abbrev exclusion_of : Exposure → List ℕ
  exclusion_of e = packed_exclusion w h e.samples (cut e.samples e.percentile) tolerance

  threshold_words : (e : Exposure) → length (threshold_of e) ≡ bitmap_words w h
  threshold_words e = packed_length w h (bitmaps_of w e.samples (cut e.samples e.percentile) tolerance).threshold

  exclusion_words : (e : Exposure) → length (exclusion_of e) ≡ bitmap_words w h
  exclusion_words e = packed_length w h (bitmaps_of w e.samples (cut e.samples e.percentile) tolerance).exclusion

  first : map_at four w h 0 ≡ threshold_of r
  unfolding four_of pair_of packed_pair
  first =
      part_at [] (threshold_of r) (exclusion_of r ++ pair t) (0 * bitmap_words w h) (bitmap_words w h)
      (append_assoc (threshold_of r) (exclusion_of r) (pair t)) (omega arith) (threshold_words r)

  second : map_at four w h 1 ≡ exclusion_of r
  unfolding four_of pair_of packed_pair
  second =
      part_at (threshold_of r) (exclusion_of r) (pair t) (1 * bitmap_words w h) (bitmap_words w h)
      (append_assoc (threshold_of r) (exclusion_of r) (pair t)) (omega (arith, threshold_words r)) (exclusion_words r)

  third : map_at four w h 2 ≡ threshold_of t
  unfolding four_of pair_of packed_pair
  third = part_at (pair r) (threshold_of t) (exclusion_of t) (2 * bitmap_words w h) (bitmap_words w h) refl (pair_words r) (threshold_words t)

  fourth : map_at four w h 3 ≡ exclusion_of t
  unfolding four_of pair_of packed_pair
  fourth =
      part_at (pair r ++ threshold_of t) (exclusion_of t) [] (3 * bitmap_words w h) (bitmap_words w h)
      (sym (append_assoc (pair r) (threshold_of t) (exclusion_of t)) ∙ ap (λ (m : List ℕ). (pair r ++ threshold_of t) ++ m) (sym (append-nil (exclusion_of t))))
      (length-append (pair r) (threshold_of t) ∙ omega (arith, pair_words r, threshold_words t))
      (exclusion_words t)

  is_bitmap : {a b : List ℕ} → a ≡ b → IsBitmap b w h → IsBitmap a w h
  is_bitmap e m = subst (λ (l : List ℕ). IsBitmap l w h) (sym e) m

  pub four_pairs : w ≤ 8192 → h ≤ 8192 → TwoPairs four w h
  four_pairs a b = record {
    wide = a;
    high = b;
    long = four_length;
    reference_threshold = is_bitmap first (threshold_bitmap w h r.samples (cut r.samples r.percentile) tolerance);
    reference_exclusion = is_bitmap second (exclusion_bitmap w h r.samples (cut r.samples r.percentile) tolerance);
    target_threshold = is_bitmap third (threshold_bitmap w h t.samples (cut t.samples t.percentile) tolerance);
    target_exclusion = is_bitmap fourth (exclusion_bitmap w h t.samples (cut t.samples t.percentile) tolerance);
  }

  pub four_counts : (s : Shift) → pair_counts four w h s
      ≡ counts w h (bitmaps_of w r.samples (cut r.samples r.percentile) tolerance) (bitmaps_of w t.samples (cut t.samples t.percentile) tolerance) s
  unfolding pair_counts
  four_counts s =
      ap₂ (λ (a b : Bitmaps). counts w h a b s) (ap₂ (bitmaps_in w) first second) (ap₂ (bitmaps_in w) third fourth)
      ∙ counts_packed w h r.samples (cut r.samples r.percentile) t.samples (cut t.samples t.percentile) tolerance s

-- the costs are those of the frames themselves, level 0
pub four_costs : (o : Options) (w h : ℕ) (r t : Exposure) → cost_in (four_of w h o.tolerance r t) w h ≡ cost_of o w h r t 0
unfolding cost_in counts_at bitmaps_at side_at level_of
four_costs o w h r t = fun_ext (λ (s : Shift). ap (λ (n : Counts). n.disagreeing) (four_counts w h o.tolerance r t s))
