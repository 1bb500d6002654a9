-- Both counts of two packed pairs, and of a frame of a stack, are at most the pixels; and no more pixels are compared than the reference's exclusion bitmap has.
use Rattle.std.specs.Prelude.{ℕ, zero, suc, ◌*◌, ◌%◌, ◌≤◌, List, ltb, get_or}
use Rattle.std.proofs.Common.{arith}
use Rattle.definitions.specs.Sum.{sum}
use Rattle.definitions.specs.Build.{sample}
use Rattle.definitions.specs.Geometry.{Shift, Source, inside, outside, source, value_at_source, at_sources}
use Rattle.definitions.specs.Shrink.{side_at, level_of}
use Rattle.definitions.specs.Threshold.{cut, distance, exclusion_bit}
use Rattle.definitions.specs.Bitmap.{word_at, bit_at, total}
use Rattle.definitions.specs.Difference.{Bitmaps, bitmaps_of, bitmaps_in, compared_bit, disagreeing_bit, overlap, counts}
use Rattle.definitions.specs.Align.{Options, Exposure, Stack, bitmaps_at, counts_at, exposure, neighbour}
use Rattle.definitions.specs.Report.{frame_counts}
use Rattle.laws.specs.bitmaps.Bits.{bit_lt}
use Rattle.laws.specs.general.Cases.{bit_le}
use Rattle.laws.specs.general.Sums.{sum_le, sum_le_one}

-- ---- an overlap counts no more than a bound at each place

sum_below : (n : ℕ) (f g : ℕ → ℕ) → ((i : ℕ) → f i ≤ g i) → sum n f ≤ sum n g
unfolding sum
sum_below zero f g h = omega arith
sum_below (suc n) f g h = omega (arith, sum_below n f g h, h n)

at_source_most : (a : Source) (f : ℕ → ℕ) (b : ℕ) → ((u : ℕ) → f u ≤ b) → value_at_source a f ≤ b
at_source_most (inside u) f b most = most u
at_source_most outside f b most = omega arith

overlap_most : (w h : ℕ) (s : Shift) (f : ℕ → ℕ → ℕ → ℕ → ℕ) (g : ℕ → ℕ → ℕ) → ((x y u v : ℕ) → f x y u v ≤ g x y)
    → overlap w h s f ≤ sum h (λ (y : ℕ). sum w (λ (x : ℕ). g x y))
unfolding overlap at_sources
overlap_most w h s f g most =
    sum_below h _ _ (λ y. sum_below w _ _ (λ x.
    at_source_most (source x s.x w) _ (g x y) (λ u. at_source_most (source y s.y h) _ (g x y) (most x y u))))

-- ---- both counts are at most the pixels

counts_within : (w h : ℕ) (r t : Bitmaps) (s : Shift) → ((x y : ℕ) → r.exclusion x y ≤ 1)
    → let n = counts w h r t s in (n.disagreeing ≤ h * w) × (n.compared ≤ h * w)
unfolding counts compared_bit disagreeing_bit
counts_within w h r t s one =
    let few : (x y u v : ℕ) → compared_bit r t x y u v ≤ 1 = λ x y u v. omega (arith, one x y) in
    let all : sum h (λ (y : ℕ). sum w (λ (x : ℕ). 1)) ≤ h * w = sum_le h w _ (λ y _. sum_le_one w _ (λ x _. omega arith)) in (
      omega (arith, overlap_most w h s (disagreeing_bit r t) (λ x y. 1) (λ x y u v. omega (arith, few x y u v)), all),
      omega (arith, overlap_most w h s (compared_bit r t) (λ x y. 1) few, all),
    )

-- of two packed pairs
bit_few : (words : List ℕ) (w x y : ℕ) → bit_at words w x y ≤ 1
unfolding bit_at
bit_few words w x y = omega (arith, bit_lt (get_or words (word_at w x y) 0) (x % 64))

pub counts_few : (w h : ℕ) (a b c d : List ℕ) (s : Shift)
    → let n = counts w h (bitmaps_in w a b) (bitmaps_in w c d) s in (n.disagreeing ≤ h * w) × (n.compared ≤ h * w)
unfolding bitmaps_in
counts_few w h a b c d s = counts_within w h (bitmaps_in w a b) (bitmaps_in w c d) s (bit_few b w)

-- of a frame of a stack
exclusion_few : (o : Options) (w h : ℕ) (e : Exposure) (k x y : ℕ) → (bitmaps_at o w h e k).exclusion x y ≤ 1
unfolding bitmaps_at bitmaps_of exclusion_bit
exclusion_few o w h e k x y =
    let s = level_of o.shrink w h e.samples k in
    bit_le (ltb o.tolerance (distance (sample s (side_at k w) x y) (cut s e.percentile)))

pub frame_counts_few : (a : Stack) (k : ℕ) (s : Shift)
    → let n = frame_counts a k s in (n.disagreeing ≤ a.height * a.width) × (n.compared ≤ a.height * a.width)
unfolding frame_counts counts_at side_at
frame_counts_few a k s =
    let bitmaps : ℕ → Bitmaps = λ i. bitmaps_at a.options a.width a.height (exposure a i) 0 in
    let j = neighbour a.reference k in
    counts_within a.width a.height (bitmaps j) (bitmaps k) s (exclusion_few a.options a.width a.height (exposure a j) 0)

-- ---- nor are more pixels compared than the reference's exclusion bitmap has

pub compared_most : (w h : ℕ) (a b c d : List ℕ) (s : Shift) → (counts w h (bitmaps_in w a b) (bitmaps_in w c d) s).compared ≤ total b w h
unfolding counts bitmaps_in compared_bit total
compared_most w h a b c d s = overlap_most w h s (compared_bit (bitmaps_in w a b) (bitmaps_in w c d)) (bit_at b w) (λ x y u v. omega arith)
