-- difference.rs: the two counts of a pair of frames at a shift. Ward's (tb1 XOR shift tb2) AND eb1 AND shift eb2.
use Rattle.std.specs.Prelude.{ℕ, min, List}
use Rattle.std.specs.Int.Bits.{differ}
use Rattle.definitions.specs.Sum.{sum}
use Rattle.definitions.specs.Build.{sample}
use Rattle.definitions.specs.Geometry.{Shift, at_sources}
use Rattle.definitions.specs.Threshold.{threshold_bit, exclusion_bit}
use Rattle.definitions.specs.Bitmap.{bit_at}

-- A frame's two bitmaps: a bit, 0 or 1, at each column and row.
pub record Bitmaps : Type 0 where
  pub threshold : ℕ → ℕ → ℕ
  pub exclusion : ℕ → ℕ → ℕ

-- Those of a frame of width w at a cut and a tolerance, by its samples.
unfoldable pub bitmaps_of : ℕ → List ℕ → ℕ → ℕ → Bitmaps
bitmaps_of w s c tolerance = record {
  threshold = λ (x y : ℕ). threshold_bit c (sample s w x y);
  exclusion = λ (x y : ℕ). exclusion_bit c tolerance (sample s w x y);
}

-- Those of a packed pair of width w, by its bits.
unfoldable pub bitmaps_in : ℕ → List ℕ → List ℕ → Bitmaps
bitmaps_in w threshold exclusion = record {
  threshold = λ (x y : ℕ). bit_at threshold w x y;
  exclusion = λ (x y : ℕ). bit_at exclusion w x y;
}

-- 01's "compared": both exclusion bits are set. `min` of two bits is their AND.
unfoldable pub compared_bit : Bitmaps → Bitmaps → ℕ → ℕ → ℕ → ℕ → ℕ
compared_bit r t x y u v = min (r.exclusion x y) (t.exclusion u v)

-- 01's "disagrees": compared, and the threshold bits differ. The mask comes after the XOR, which is `differ`.
unfoldable pub disagreeing_bit : Bitmaps → Bitmaps → ℕ → ℕ → ℕ → ℕ → ℕ
disagreeing_bit r t x y u v = min (differ (r.threshold x y) (t.threshold u v)) (compared_bit r t x y u v)

-- The sum of a bit over the pixels of w by h whose source in the target lies inside.
unfoldable pub overlap : ℕ → ℕ → Shift → (ℕ → ℕ → ℕ → ℕ → ℕ) → ℕ
overlap w h s f = sum h (λ (y : ℕ). sum w (λ (x : ℕ). at_sources w h s x y (λ (u v : ℕ). f x y u v)))

pub record Counts : Type 0 where
  pub disagreeing : ℕ
  pub compared : ℕ

-- Both counts of a reference and a target of w by h, the target moved by the shift.
unfoldable pub counts : ℕ → ℕ → Bitmaps → Bitmaps → Shift → Counts
counts w h r t s = record { disagreeing = overlap w h s (disagreeing_bit r t); compared = overlap w h s (compared_bit r t) }
