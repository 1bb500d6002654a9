-- shrink.rs: halving, and the levels of a pyramid. Ward's ImageShrink2.
use Rattle.std.specs.Prelude.{ℕ, zero, suc, ◌+◌, ◌-◌, ◌*◌, ◌/◌, Bool, true, false, cond, List, [], eqb, leb, take, drop}
use Rattle.definitions.specs.Sum.{sum}
use Rattle.definitions.specs.Build.{image, joined, sample}

-- How a frame is halved.
pub data Shrink : Type 0 where
  average : Shrink
  subsample : Shrink

-- The mean of four samples, rounded to the nearest, a half up.
unfoldable pub mean : ℕ → ℕ → ℕ → ℕ → ℕ
mean a b c d = (a + b + c + d + 2) / 4

-- Column x and row y of a halved frame: the mean of the block of four that starts at twice the place, or its upper left sample.
unfoldable pub halved_sample : Shrink → List ℕ → ℕ → ℕ → ℕ → ℕ
halved_sample average s w x y = mean (sample s w (2 * x) (2 * y)) (sample s w (2 * x + 1) (2 * y)) (sample s w (2 * x) (2 * y + 1)) (sample s w (2 * x + 1) (2 * y + 1))
halved_sample subsample s w x y = sample s w (2 * x) (2 * y)

-- A frame of w by h halved: both sides halved and rounded down, so an odd last column or row is dropped.
unfoldable pub shrink2 : Shrink → ℕ → ℕ → List ℕ → List ℕ
shrink2 mode w h s = image (w / 2) (h / 2) (λ (x y : ℕ). halved_sample mode s w x y)

-- ---- the pyramid: level 0 is the frame, and each level after it is the one before, halved

-- A side at level k.
unfoldable pub side_at : ℕ → ℕ → ℕ
side_at zero side = side
side_at (suc k) side = side_at k side / 2

-- The samples of level k of a frame of w by h.
unfoldable pub samples_at : ℕ → ℕ → ℕ → ℕ
samples_at k w h = side_at k w * side_at k h

-- Level k. It is defined for every k: past the last level that 01 names the sides may be 0, and the level empty.
unfoldable pub level_of : Shrink → ℕ → ℕ → List ℕ → ℕ → List ℕ
level_of mode w h s zero = s
level_of mode w h s (suc k) = shrink2 mode (side_at k w) (side_at k h) (level_of mode w h s k)

-- The samples of the halved levels 1 to n.
unfoldable pub halved_samples : ℕ → ℕ → ℕ → ℕ
halved_samples w h n = sum n (λ (k : ℕ). samples_at (suc k) w h)

-- Where level k, 1 or more, starts in the scratch: after levels 1 to k - 1. For level 0, which is not there, it gives 0.
unfoldable pub level_start : ℕ → ℕ → ℕ → ℕ
level_start w h k = halved_samples w h (k - 1)

-- The halved levels 1 to n, one after another, as they stand in the scratch.
unfoldable pub pyramid : Shrink → ℕ → ℕ → List ℕ → ℕ → List ℕ
pyramid mode w h s n = joined n (λ (k : ℕ). level_of mode w h s (suc k))

-- Level k of n halved levels, asked for: the caller's frame, the level's part of the scratch, or nothing past the last.
unfoldable pub level_part : ℕ → ℕ → ℕ → List ℕ → List ℕ → ℕ → List ℕ
level_part w h n frame scratch k =
    cond (eqb k 0) frame
    (cond (leb k n) (take (samples_at k w h) (drop (level_start w h k) scratch)) [])

-- A part of a frame or of the scratch of its levels: which of the two, the sample that it starts at, and how many it has.
pub record LevelPlace : Type 0 where
  pub in_scratch : Bool
  pub start : ℕ
  pub samples : ℕ

-- The empty part.
unfoldable pub nowhere : LevelPlace
nowhere = record { in_scratch = false; start = 0; samples = 0 }

-- Where level k of n halved levels stands: it is the frame, a part of the scratch, or past the last nothing.
unfoldable pub place_of : ℕ → ℕ → ℕ → ℕ → LevelPlace
place_of w h n k =
    cond (eqb k 0) (record { in_scratch = false; start = 0; samples = w * h })
    (cond (leb k n) (record { in_scratch = true; start = level_start w h k; samples = samples_at k w h }) nowhere)

-- The samples that stand at a place.
abbrev pub part_at : LevelPlace → List ℕ → List ℕ → List ℕ
part_at p frame scratch = take p.samples (drop p.start (cond p.in_scratch scratch frame))
