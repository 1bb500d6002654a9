-- Four bitmaps one after another in a list of words, the reference's threshold and exclusion bitmap and then the target's, and what is
-- counted of them.
use Rattle.std.specs.Prelude.{ℕ, ◌*◌, List, take, drop}
use Rattle.definitions.specs.Geometry.{Shift}
use Rattle.definitions.specs.Bitmap.{bitmap_words}
use Rattle.definitions.specs.Difference.{Counts, bitmaps_in, counts}

-- Bitmap i of a list of bitmaps of w by h.
abbrev pub map_at : List ℕ → ℕ → ℕ → ℕ → List ℕ
map_at words w h i = take (bitmap_words w h) (drop (i * bitmap_words w h) words)

-- Both counts of the two pairs at a shift.
unfoldable pub pair_counts : List ℕ → ℕ → ℕ → Shift → Counts
pair_counts words w h s =
    counts w h (bitmaps_in w (map_at words w h 0) (map_at words w h 1)) (bitmaps_in w (map_at words w h 2) (map_at words w h 3)) s

-- Their disagreement.
unfoldable pub cost_in : List ℕ → ℕ → ℕ → Shift → ℕ
cost_in words w h s = (pair_counts words w h s).disagreeing
