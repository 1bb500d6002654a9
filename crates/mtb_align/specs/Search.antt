-- What the inner functions of the search compute: the bitmaps of frames, and the costs of two frames.
use Rattle.std.specs.Prelude.{ℕ, List, ◌++◌}
use Rattle.definitions.specs.Geometry.{Shift}
use Rattle.definitions.specs.Threshold.{cut}
use Rattle.definitions.specs.Bitmap.{packed}
use Rattle.definitions.specs.Difference.{bitmaps_of}
use Rattle.definitions.specs.Align.{Options, Exposure, Stepped, cost_of, stepped}
use Rattle.mtb_align.specs.declared.align.Options as code
use Rattle.mtb_align.specs.declared.pair.Pair.{Pair}
use Rattle.mtb_align.specs.Answers.{mode_of}

-- ---- bitmaps

-- Both bitmaps of a frame, one after the other.
unfoldable pub packed_pair : ℕ → ℕ → List ℕ → ℕ → ℕ → List ℕ
packed_pair w h s c tolerance = packed w h (bitmaps_of w s c tolerance).threshold ++ packed w h (bitmaps_of w s c tolerance).exclusion

-- Those of a frame cut at its percentile.
unfoldable pub pair_of : ℕ → ℕ → ℕ → Exposure → List ℕ
pair_of w h tolerance e = packed_pair w h e.samples (cut e.samples e.percentile) tolerance

-- The bitmaps of two frames, the reference's and then the target's.
unfoldable pub four_of : ℕ → ℕ → ℕ → Exposure → Exposure → List ℕ
four_of w h tolerance r t = pair_of w h tolerance r ++ pair_of w h tolerance t

-- ---- two frames

-- What all frames of a search share.
abbrev pub options_in : code.Options → Options
options_in o = record { bits = o.bits; tolerance = o.tolerance; shrink = mode_of o.shrink }

-- The reference, and the target, each with its percentile.
abbrev pub reference_in : Pair → Exposure
reference_in p = record { samples = p.reference.now; percentile = p.first }

abbrev pub target_in : Pair → Exposure
target_in p = record { samples = p.target.now; percentile = p.second }

-- Their costs at each level.
abbrev pub costs_in : Pair → ℕ → Shift → ℕ
costs_in p = cost_of (options_in p.options) p.width p.height (reference_in p) (target_in p)

-- Their step.
abbrev pub stepped_of : Pair → Stepped
stepped_of p = stepped (options_in p.options) p.width p.height (reference_in p) (target_in p)
