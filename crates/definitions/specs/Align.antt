-- align.rs: levels, the search over the nine, the step of two frames, and the shifts of a stack.
use Rattle.std.specs.Prelude.{ℕ, zero, suc, ◌+◌, ◌-◌, ◌*◌, ◌^◌, min, max, true, false, cond, List, [], ◌∷◌, ◌++◌, map, ltb, leb, eqb, ℤ, pos, negsuc, length, get_or, take, drop}
use Rattle.definitions.specs.Build.{build}
use Rattle.definitions.specs.Geometry.{Shift, origin, offset, doubled}
use Rattle.definitions.specs.Shrink.{Shrink, side_at, level_of, halved_samples}
use Rattle.definitions.specs.Threshold.{cut}
use Rattle.definitions.specs.Bitmap.{bitmap_words}
use Rattle.definitions.specs.Difference.{Bitmaps, Counts, bitmaps_of, counts}

-- ---- levels

-- The largest j, at most k, with 2 ^ j at most n; 0 if there is none.
unfoldable pub log_up_to : ℕ → ℕ → ℕ
log_up_to zero n = 0
log_up_to (suc k) n = let less = log_up_to k n in elim (leb (2 ^ suc k) n) [ true ↦ suc k | false ↦ less ]

-- The base-two logarithm of n, rounded down. Of 0 it is 0, which no definition uses.
unfoldable pub log2 : ℕ → ℕ
log2 n = log_up_to n n

-- 01's L, how often a frame of w by h is halved: 0 if a side is 0.
unfoldable pub levels : ℕ → ℕ → ℕ → ℕ
levels w h bits =
    cond (eqb (min w h) 0) 0
    (min (bits - 1) (min (log2 (max w h) - 1) (log2 (min w h))))

-- ---- the nine

-- A shift of two whole numbers.
abbrev pub shift : ℤ → ℤ → Shift
shift x y = record { x = x; y = y }

-- The nine offsets in their order, centre first: the Rust's CANDIDATES.
abbrev pub candidates : List Shift
candidates =
    shift (pos 0) (pos 0)
    ∷ shift (negsuc 0) (negsuc 0) ∷ shift (negsuc 0) (pos 0) ∷ shift (negsuc 0) (pos 1)
    ∷ shift (pos 0) (negsuc 0) ∷ shift (pos 0) (pos 1)
    ∷ shift (pos 1) (negsuc 0) ∷ shift (pos 1) (pos 0) ∷ shift (pos 1) (pos 1) ∷ []

-- The nine shifts around a centre, in their order.
unfoldable pub nine : Shift → List Shift
nine centre = map (offset centre) candidates

-- The best so far, or a later one of the list that disagrees in fewer pixels than all before it.
unfoldable pub least_from : (Shift → ℕ) → Shift → List Shift → Shift
least_from cost best [] = best
least_from cost best (s ∷ l) = least_from cost (cond (ltb (cost s) (cost best)) s best) l

-- The earliest least of a list; the origin for an empty one, which no level tries.
unfoldable pub earliest_least : (Shift → ℕ) → List Shift → Shift
earliest_least cost [] = origin
earliest_least cost (s ∷ l) = least_from cost s l

-- The best of all nine around a centre, where each disagrees in cost shift pixels: the Rust's refine.
unfoldable pub refine : (Shift → ℕ) → Shift → Shift
refine cost centre = earliest_least cost (nine centre)

-- A list up to and including its first shift that disagrees in no pixel, or all of it.
unfoldable pub up_to_zero : (Shift → ℕ) → List Shift → List Shift
up_to_zero cost [] = []
up_to_zero cost (s ∷ l) = s ∷ cond (eqb (cost s) 0) [] (up_to_zero cost l)

-- Those of the nine that a level tries: up to and including the first clean match, which disagrees in no pixel and which none after it beats.
unfoldable pub tried : (Shift → ℕ) → Shift → List Shift
tried cost centre = up_to_zero cost (nine centre)

-- A step, and the number of comparisons that it takes.
pub record Stepped : Type 0 where
  pub shift : Shift
  pub comparisons : ℕ

-- Both at one level: the best of all nine, and as many comparisons as shifts are tried.
unfoldable pub refined : (Shift → ℕ) → Shift → Stepped
refined cost centre = record { shift = refine cost centre; comparisons = length (tried cost centre) }

-- ---- the step

-- What all frames of a search share. Bits is Ward's shift_bits.
pub record Options : Type 0 where
  pub bits : ℕ
  pub tolerance : ℕ
  pub shrink : Shrink

-- A frame and the percentile that it is cut at.
pub record Exposure : Type 0 where
  pub samples : List ℕ
  pub percentile : ℕ

-- The bitmaps of level k of a frame of w by h, the level cut by itself.
unfoldable pub bitmaps_at : Options → ℕ → ℕ → Exposure → ℕ → Bitmaps
bitmaps_at o w h e k =
    let s = level_of o.shrink w h e.samples k in
    bitmaps_of (side_at k w) s (cut s e.percentile) o.tolerance

-- Both counts at level k of a reference and a target, the target moved by the shift.
unfoldable pub counts_at : Options → ℕ → ℕ → Exposure → Exposure → ℕ → Shift → Counts
counts_at o w h r t k s = counts (side_at k w) (side_at k h) (bitmaps_at o w h r k) (bitmaps_at o w h t k) s

-- The step at level k, where d is the distance from k to the last level and cost k s the disagreement of level k at s: the best
-- around (0, 0) at the last level, and else around twice the step at the next coarser level.
unfoldable pub step_at : (ℕ → Shift → ℕ) → ℕ → ℕ → Shift
step_at cost k zero = refine (cost k) origin
step_at cost k (suc d) = refine (cost k) (doubled (step_at cost (suc k) d))

-- The comparisons that the walk makes from the last level to level k: at each level as many as it tries shifts.
unfoldable pub comparisons_at : (ℕ → Shift → ℕ) → ℕ → ℕ → ℕ
comparisons_at cost k zero = length (tried (cost k) origin)
comparisons_at cost k (suc d) = comparisons_at cost (suc k) d + length (tried (cost k) (doubled (step_at cost (suc k) d)))

-- Both from the last level to level k.
unfoldable pub stepped_at : (ℕ → Shift → ℕ) → ℕ → ℕ → Stepped
stepped_at cost k d = record { shift = step_at cost k d; comparisons = comparisons_at cost k d }

-- The disagreement of two frames of w by h at level k and a shift.
abbrev pub cost_of : Options → ℕ → ℕ → Exposure → Exposure → ℕ → Shift → ℕ
cost_of o w h r t k s = (counts_at o w h r t k s).disagreeing

-- The step of a target against a reference, both w by h: how far the target has to move to sit on the reference.
unfoldable pub step : Options → ℕ → ℕ → Exposure → Exposure → Shift
step o w h r t = step_at (cost_of o w h r t) 0 (levels w h o.bits)

-- The number of comparisons that the step makes.
unfoldable pub comparisons : Options → ℕ → ℕ → Exposure → Exposure → ℕ
comparisons o w h r t = comparisons_at (cost_of o w h r t) 0 (levels w h o.bits)

-- Both.
unfoldable pub stepped : Options → ℕ → ℕ → Exposure → Exposure → Stepped
stepped o w h r t = record { shift = step o w h r t; comparisons = comparisons o w h r t }

-- ---- the stack

-- Frames of one size one after another by number, the reference's number, and a percentile for each frame's number.
pub record Stack : Type 0 where
  pub width : ℕ
  pub height : ℕ
  pub frames : ℕ
  pub samples : List ℕ
  pub reference : ℕ
  pub percentile : ℕ → ℕ
  pub options : Options

-- As many frames as widths, all of the first one's size once 01's checks pass, each cut at the percentile that its number has.
abbrev pub stack_cut_at : (ℕ → ℕ) → List ℕ → List ℕ → List ℕ → ℕ → Options → Stack
stack_cut_at percentile widths heights samples reference options = record {
  width = get_or widths 0 0;
  height = get_or heights 0 0;
  frames = length widths;
  samples = samples;
  reference = reference;
  percentile = percentile;
  options = options;
}

-- The stack of a call: frame k has percentile k of the list. Past the last frame that is 0, on which nothing rests.
unfoldable pub stack_of : List ℕ → List ℕ → List ℕ → List ℕ → ℕ → Options → Stack
stack_of widths heights percentiles samples reference options = stack_cut_at (λ (k : ℕ). get_or percentiles k 0) widths heights samples reference options

-- The stack of the Rust's `align_stack`: all frames cut at one percentile.
unfoldable pub stack_at_one : List ℕ → List ℕ → ℕ → List ℕ → ℕ → Options → Stack
stack_at_one widths heights percentile samples reference options = stack_cut_at (λ (k : ℕ). percentile) widths heights samples reference options

-- Frame k with its percentile. A frame past the last has no sample.
unfoldable pub exposure : Stack → ℕ → Exposure
exposure a k =
    let n = a.width * a.height in
    record { samples = take n (drop (k * n) a.samples); percentile = a.percentile k }

-- 01's "neighbour" of frame k: the frame next to it on the reference's side. For the reference, which has none, it gives the reference.
unfoldable pub neighbour : ℕ → ℕ → ℕ
neighbour reference k = cond (ltb k reference) (suc k) (cond (ltb reference k) (k - 1) k)

-- 01's "walk" over n frames: from the frame below the reference down to 0, then from the frame above it up.
unfoldable pub walk : ℕ → ℕ → List ℕ
walk reference n = build reference (λ (i : ℕ). reference - suc i) ++ build (n - suc reference) (λ (i : ℕ). reference + suc i)

-- The step of frame k, as the target, against its neighbour.
unfoldable pub step_of : Stack → ℕ → Shift
step_of a k = step a.options a.width a.height (exposure a (neighbour a.reference k)) (exposure a k)

-- The sum of the shifts f 0, f 1, .. f (n - 1).
unfoldable pub shift_sum : ℕ → (ℕ → Shift) → Shift
shift_sum zero f = origin
shift_sum (suc n) f = offset (shift_sum n f) (f n)

-- The shift of frame k: the sum of the steps of the frames from the reference's side to k. The reference's is (0, 0).
unfoldable pub shift_of : Stack → ℕ → Shift
shift_of a k =
    let r = a.reference in
    cond (leb k r)
    (shift_sum (r - k) (λ (i : ℕ). step_of a (r - suc i)))
    (shift_sum (k - r) (λ (i : ℕ). step_of a (r + suc i)))

-- The shifts of all frames, by number.
unfoldable pub shifts : Stack → List Shift
shifts a = build a.frames (shift_of a)

-- ---- scratch

-- The bytes of scratch that a step of frames of w by h needs: twice the samples of all halved levels.
unfoldable pub step_bytes : ℕ → ℕ → ℕ → ℕ
step_bytes w h bits = 2 * halved_samples w h (levels w h bits)

-- The words of scratch that a step needs: 4 times height times words per row.
unfoldable pub step_words : ℕ → ℕ → ℕ
step_words w h = 4 * bitmap_words w h

-- Scratch by its bytes and its words.
pub record Need : Type 0 where
  pub bytes : ℕ
  pub words : ℕ

-- What a step needs of both.
abbrev pub step_need : ℕ → ℕ → ℕ → Need
step_need w h bits = record { bytes = step_bytes w h bits; words = step_words w h }

-- What a stack of n frames needs of what a step needs: none with one frame.
abbrev pub stack_need : ℕ → ℕ → ℕ
stack_need n need = cond (leb n 1) 0 need

-- What a stack needs of both.
abbrev pub stack_bytes : Stack → ℕ
stack_bytes a = stack_need a.frames (step_bytes a.width a.height a.options.bits)

abbrev pub stack_words : Stack → ℕ
stack_words a = stack_need a.frames (step_words a.width a.height)
