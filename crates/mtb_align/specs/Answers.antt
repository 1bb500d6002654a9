-- The code's answers in document 01's terms: each refusal's number and values, and each answer as accepted or refused.
use Rattle.std.specs.Prelude.{ℕ, List, [], ◌∷◌, Option, Some, None, Result, Ok, Err}
use Rattle.definitions.specs.Shrink as halving
use Rattle.definitions.specs.Refusals.{Answer, accepted, refused}
use Rattle.mtb_align.specs.declared.error.Error.{Error}
use Rattle.mtb_align.specs.declared.error.Error.TheVariants.{Side, Length, Percentile, SizeMismatch, FrameMismatch, NoSuchReference, Frames, Scratch, Padding, Reach, Records, Outside}
use Rattle.mtb_align.specs.declared.error.Error.TheVariants.{Coordinate}
use Rattle.mtb_align.specs.declared.shrink.Shrink.{Shrink}
use Rattle.mtb_align.specs.declared.shrink.Shrink.TheVariants as modes
use Rattle.definitions.specs.Geometry as geometry
use Rattle.mtb_align.specs.declared.geometry.Shift.{Shift}
use Rattle.mtb_align.specs.declared.geometry.Rect.{Rect}
use Rattle.definitions.specs.Difference as difference
use Rattle.mtb_align.specs.declared.difference.Counts.{Counts}
use Rattle.definitions.specs.Align as search
use Rattle.mtb_align.specs.declared.levels.LevelPlace.{LevelPlace}
use Rattle.mtb_align.specs.declared.checks.Need.{Need}
use Rattle.mtb_align.specs.declared.align.Step.{Step}

-- 01's number of a refusal.
abbrev pub number_of : Error → ℕ
number_of Side = 1
number_of Length = 2
number_of Percentile = 3
number_of (SizeMismatch r t) = 4
number_of (FrameMismatch n t k) = 4
number_of (NoSuchReference r n) = 5
number_of Frames = 6
number_of Scratch = 7
number_of Padding = 8
number_of Reach = 9
number_of (Records n) = 10
number_of Outside = 11
number_of Coordinate = 12

-- The values that come with it.
abbrev pub values_of : Error → List ℕ
values_of Side = []
values_of Length = []
values_of Percentile = []
values_of (SizeMismatch r t) = r.width ∷ r.height ∷ t.width ∷ t.height ∷ []
values_of (FrameMismatch n t k) = n.width ∷ n.height ∷ t.width ∷ t.height ∷ k ∷ []
values_of (NoSuchReference r n) = r ∷ n ∷ []
values_of Frames = []
values_of Scratch = []
values_of Padding = []
values_of Reach = []
values_of (Records n) = n ∷ []
values_of Outside = []
values_of Coordinate = []

-- A refusal as an answer of any kind.
abbrev pub refusal : {A : Type 0} → Error → Answer A
refusal e = refused (number_of e) (values_of e)

-- What a call returns, as an answer: its value as f shows it, or the refusal.
abbrev pub answered : {T A : Type 0} → (T → A) → Result T Error → Answer A
answered f (Ok v) = accepted (f v)
answered f (Err e) = refusal e

-- How a frame is halved.
abbrev pub mode_of : Shrink → halving.Shrink
mode_of modes.Average = halving.average
mode_of modes.Subsample = halving.subsample

-- A shift of the code as 01's.
abbrev pub shift_in : Shift → geometry.Shift
shift_in s = record { x = s.x; y = s.y }

-- A source of a place.
abbrev pub source_in : Option ℕ → geometry.Source
source_in (Some i) = geometry.inside i
source_in None = geometry.outside

-- A region.
abbrev pub rect_in : Rect → geometry.Rect
rect_in r = record { x = r.x; y = r.y; width = r.width; height = r.height }

-- Both counts.
abbrev pub counts_in : Counts → difference.Counts
counts_in c = record { disagreeing = c.disagreeing; compared = c.compared }

-- Where a level stands.
abbrev pub level_place_in : LevelPlace → halving.LevelPlace
level_place_in p = record { in_scratch = p.in_scratch; start = p.start; samples = p.samples }

-- The scratch of a step.
abbrev pub need_in : Need → search.Need
need_in n = record { bytes = n.bytes; words = n.words }

-- A step with the number of comparisons made.
abbrev pub stepped_in : Step → search.Stepped
stepped_in s = record { shift = shift_in s.shift; comparisons = s.comparisons }
