-- The stack in hand, the bitmaps of two of its frames, and its shifts in a list.
use Rattle.std.specs.Prelude.{ℕ, ◌+◌, ◌*◌, ◌≤◌, ◌≡◌, List, ℤ, pos, length, get_or, take}
use Rattle.definitions.specs.Geometry.{Shift, listed}
use Rattle.definitions.specs.Align.{Stack, exposure, shifts}
use Rattle.mtb_align.specs.declared.stack.Stack as code
use Rattle.mtb_align.specs.Search.{options_in, four_of}

-- The frames with their percentiles and samples.
abbrev pub stack_in : code.Stack → Stack
stack_in s = record {
  width = s.width;
  height = s.height;
  frames = length s.percentiles.now;
  samples = s.samples.now;
  reference = s.reference;
  percentile = λ (k : ℕ). get_or s.percentiles.now k 0;
  options = options_in s.options;
}

-- The bitmaps of frames j and k.
abbrev pub four_in : Stack → ℕ → ℕ → List ℕ
four_in a j k = four_of a.width a.height a.options.tolerance (exposure a j) (exposure a k)

-- Shift k of a list that has x then y for each frame.
abbrev pub listed_at : List ℤ → ℕ → Shift
listed_at list k = record { x = get_or list (2 * k) (pos 0); y = get_or list (2 * k + 1) (pos 0) }

-- The shifts of a stack stand at the front of a list.
pub record Placed (a : Stack) (list : List ℤ) : Type 0 where
  pub long : 2 * a.frames ≤ length list
  pub front : take (2 * a.frames) list ≡ listed (shifts a)
