-- The stack in hand, within 01's limits: what it says of room, and a frame as the code takes it from the samples of all, which is the stack's.
use mathlib.Core.Path.{◌≡◌, refl, ap, ap₂, ◌∙◌}
use Prim.Native.Nat.{ℕ, ◌+◌, ◌-◌, ◌*◌, ◌<◌, ◌≤◌}
use native.Mathlib.Omega.{arith}
use lib.ListN.{length, get_or, take, drop}
use Rattle.definitions.specs.Align.{Exposure, exposure, stepped, step_words, stack_words}
use Rattle.laws.specs.search.StepBounds.{Small}
use Rattle.laws.specs.search.Walk.{need_two}
use Rattle.mtb_align.specs.declared.pair.Pair.{Pair}
use Rattle.mtb_align.specs.declared.stack.Stack.{Stack}
use Rattle.mtb_align.specs.Search.{options_in, reference_in, target_in, stepped_of}
use Rattle.mtb_align.specs.Stack.{stack_in}

module _ (s : Stack) where
  pub small : Small (stack_in s)
  small = record { width = s.wide; height = s.high; frames = s.few; reference = s.inside }

  -- there is room for the bitmaps of two
  pub maps_fit : {words : ℕ} → stack_words (stack_in s) ≤ words → 1 < length s.percentiles.now → step_words s.width s.height ≤ words
  maps_fit room two = omega (arith, room, need_two (length s.percentiles.now) (step_words s.width s.height) two)

  -- a frame with its percentile, as it is taken
  pub taken_is : (j : ℕ)
      → let n = s.width * s.height in
      ◌≡◌ {A = Exposure} (record { samples = take (j * n + n - j * n) (drop (j * n) s.samples.now); percentile = get_or s.percentiles.now j 0 })
      (exposure (stack_in s) j)
  unfolding exposure
  taken_is j =
      let n = s.width * s.height in
      let all : j * n + n - j * n ≡ n = omega arith in
      ap (λ (m : ℕ). record { samples = take m (drop (j * n) s.samples.now); percentile = get_or s.percentiles.now j 0 }) all

-- the step of two of its frames as a pair
pub pair_stepped : (s : Stack) (p : Pair) (j k : ℕ) → (p.width ≡ s.width) × (p.height ≡ s.height) × (p.options ≡ s.options)
    → reference_in p ≡ exposure (stack_in s) j → target_in p ≡ exposure (stack_in s) k
    → stepped_of p ≡ stepped (options_in s.options) s.width s.height (exposure (stack_in s) j) (exposure (stack_in s) k)
pair_stepped s p j k e r t =
    ap₂ (λ (a b : Exposure). stepped (options_in p.options) p.width p.height a b) r t ∙ rw (e.0, e.1, e.2) refl
