use mathlib.Core.Path.{◌≡◌, refl, ◌∙◌}
use mathlib.Core.List.{List}
use Prim.Native.Nat.{ℕ, suc, ◌+◌, ◌≤◌, ◌<◌}
use native.Mathlib.Numerals.{add-one}
use native.Mathlib.Omega.{arith}
use lib.ListN.{length, get_or, drop}
use lib.Seq.{drop-cons}
use Rattle.definitions.specs.Sum.{sum}
use Rattle.definitions.specs.Threshold.{bins_added}
use Rattle.laws.specs.general.Sums.{sum_more, sum_step, sum_mono}
use Rattle.laws.specs.images.Cut.{cut_done, cut_stop, cut_turn}
use Rattle.mtb_align.proofs.threshold.bins_added_from.Goals as goal

module _ (bins : List ℕ) (goal level added : ℕ) where
  -- the goal is reached, so no bin more is added
  reached : goal ≤ added → level ≡ level + bins_added (drop level bins) goal added
  reached m = omega (arith, cut_stop (drop level bins) goal added m)

  -- a bin more is added
  turned : level < length bins → added < goal → (level + 1) + bins_added (drop (level + 1) bins) goal (added + get_or bins level 0) ≡ level + bins_added (drop level bins) goal added
  turned h m = rw (add-one, drop-cons bins level 0 h) (omega (arith, cut_turn (get_or bins level 0) (drop (suc level) bins) goal added m))

-- a bin more leaves the sum within that of all
next_le : (bins : List ℕ) (level added : ℕ) → level < 256 → added ≡ sum level (λ i. get_or bins i 0)
    → sum 256 (λ (i : ℕ). get_or bins i 0) ≤ 67108864 → added + get_or bins level 0 ≤ 67108864
next_le bins level added h e m =
    let f : ℕ → ℕ = λ (i : ℕ). get_or bins i 0 in
    omega (arith, sum_more level f, sum_mono (level + 1) 256 f (omega arith))

pub returns-then-added-goal : goal.returns-then-added-goal
returns-then-added-goal c =
    let l = c.loop-level in
    reached _ _ l.level l.added c.if-added-goal.true ∙ l.invariant.1

pub overflow_add-added : goal.overflow_add-added
overflow_add-added c =
    let l = c.loop-level in
    omega (arith, next_le c.args.bins.now l.level l.added (omega arith) l.invariant.0 c.requires.3)

pub loop-level-preserved : goal.loop-level-preserved
loop-level-preserved c =
    let l = c.loop-level in (
      sum_step l.level (λ i. get_or c.args.bins.now i 0) l.invariant.0 refl,
      turned c.args.bins.now c.args.goal l.level l.added (omega (arith, c.requires.0)) c.if-added-goal.false ∙ l.invariant.1,
    )

pub returns : goal.returns
returns c =
    let l = c.loop-level in
    omega (arith, cut_done c.args.bins.now c.args.goal l.added l.level (omega (arith, c.requires.0)), l.invariant.1)
