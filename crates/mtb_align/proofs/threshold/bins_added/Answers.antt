use mathlib.Core.Path.{◌≡◌, sym, ap, ◌∙◌}
use mathlib.Core.List.{List}
use Prim.Native.Nat.{ℕ, ◌+◌, ◌*◌, ◌%◌, ◌≤◌, ◌<◌}
use native.Mathlib.Nat.{zero-add}
use native.Mathlib.Omega.{arith}
use lib.ListN.{get_or, drop}
use Rattle.definitions.specs.Sum.{sum}
use Rattle.definitions.specs.Threshold.{bins_added}
use Rattle.laws.specs.general.Sums.{sum_none, sum_four, sum_mono}
use Rattle.laws.specs.images.Cut.{cut_done, cut_past}
use Rattle.mtb_align.proofs.threshold.bins_added.Goals as goal

-- the sum with four bins more, and that it is still no more than that of all
module _ (bins : List ℕ) (level added : ℕ) (e : added ≡ sum level (λ i. get_or bins i 0)) where
  abbrev next : ℕ
  next = added + get_or bins level 0 + get_or bins (level + 1) 0 + get_or bins (level + 2) 0 + get_or bins (level + 3) 0

  next-is : next ≡ sum (level + 4) (λ i. get_or bins i 0)
  next-is = omega (arith, sum_four level (λ i. get_or bins i 0))

  next_le : level < 256 → level % 4 ≡ 0 → next ≤ sum 256 (λ i. get_or bins i 0)
  next_le h m = omega (arith, next-is, sum_mono (level + 4) 256 (λ i. get_or bins i 0) (omega arith))

pub loop-four-init : goal.loop-four-init
loop-four-init c = (sym (sum_none _), zero-add _)

pub overflow_add-next : goal.overflow_add-next
overflow_add-next c =
    let l = c.loop-four in
    omega (arith, next_le c.args.bins (4 * l.four) l.added l.invariant.0 (omega arith) (omega arith), c.requires)

pub overflow_add-next-in-loop-four-2 : goal.overflow_add-next-in-loop-four-2
overflow_add-next-in-loop-four-2 c =
    let l = c.loop-four in
    omega (arith, next_le c.args.bins (4 * l.four) l.added l.invariant.0 (omega arith) (omega arith), c.requires)

pub overflow_add-next-in-loop-four-4 : goal.overflow_add-next-in-loop-four-4
overflow_add-next-in-loop-four-4 c =
    let l = c.loop-four in
    omega (arith, next_le c.args.bins (4 * l.four) l.added l.invariant.0 (omega arith) (omega arith), c.requires)

pub overflow_add-next-in-loop-four-6 : goal.overflow_add-next-in-loop-four-6
overflow_add-next-in-loop-four-6 c =
    let l = c.loop-four in
    omega (arith, next_le c.args.bins (4 * l.four) l.added l.invariant.0 (omega arith) (omega arith), c.requires)

pub loop-four-preserved : goal.loop-four-preserved
loop-four-preserved c =
    let l = c.loop-four in
    let x = c.args in
    let level = 4 * l.four in
    let up : level + 4 ≡ 4 * (l.four + 1) = omega arith in
    let n = next-is x.bins level l.added l.invariant.0 in (
      n ∙ ap (λ (k : ℕ). sum k (λ i. get_or x.bins i 0)) up,
      rw up at (
          ap (λ (a : ℕ). (level + 4) + bins_added (drop (level + 4) x.bins) x.goal a) n
          ∙ cut_past x.bins x.goal (level + 4) (omega arith) (omega (arith, n, c.if-next-goal.false))),
    )

pub returns : goal.returns
returns c =
    let l = c.loop-four in
    omega (arith, cut_done c.args.bins c.args.goal l.added (4 * l.four) (omega arith), l.invariant.1)
