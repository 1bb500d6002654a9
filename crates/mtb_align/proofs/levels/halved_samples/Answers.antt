use mathlib.Core.Path.{◌≡◌, sym}
use Prim.Native.Nat.{◌+◌, ◌*◌, ◌/◌, ◌≤◌}
use native.Mathlib.Omega.{arith}
use Rattle.definitions.specs.Shrink.{halved_samples}
use Rattle.laws.specs.images.Pyramids.{side_none, side_more, samples_are, halved_none, halved_more, halved_third}
use Rattle.laws.specs.images.Sizes.{area}
use Rattle.mtb_align.proofs.levels.halved_samples.Goals.{In-loop-k}
use Rattle.mtb_align.proofs.levels.halved_samples.Goals as goal

-- one level more, and the sum stays small
more : (c : In-loop-k)
    → let a = c.args.sides in
    let l = c.loop-k in
    (l.total + l.w / 2 * (l.h / 2) ≡ halved_samples a.width a.height (l._k + 1)) × (halved_samples a.width a.height (l._k + 1) ≤ 67108864)
more c =
    let a = c.args.sides in
    let l = c.loop-k in
    let level = samples_are a.width a.height (l._k + 1) (side_more l._k a.width l.invariant.0) (side_more l._k a.height l.invariant.1) in
    (omega (arith, level, l.invariant.2, halved_more a.width a.height l._k), omega (arith, halved_third a.width a.height (l._k + 1), area a.width a.height a.wide a.high))

pub loop-k-init : goal.loop-k-init
loop-k-init c = (sym (side_none _), sym (side_none _), sym (halved_none _ _))

pub overflow_mul-total : goal.overflow_mul-total
overflow_mul-total c = omega (arith, more (goal.at.overflow_mul-total c).In-loop-k)

pub overflow_add-total : goal.overflow_add-total
overflow_add-total c = omega (arith, more (goal.at.overflow_add-total c).In-loop-k)

pub loop-k-preserved : goal.loop-k-preserved
loop-k-preserved c = let l = c.loop-k in (side_more _ _ l.invariant.0, side_more _ _ l.invariant.1, (more (goal.at.loop-k-preserved c).In-loop-k).0)
