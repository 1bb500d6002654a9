use mathlib.Core.Path.{refl}
use Prim.Native.Nat.{◌*◌, ◌%◌}
use native.Mathlib.Omega.{arith}
use native.Mathlib.Nat.{add-mul}
use Rattle.laws.specs.bitmaps.Joints.{lines_none, counted_most}
use Rattle.laws.specs.images.Sizes.{area}
use Rattle.mtb_align.proofs.Counting.{lines_inside, lines_counted, lines_end}
use Rattle.mtb_align.proofs.rectangles.by_sevens.Goals as goal

pub loop-init : goal.loop-init
loop-init g c = (omega arith, omega arith, lines_none _ _ _ _ _ _ _ _ _ _)

pub sevens-c-requires : goal.sevens-c-requires
sevens-c-requires g c = let q = c.loop.invariant in (c.requires.0, lines_inside c.requires.1 _ 7 (omega arith) q.0 q.1, omega (arith, c.requires.2, c.requires.4))

pub loop-preserved : goal.loop-preserved
loop-preserved g c =
    let p = c.requires in
    let q = c.loop.invariant in
    let e = add-mul (c.loop.counter * 7) 7 c.args.n in (
      omega (arith, q.0, e),
      omega (arith, q.1, e),
      lines_end _ _ _ _ _ _ _ _ _ _ _
          (lines_counted _ _ _ _ _ _ _ _ _ _ 524288 _ 7 q.0 q.1 q.2 (counted_most c.sevens-c.ensures (omega (arith, p.2, p.4))) (refl, refl))
          (omega arith),
    )

pub grid-requires : goal.grid-requires
grid-requires g c =
    let p = c.requires in
    let q = c.loop.invariant in
    let a = area (c.loop.counter * 7) c.args.n (omega (arith, p.3)) (omega (arith, p.2)) in
    (p.0, lines_inside p.1 _ _ (omega arith) q.0 q.1, omega (arith, p.2), omega arith, omega arith, omega (arith, p.2, p.4), omega (arith, p.5, q.0, a), omega (arith, p.6, q.1, a))

pub returns : goal.returns
returns g c =
    let x = c.args in
    let p = c.requires in
    let q = c.loop.invariant in
    counted_most
    (lines_end _ _ _ _ _ _ _ _ _ _ _ (lines_counted _ _ _ _ _ _ _ _ _ _ 524288 _ (x.rows % 7) q.0 q.1 q.2 c.grid.ensures c.together.ensures) (omega arith))
    (omega (arith, p.3))
