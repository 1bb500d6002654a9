use native.Mathlib.Omega.{arith}
use Rattle.laws.specs.bitmaps.Joints.{lines_none, lines_more, counted_most}
use Rattle.mtb_align.proofs.Counting.{line_in, next_at}
use Rattle.mtb_align.proofs.rectangles.grid.Goals as goal

pub loop-init : goal.loop-init
loop-init g c = (omega arith, omega arith, lines_none _ _ _ _ _ _ _ _ _ _)

pub run-c-requires : goal.run-c-requires
run-c-requires g c =
    let q = c.loop.invariant in
    let p = c.requires in
    (p.0, line_in p.1 _ c.loop-test.true q.0 q.1, omega (arith, p.3), omega (arith, p.5))

pub loop-preserved : goal.loop-preserved
loop-preserved g c =
    let q = c.loop.invariant in
    (next_at _ _ _ q.0, next_at _ _ _ q.1, lines_more _ _ _ _ _ _ _ _ _ _ _ _ _ _ q.2 _ _ q.0 q.1 _ _ (counted_most c.run-c.ensures (omega (arith, c.requires.5))))
