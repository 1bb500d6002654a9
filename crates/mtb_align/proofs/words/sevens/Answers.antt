use native.Mathlib.Omega.{arith}
use Rattle.laws.specs.bitmaps.Joints.{lines_none, lines_more}
use Rattle.mtb_align.proofs.Counting.{column_in, lines_end, by_columns}
use Rattle.mtb_align.proofs.words.sevens.Goals as goal

pub loop-init : goal.loop-init
loop-init g c = (omega arith, omega arith, lines_none _ _ _ _ _ _ _ _ _ _)

pub seven-c-requires : goal.seven-c-requires
seven-c-requires g c = (c.requires.0, column_in c.requires.1 _ c.loop-test.true c.loop.invariant.0 c.loop.invariant.1)

pub loop-preserved : goal.loop-preserved
loop-preserved g c =
    let q = c.loop.invariant in
    (omega arith, omega arith, lines_more _ _ _ _ _ _ _ _ _ _ _ _ _ _ q.2 _ _ (omega (arith, q.0)) (omega (arith, q.1)) _ _ c.seven-c.ensures)

pub returns : goal.returns
returns g c =
    let x = c.args in
    let m = x in
    by_columns (g.V.View.shown x.view) m.rt.now m.re.now m.st.now m.se.now x.i x.j x.apart 7 x.len (omega arith)
    (lines_end _ _ _ _ _ _ _ _ _ _ _ c.loop.invariant.2 (omega arith))
