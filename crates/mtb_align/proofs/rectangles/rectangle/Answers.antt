use native.Mathlib.Omega.{arith}
use Rattle.mtb_align.proofs.Counting.{by_columns}
use Rattle.mtb_align.proofs.rectangles.rectangle.Goals as goal

pub returns-then-columns-lt4 : goal.returns-then-columns-lt4
returns-then-columns-lt4 g c =
    let x = c.args in
    let m = x in
    by_columns (g.V.View.shown x.view) m.rt.now m.re.now m.st.now m.se.now x.i x.j x.n x.rows x.columns (omega arith) c.grid.ensures
