use Rattle.mtb_align.proofs.Counting.{moved_flat, moved_whole}
use Rattle.mtb_align.proofs.rectangles.aligned.Goals as goal

pub returns-then-m-q-eq0 : goal.returns-then-m-q-eq0
returns-then-m-q-eq0 c =
    let x = c.args in
    let m = x in
    let p = c.requires in
    moved_flat m.rt.now m.re.now m.st.now m.se.now x.n x.rows x.i x.j x.m x.q c.if-m-q-eq0.true p.1 p.2 c.flat.ensures

pub returns : goal.returns
returns c =
    let x = c.args in
    let m = x in
    let p = c.requires in
    moved_whole m.rt.now m.re.now m.st.now m.se.now x.n x.rows x.i x.j x.m x.q p.5 p.6 p.7 c.rectangle.ensures
