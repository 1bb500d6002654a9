use mathlib.Core.Path.{refl}
use Rattle.laws.specs.bitmaps.Joints.{spanned}
use Rattle.mtb_align.proofs.Counting.{sevenths_counted}
use Rattle.mtb_align.proofs.rectangles.flat.Goals as goal

pub returns : goal.returns
returns c =
    let x = c.args in
    let m = x in
    sevenths_counted (spanned 0) m.rt.now m.re.now m.st.now m.se.now x.i x.j _ x.len refl c.sevens-most.ensures c.run-rest.ensures c.together.ensures
