use Prim.Native.Nat.{ℕ, ◌^◌, ◌<◌}
use native.Mathlib.Omega.{arith}
use lib.ListN.{get_or}
use Rattle.mtb_align.proofs.Counting.{moved_right, moved_left}
use Rattle.mtb_align.proofs.rectangles.moved.Goals as goal

pub returns-then-m-gt0 : goal.returns-then-m-gt0
returns-then-m-gt0 c =
    let x = c.args in
    let m = x in
    let p = c.requires in
    moved_right m.rt.now m.re.now m.st.now m.se.now x.n x.rows x.i x.j x.m x.q x.bit p.2 c.together.ensures
    c.if-m-gt0.true p.5 p.6 (omega arith) c.rectangle-inner.ensures c.edge_column-side.ensures

pub returns : goal.returns
returns c =
    let x = c.args in
    let m = x in
    let p = c.requires in
    let ft : (v : ℕ) → get_or x.st.now v 0 < 2 ^ 64 = λ v. omega (arith, c.type_inv.st v) in
    let fe : (v : ℕ) → get_or x.se.now v 0 < 2 ^ 64 = λ v. omega (arith, c.type_inv.se v) in
    moved_left m.rt.now m.re.now m.st.now m.se.now x.n x.rows x.i x.j x.m x.q x.bit p.2 c.together-2.ensures
    c.if-m-gt0.false p.7 ft fe c.rectangle-inner-2.ensures c.edge_column-side-2.ensures
