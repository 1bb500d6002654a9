use native.Mathlib.Omega.{arith}
use Rattle.laws.specs.bitmaps.Adders.{seven_set}
use Rattle.mtb_align.proofs.ones.ones_of_seven.Goals as goal

pub returns : goal.returns
returns c =
    let x = c.args in
    let r = c.add_seven-sums.result in
    omega (
      arith,
      seven_set r.fours r.twos r.ones x.a x.b x.c x.d x.e x.f x.g c.add_seven-sums.ensures 64,
      c.ones_of.ensures.0,
      c.ones_of-2.ensures.0,
      c.ones_of-3.ensures.0,
    )
