use mathlib.Core.Path.{sym, ap, ◌∙◌}
use mathlib.Core.Bool.{Bool}
use native.Mathlib.Omega.{arith}
use Rattle.definitions.specs.Sum.{bit}
use Rattle.laws.specs.bitmaps.Bitmaps.{with_one, with_set, with_cleared}
use Rattle.mtb_align.proofs.bitmap.with_bit.Goals as goal

pub returns-then-value : goal.returns-then-value
returns-then-value c =
    let x = c.args in
    with_set x.word x.i (omega arith) (omega arith) ∙ ap (λ (b : Bool). with_one x.word x.i (bit b)) (sym c.if-value.true)

pub returns : goal.returns
returns c =
    let x = c.args in
    with_cleared x.word x.i (omega arith) (omega arith) ∙ ap (λ (b : Bool). with_one x.word x.i (bit b)) (sym c.if-value.false)
