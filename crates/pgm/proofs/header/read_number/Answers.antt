use mathlib.Core.Path.{sym, ◌∙◌}
use native.Mathlib.Omega.{arith}
use Rattle.pgm.proofs.Numbers.{number_more, number_stop, number_end}
use Rattle.pgm.proofs.header.read_number.Goals as goal

pub returns-then-not-is_digit : goal.returns-then-not-is_digit
returns-then-not-is_digit c =
    number_stop c.loop-next.invariant (omega arith) (sym c.is_digit.ensures ∙ c.if-not-is_digit.true)

pub loop-next-preserved : goal.loop-next-preserved
loop-next-preserved c =
    number_more c.loop-next.invariant (omega arith) (sym c.is_digit.ensures ∙ c.if-not-is_digit.false) c.with_digit-value.ensures

pub returns : goal.returns
returns c = number_end c.loop-next.invariant (omega arith)
