use Rattle.definitions.specs.Decimal.{is_digit}
use Rattle.pgm.proofs.header.is_digit.Goals as goal

pub returns : goal.returns
unfolding is_digit
returns c = c.is_ascii_digit.ensures.value
