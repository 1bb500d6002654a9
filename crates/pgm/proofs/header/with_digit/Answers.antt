-- A digit is 48 at least, so that the difference is its value.
use Rattle.laws.specs.general.Decimals.{digit_range}
use Rattle.pgm.proofs.header.with_digit.Goals as goal

pub overflow_sub-byte : goal.overflow_sub-byte
overflow_sub-byte c = (digit_range c.args.byte c.requires.1).0
