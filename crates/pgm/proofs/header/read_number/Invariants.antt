-- From the next byte on the digits make the value the whole number, as far as it is kept, and what is behind them is the same.
use Rattle.pgm.proofs.Numbers.{SoFar}
use Rattle.pgm.proofs.header.read_number.Given as goal

abbrev pub invariant-loop-next : goal.invariant-loop-next
invariant-loop-next l = SoFar l.file l.at l.value l.next
