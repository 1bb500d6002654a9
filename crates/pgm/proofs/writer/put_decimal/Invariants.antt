-- The loop keeps: the last digits are put, those of the rest are not yet.
use Rattle.pgm.proofs.Writing.{Putting}
use Rattle.pgm.proofs.writer.put_decimal.Given as goal

abbrev pub invariant-loop-at : goal.invariant-loop-at
invariant-loop-at l = Putting l.initial.file l.end l.n l.file l.at l.rest
