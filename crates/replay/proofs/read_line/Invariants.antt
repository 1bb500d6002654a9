use Rattle.replay.proofs.Reading.{Left}
use Rattle.replay.proofs.read_line.Given as goal

abbrev pub invariant-loop-next : goal.invariant-loop-next
invariant-loop-next l = Left l.text l.at l.initial.numbers l.numbers l.count l.negative l.value l.next
