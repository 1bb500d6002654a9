use Rattle.steps.specs.Text.{lines_of_records}
use Rattle.steps.specs.Inner.{Put, records_of}
use Rattle.steps.proofs.records.put_records.Given as goal

abbrev pub invariant-loop-i : goal.invariant-loop-i
invariant-loop-i l = Put l.initial.out l.at (lines_of_records (records_of l.records l.i l.k)) l.out l.next
