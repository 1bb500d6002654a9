-- The loop has stored the first k words of both rows.
use Rattle.laws.specs.general.Writes.{Stored}
use Rattle.definitions.specs.Threshold.{threshold_bit, exclusion_bit}
use Rattle.mtb_align.proofs.Rows.{word_at}
use Rattle.mtb_align.proofs.strips.pack_row.Given as goal

abbrev pub invariant-loop-k : goal.invariant-loop-k
invariant-loop-k l =
    Stored (word_at l.samples (threshold_bit l.table.cut) l.from l.width) l.at l.initial.threshold l.threshold l.k
    × Stored (word_at l.samples (exclusion_bit l.table.cut l.table.tolerance) l.from l.width) l.at l.initial.exclusion l.exclusion l.k
