-- The loop has stored the first y rows.
use Rattle.mtb_align.proofs.Halves.{Rows}
use Rattle.mtb_align.proofs.shrink.halve_rows.Given as goal

abbrev pub invariant-loop-y : goal.invariant-loop-y
invariant-loop-y g l = Rows g.H.Halving.mode l.frame.samples.now l.frame.width l.initial.out l.out l.y
