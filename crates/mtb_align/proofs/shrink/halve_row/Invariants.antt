-- The loop has stored the first x samples of the row.
use Rattle.laws.specs.general.Writes.{Stored}
use Rattle.mtb_align.proofs.Halves.{halved}
use Rattle.mtb_align.proofs.shrink.halve_row.Given as goal

abbrev pub invariant-loop-x : goal.invariant-loop-x
invariant-loop-x g l = Stored (halved g.H.Halving.mode l.samples l.width l.y) l.at l.initial.out l.out l.x
