-- The loop has stored k even columns and k odd ones.
use Rattle.mosaic.proofs.Columns.{Taken}
use Rattle.mosaic.proofs.rows.take_row.Given as goal

abbrev pub invariant-loop-k : goal.invariant-loop-k
invariant-loop-k l = Taken l.mosaic l.from l.evens l.odds l.initial.planes l.planes l.k
