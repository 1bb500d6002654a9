-- The loop has stored 2 k columns.
use Rattle.std.proofs.Common.{◌*◌}
use Rattle.laws.specs.general.Writes.{Stored}
use Rattle.mosaic.specs.Rows.{woven}
use Rattle.mosaic.proofs.rows.put_row.Given as goal

abbrev pub invariant-loop-k : goal.invariant-loop-k
invariant-loop-k l = Stored (woven l.planes l.evens l.odds) l.at l.initial.mosaic l.mosaic (2 * l.k)
