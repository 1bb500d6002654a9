-- The loop has put the first y rows together.
use Rattle.mosaic.proofs.Wholes.{Together}
use Rattle.mosaic.proofs.rows.put_rows.Given as goal

abbrev pub invariant-loop-y : goal.invariant-loop-y
invariant-loop-y l = Together l.width l.height l.planes l.initial.mosaic l.mosaic l.y
