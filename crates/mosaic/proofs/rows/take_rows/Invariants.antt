-- The loop has taken the first y rows apart.
use Rattle.mosaic.proofs.Wholes.{Apart}
use Rattle.mosaic.proofs.rows.take_rows.Given as goal

abbrev pub invariant-loop-y : goal.invariant-loop-y
invariant-loop-y l = Apart l.width l.height l.mosaic l.planes l.y
