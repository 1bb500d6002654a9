use Rattle.std.proofs.Common.{arith}
use Rattle.mosaic.proofs.Columns.{taken_more}
use Rattle.mosaic.proofs.rows.take_row.Goals as goal

pub loop-k-preserved : goal.loop-k-preserved
loop-k-preserved c = let e = c.side_by_side-two.ensures in taken_more c.loop-k.invariant (omega arith) e.0 e.1
