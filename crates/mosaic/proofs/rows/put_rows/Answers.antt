use Rattle.std.proofs.Common.{arith}
use Rattle.mosaic.proofs.Wholes.{fits_together}
use Rattle.mosaic.proofs.rows.put_rows.Goals as goal

pub put_row-requires : goal.put_row-requires
put_row-requires c =
    let e = c.row_of.ensures in
    fits_together c.args.width c.args.height c.loop-y.y (omega arith) (omega arith) (omega arith) e.0 e.1
