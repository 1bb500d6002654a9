use Rattle.std.proofs.Common.{arith}
use Rattle.mosaic.proofs.Wholes.{fits_apart}
use Rattle.mosaic.proofs.rows.take_rows.Goals as goal

pub take_row-requires : goal.take_row-requires
take_row-requires c =
    let e = c.row_of.ensures in
    let f = fits_apart c.args.width c.args.height c.loop-y.y c.requires.mosaic_long c.loop-y.invariant.long (omega arith) e.0 e.1 in
    (omega (arith, f.0), f.1, f.2)
