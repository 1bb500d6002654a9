use Rattle.std.proofs.Common.{refl}
use Rattle.mosaic.proofs.Columns.{put_more}
use Rattle.mosaic.proofs.rows.put_row.Goals as goal

pub loop-k-preserved : goal.loop-k-preserved
loop-k-preserved c =
    let a = c.args in
    put_more a.planes.now a.row.evens a.row.odds c.loop-k.k c.loop-k.invariant refl refl
