use Rattle.std.proofs.Common.{◌∙◌}
use Rattle.laws.specs.general.Writes.{stored_none, stored_more}
use Rattle.mtb_align.proofs.Halves.{block_is}
use Rattle.mtb_align.proofs.shrink.halve_row.Goals as goal

pub loop-x-init : goal.loop-x-init
loop-x-init g c = stored_none _ _ _

pub loop-x-preserved : goal.loop-x-preserved
loop-x-preserved g c =
    let a = c.args in
    let e = block_is a.samples.now a.width c.loop-x.x a.y _ _ g.H.Halving.mode c.side_by_side.ensures c.side_by_side-in-loop-x.ensures in
    stored_more c.loop-x.invariant (c.sample.ensures ∙ e)
