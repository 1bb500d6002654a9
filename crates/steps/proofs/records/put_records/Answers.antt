use Rattle.std.proofs.Common.{sym, ap}
use Rattle.steps.proofs.Decoded.{one_line, lines_none, lines_more}
use Rattle.steps.proofs.Puts.{put_none, put_then, put_as}
use Rattle.steps.proofs.records.put_records.Goals as goal

pub loop-i-init : goal.loop-i-init
loop-i-init c = put_as (put_none _ _ c.requires) (sym (lines_none c.args.records.now c.args.k))

pub loop-i-preserved : goal.loop-i-preserved
loop-i-preserved c =
    put_as (put_then c.loop-i.invariant (put_as c.put_record_of-next.ensures (ap (one_line c.args.k) c.record_at.ensures))) (sym (lines_more c.args.records.now c.args.k c.loop-i.i))
