use Rattle.std.proofs.Common.{arith}
use Rattle.definitions.specs.Threshold.{threshold_bit, exclusion_bit}
use Rattle.definitions.specs.Difference.{bitmaps_of}
use Rattle.laws.specs.general.Writes.{rows_none}
use Rattle.mtb_align.proofs.Rows.{row_at, rows_turn, rows_all}
use Rattle.mtb_align.proofs.strips.pack.Goals as goal

pub loop-y-init : goal.loop-y-init
loop-y-init c =
    let x = c.args in
    let f = x.frame.now in (
      rows_none x.threshold.now 0 (row_at f.samples.now (threshold_bit x.cut) f.width f.height),
      rows_none x.exclusion.now 0 (row_at f.samples.now (exclusion_bit x.cut x.tolerance) f.width f.height),
    )

pub loop-y-preserved : goal.loop-y-preserved
loop-y-preserved c =
    let x = c.args in
    let f = x.frame.now in
    let i = c.loop-y.invariant in
    let n-is = c.words_per_row-n.ensures in
    let r = c.pack_row.ensures in (
      rows_turn f.samples.now (threshold_bit x.cut) f.width f.height x.threshold.now c.loop-y.y n-is i.0 r.0,
      rows_turn f.samples.now (exclusion_bit x.cut x.tolerance) f.width f.height x.exclusion.now c.loop-y.y n-is i.1 r.1,
    )

pub returns : goal.returns
unfolding bitmaps_of
returns c =
    let x = c.args in
    let f = x.frame.now in
    let i = c.loop-y.invariant in (
      rows_all f.samples.now (threshold_bit x.cut) f.width f.height x.threshold.now (omega arith) (omega arith) i.0,
      rows_all f.samples.now (exclusion_bit x.cut x.tolerance) f.width f.height x.exclusion.now (omega arith) (omega arith) i.1,
    )
