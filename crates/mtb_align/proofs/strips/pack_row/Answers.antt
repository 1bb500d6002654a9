use Rattle.std.proofs.Common.{arith}
use Rattle.definitions.specs.Threshold.{threshold_bit, exclusion_bit}
use Rattle.definitions.specs.Bitmap.{words_per_row}
use Rattle.laws.specs.general.Writes.{stored_none, stored_more}
use Rattle.mtb_align.proofs.Rows.{full_word, part_word, row_full, row_part_lem}
use Rattle.mtb_align.proofs.strips.pack_row.Goals as goal

pub loop-k-init : goal.loop-k-init
loop-k-init c = (stored_none _ _ _, stored_none _ _ _)

pub bounds-threshold-at : goal.bounds-threshold-at
unfolding words_per_row
bounds-threshold-at c = omega arith

pub bounds-exclusion-at : goal.bounds-exclusion-at
unfolding words_per_row
bounds-exclusion-at c = omega arith

pub loop-k-preserved : goal.loop-k-preserved
loop-k-preserved c =
    let x = c.args in
    let i = c.loop-k.invariant in
    let k = c.loop-k.k in
    let p = full_word x.samples.now (threshold_bit x.table.cut) x.from x.width k (omega arith) c.pack_word-b.ensures.0 in
    let q = full_word x.samples.now (exclusion_bit x.table.cut x.table.tolerance) x.from x.width k (omega arith) c.pack_word-b.ensures.1 in
    (stored_more i.0 p, stored_more i.1 q)

pub returns-then-span-eq0 : goal.returns-then-span-eq0
returns-then-span-eq0 c =
    let x = c.args in
    let i = c.loop-k.invariant in (
      row_full x.samples.now (threshold_bit x.table.cut) x.from x.width x.threshold.now x.at (omega arith) (omega arith) i.0.are,
      row_full x.samples.now (exclusion_bit x.table.cut x.table.tolerance) x.from x.width x.exclusion.now x.at (omega arith) (omega arith) i.1.are,
    )

pub bounds-threshold-at-2 : goal.bounds-threshold-at-2
unfolding words_per_row
bounds-threshold-at-2 c = omega arith

pub bounds-exclusion-at-2 : goal.bounds-exclusion-at-2
unfolding words_per_row
bounds-exclusion-at-2 c = omega arith

pub returns : goal.returns
returns c =
    let x = c.args in
    let i = c.loop-k.invariant in (
      row_part_lem x.samples.now (threshold_bit x.table.cut) x.from x.width x.threshold.now x.at c.if-span-eq0.false (omega arith) i.0.are
          (part_word x.samples.now (threshold_bit x.table.cut) x.from x.width c.pack_last-b.ensures.0),
      row_part_lem x.samples.now (exclusion_bit x.table.cut x.table.tolerance) x.from x.width x.exclusion.now x.at c.if-span-eq0.false (omega arith) i.1.are
          (part_word x.samples.now (exclusion_bit x.table.cut x.table.tolerance) x.from x.width c.pack_last-b.ensures.1),
    )
