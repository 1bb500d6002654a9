use mathlib.Core.Path.{◌∙◌}
use native.Mathlib.Omega.{arith}
use Rattle.laws.specs.images.LastRows.{last_rows_none, last_rows_all}
use Rattle.laws.specs.images.Sizes.{area}
use Rattle.mtb_align.specs.Tally.{Tally}
use Rattle.mtb_align.proofs.Lanes.{tally_none, tally_le, tally_done}
use Rattle.mtb_align.proofs.threshold.histogram.Goals as goal

pub tally_rows-requires : goal.tally_rows-requires
tally_rows-requires c = let f = c.args.frame.now in tally_none (last_rows_none f.width f.height f.samples.now f.whole)

pub fold_lanes-requires : goal.fold_lanes-requires
fold_lanes-requires c =
    let f = c.args.frame.now in
    -- all rows are counted
    let whole : Tally c.tally_rows.new.lanes f.samples.now = rw (last_rows_all f.width f.height f.samples.now) at c.tally_rows.ensures in
    record {
      long = whole.long;
      fits = λ v h. omega (arith, tally_le whole v h, area f.width f.height f.wide f.high, f.whole);
    }

pub returns : goal.returns
returns c =
    let f = c.args.frame.now in
    c.fold_lanes.ensures ∙ tally_done (rw (last_rows_all f.width f.height f.samples.now) at c.tally_rows.ensures)
