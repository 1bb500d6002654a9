use Rattle.std.proofs.Common.{◌∙◌}
use Rattle.laws.specs.general.Lists.{build_length}
use Rattle.mtb_align.proofs.Runs.{part_stored, part_is}
use Rattle.mtb_align.proofs.geometry.copy_run.Goals as goal

pub returns : goal.returns
returns c =
    let a = c.args in
    part_stored a.out.now _ a.at a.n (build_length a.n _) c.requires.1 (c.copy_from_slice.ensures.after ∙ part_is a.samples.now a.from a.n 0 c.requires.0)
