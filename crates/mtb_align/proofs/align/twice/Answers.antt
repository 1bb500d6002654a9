-- The sum lies far from the limits of i32, so that it is not refused.
use mathlib.Core.Path.{◌≡◌, sym, ap, ◌∙◌}
use Rattle.definitions.specs.Geometry.{doubled}
use Rattle.definitions.specs.Refusals.{accepted}
use Rattle.laws.specs.checks.Checks.{same_value}
use Rattle.laws.specs.search.StepBounds.{offset_within, far_accepted}
use Rattle.mtb_align.specs.Answers.{answered, shift_in}
use Rattle.mtb_align.proofs.Answered.{is_accepted}
use Rattle.mtb_align.proofs.align.twice.Goals.{After-doubled}
use Rattle.mtb_align.proofs.align.twice.Goals as goal

moved : (c : After-doubled) → answered shift_in c.doubled.result ≡ accepted (doubled (shift_in c.args.s))
moved c =
    let s = shift_in c.args.s in
    let w = c.requires in
    c.doubled.ensures ∙ far_accepted (doubled s) (offset_within 1048576 1048576 s s w w)

pub unwrap-requires : goal.unwrap-requires
unwrap-requires c = is_accepted shift_in _ (moved (goal.at.unwrap-requires c).After-doubled)

pub returns : goal.returns
returns c = same_value (ap (answered shift_in) (sym c.unwrap.ensures) ∙ moved (goal.at.returns c).After-doubled)
