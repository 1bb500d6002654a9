-- The sum lies far from the limits of i32, so that it is not refused.
use mathlib.Core.Path.{◌≡◌, sym, ap, ◌∙◌}
use borrow.Author.Rules.{rules}
use mir.Facts.{to_z-of_z}
use mir.Syntax.{w32}
use mir.Val.{SFits}
use Rattle.definitions.specs.Geometry.{Shift, offset}
use Rattle.definitions.specs.Refusals.{accepted, answer, shift_checks}
use Rattle.laws.specs.checks.Checks.{same_value}
use Rattle.laws.specs.search.StepBounds.{offset_within, far_accepted}
use Rattle.mtb_align.specs.Answers.{answered, shift_in}
use Rattle.mtb_align.proofs.Answered.{is_accepted}
use Rattle.mtb_align.proofs.align.summed.Goals.{After-offset}
use Rattle.mtb_align.proofs.align.summed.Goals as goal

moved : (c : After-offset) → let x = c.args in answered shift_in c.offset.result ≡ accepted (offset (shift_in x.a) (shift_in x.b))
moved c =
    let a = shift_in c.args.a in
    let b = shift_in c.args.b in
    let x : SFits w32 b.x = search rules in
    let y : SFits w32 b.y = search rules in
    c.offset.ensures
    ∙ ap (λ (d : Shift). answer (shift_checks (offset a d)) (offset a d)) (λ i. record { x = to_z-of_z x i; y = to_z-of_z y i })
    ∙ far_accepted (offset a b) (offset_within 1048576 1048576 a b c.requires.0 c.requires.1)

pub unwrap-requires : goal.unwrap-requires
unwrap-requires c = is_accepted shift_in _ (moved (goal.at.unwrap-requires c).After-offset)

pub returns : goal.returns
returns c = same_value (ap (answered shift_in) (sym c.unwrap.ensures) ∙ moved (goal.at.returns c).After-offset)
