use mathlib.Core.Path.{sym, ap, ◌∙◌}
use Rattle.definitions.specs.Refusals.{accepted, crop_checks}
use Rattle.laws.specs.checks.Checks.{sides_within, sides_stop, sides_skip, done}
use Rattle.laws.specs.checks.ChecksGeometry.{odd_stop, odd_skip}
use Rattle.mtb_align.proofs.geometry.common_crop.Goals as goal

pub returns-then-side_over : goal.returns-then-side_over
unfolding crop_checks
returns-then-side_over c = sides_stop _ _ _ _ (sym c.side_over.ensures ∙ c.if-side_over.true)

pub returns-then-shifts-eq1 : goal.returns-then-shifts-eq1
unfolding crop_checks
returns-then-shifts-eq1 c =
    let s = sides_within _ _ (sym c.side_over.ensures ∙ c.if-side_over.false) in
    sides_skip _ _ _ _ s (odd_stop _ _ _ c.if-shifts-eq1.true)

pub returns : goal.returns
unfolding crop_checks
returns c =
    let s = sides_within _ _ (sym c.side_over.ensures ∙ c.if-side_over.false) in
    ap accepted c.crop_of.ensures ∙ sides_skip _ _ _ _ s (odd_skip _ _ _ c.if-shifts-eq1.false (done _))
