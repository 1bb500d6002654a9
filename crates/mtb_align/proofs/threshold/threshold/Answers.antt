use mathlib.Core.Path.{sym, ap, ◌∙◌}
use Prim.Native.Nat.{◌≤◌}
use native.Mathlib.Omega.{arith}
use Rattle.definitions.specs.Refusals.{accepted, cut_checks}
use Rattle.laws.specs.checks.Checks.{sides_within, sides_stop, sides_skip, length_stop, length_skip, percentile_stop, percentile_skip, done}
use Rattle.laws.specs.images.Sizes.{area}
use Rattle.mtb_align.proofs.threshold.threshold.Goals.{Else-side_over}
use Rattle.mtb_align.proofs.threshold.threshold.Goals as goal

-- past the first test both sides are within bounds
within : (c : Else-side_over) → let x = c.args in (x.width ≤ 8192) × (x.height ≤ 8192)
within c = sides_within _ _ (sym c.side_over.ensures ∙ c.if-side_over.false)

pub returns-then-side_over : goal.returns-then-side_over
unfolding cut_checks
returns-then-side_over c = sides_stop _ _ _ _ (sym c.side_over.ensures ∙ c.if-side_over.true)

pub overflow_mul-width : goal.overflow_mul-width
overflow_mul-width c = let s = within (goal.at.overflow_mul-width c).Else-side_over in omega (arith, area _ _ s.0 s.1)

pub returns-then-samples-width : goal.returns-then-samples-width
unfolding cut_checks
returns-then-samples-width c = sides_skip _ _ _ _ (within (goal.at.returns-then-samples-width c).Else-side_over) (length_stop _ _ _ _ c.if-samples-width.true)

pub returns-then-percentile-gt-HIGHEST_PERCENTILE : goal.returns-then-percentile-gt-HIGHEST_PERCENTILE
unfolding cut_checks
returns-then-percentile-gt-HIGHEST_PERCENTILE c =
    sides_skip _ _ _ _ (within (goal.at.returns-then-percentile-gt-HIGHEST_PERCENTILE c).Else-side_over)
    (length_skip _ _ _ _ c.if-samples-width.false (percentile_stop _ _ _ c.if-percentile-gt-HIGHEST_PERCENTILE.true))

pub invariant_of-frame : goal.invariant_of-frame
invariant_of-frame c = let s = within (goal.at.invariant_of-frame c).Else-side_over in record { wide = s.0; high = s.1; whole = c.if-samples-width.false }

pub returns : goal.returns
unfolding cut_checks
returns c =
    ap accepted c.cut_of.ensures
    ∙ sides_skip _ _ _ _ (within (goal.at.returns c).Else-side_over) (length_skip _ _ _ _ c.if-samples-width.false (percentile_skip _ _ _ c.if-percentile-gt-HIGHEST_PERCENTILE.false (done _)))
