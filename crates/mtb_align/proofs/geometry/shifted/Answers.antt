use mathlib.Core.Path.{sym, ◌∙◌}
use native.Mathlib.Omega.{arith}
use Rattle.definitions.specs.Refusals.{shifted_checks}
use Rattle.laws.specs.checks.Checks.{sides_within, sides_stop, sides_skip, length_stop, length_skip, done, refuses, accepts}
use Rattle.laws.specs.images.Sizes.{area}
use Rattle.mtb_align.proofs.geometry.shifted.Goals as goal

pub returns-then-side_over : goal.returns-then-side_over
unfolding shifted_checks
returns-then-side_over c = let r = refuses _ _ _ (sides_stop tt _ _ _ (sym c.side_over.ensures ∙ c.if-side_over.true)) in record { answer = r.0; moved = r.1 }

pub overflow_mul-width : goal.overflow_mul-width
overflow_mul-width c =
    let s = sides_within _ _ (sym c.side_over.ensures ∙ c.if-side_over.false) in
    omega (arith, area _ _ s.0 s.1)

pub returns-then-samples-width : goal.returns-then-samples-width
unfolding shifted_checks
returns-then-samples-width c =
    let s = sides_within _ _ (sym c.side_over.ensures ∙ c.if-side_over.false) in
    let r = refuses _ _ _ (sides_skip tt _ _ _ s (length_stop tt _ _ _ c.if-samples-width.true)) in record { answer = r.0; moved = r.1 }

pub returns-then-moved-width : goal.returns-then-moved-width
unfolding shifted_checks
returns-then-moved-width c =
    let s = sides_within _ _ (sym c.side_over.ensures ∙ c.if-side_over.false) in
    let r = refuses _ _ _ (sides_skip tt _ _ _ s (length_skip tt _ _ _ c.if-samples-width.false (length_stop tt _ _ _ c.if-moved-width.true))) in record { answer = r.0; moved = r.1 }

pub invariant_of-frame : goal.invariant_of-frame
invariant_of-frame c =
    let s = sides_within _ _ (sym c.side_over.ensures ∙ c.if-side_over.false) in
    record { wide = s.0; high = s.1; whole = c.if-samples-width.false }

pub returns : goal.returns
unfolding shifted_checks
returns c =
    let s = sides_within _ _ (sym c.side_over.ensures ∙ c.if-side_over.false) in
    let r = accepts _ _ _ (sides_skip tt _ _ _ s (length_skip tt _ _ _ c.if-samples-width.false (length_skip tt _ _ _ c.if-moved-width.false (done tt))))
    c.move_rows.ensures in record { answer = r.0; moved = r.1 }
