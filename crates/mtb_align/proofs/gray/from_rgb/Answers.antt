use mathlib.Core.Path.{sym, ◌∙◌}
use native.Mathlib.Omega.{arith}
use Rattle.definitions.specs.Refusals.{from_rgb_checks}
use Rattle.laws.specs.checks.Checks.{sides_within, sides_stop, sides_skip, length_stop, length_skip, done, refuses, accepts}
use Rattle.laws.specs.images.Sizes.{area}
use Rattle.mtb_align.proofs.gray.from_rgb.Goals as goal

pub returns-then-side_over : goal.returns-then-side_over
unfolding from_rgb_checks
returns-then-side_over c = let r = refuses _ _ _ (sides_stop tt _ _ _ (sym c.side_over.ensures ∙ c.if-side_over.true)) in record { answer = r.0; gray = r.1 }

pub overflow_mul-width : goal.overflow_mul-width
overflow_mul-width c =
    let s = sides_within _ _ (sym c.side_over.ensures ∙ c.if-side_over.false) in
    omega (arith, area _ _ s.0 s.1)

pub overflow_mul-width-2 : goal.overflow_mul-width-2
overflow_mul-width-2 c =
    let s = sides_within _ _ (sym c.side_over.ensures ∙ c.if-side_over.false) in
    omega (arith, area _ _ s.0 s.1)

pub returns-then-rgb-width : goal.returns-then-rgb-width
unfolding from_rgb_checks
returns-then-rgb-width c =
    let s = sides_within _ _ (sym c.side_over.ensures ∙ c.if-side_over.false) in
    let r = refuses _ _ _ (sides_skip tt _ _ _ s (length_stop tt _ _ _ c.if-rgb-width.true)) in record { answer = r.0; gray = r.1 }

pub returns-then-gray-width : goal.returns-then-gray-width
unfolding from_rgb_checks
returns-then-gray-width c =
    let s = sides_within _ _ (sym c.side_over.ensures ∙ c.if-side_over.false) in
    let r = refuses _ _ _ (sides_skip tt _ _ _ s (length_skip tt _ _ _ c.if-rgb-width.false (length_stop tt _ _ _ c.if-gray-width.true))) in record { answer = r.0; gray = r.1 }

pub invariant_of-sides : goal.invariant_of-sides
invariant_of-sides c = let s = sides_within _ _ (sym c.side_over.ensures ∙ c.if-side_over.false) in record { wide = s.0; high = s.1 }

pub flatten-requires : goal.flatten-requires
flatten-requires c = (c.if-rgb-width.false, c.if-gray-width.false)

pub returns : goal.returns
unfolding from_rgb_checks
returns c =
    let s = sides_within _ _ (sym c.side_over.ensures ∙ c.if-side_over.false) in
    let r = accepts _ _ _ (sides_skip tt _ _ _ s (length_skip tt _ _ _ c.if-rgb-width.false (length_skip tt _ _ _ c.if-gray-width.false (done tt)))) c.flatten.ensures in
    record { answer = r.0; gray = r.1 }
