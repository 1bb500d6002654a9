use mathlib.Core.Path.{sym, ◌∙◌}
use Prim.Native.Nat.{◌≤◌}
use native.Mathlib.Omega.{arith}
use Rattle.definitions.specs.Refusals.{shrink_checks}
use Rattle.laws.specs.checks.Checks.{sides_within, sides_stop, sides_skip, length_stop, length_skip, done, refuses, accepts}
use Rattle.laws.specs.images.Sizes.{area}
use Rattle.mtb_align.proofs.Halves.{shrink2_whole}
use Rattle.mtb_align.proofs.shrink.shrink2.Goals.{Else-side_over}
use Rattle.mtb_align.proofs.shrink.shrink2.Goals as goal

-- past the first test
within : (c : Else-side_over) → let a = c.args in (a.width ≤ 8192) × (a.height ≤ 8192)
within c = sides_within _ _ (sym c.side_over.ensures ∙ c.if-side_over.false)

pub returns-then-side_over : goal.returns-then-side_over
unfolding shrink_checks
returns-then-side_over c =
    let e = sides_stop tt _ _ _ (sym c.side_over.ensures ∙ c.if-side_over.true) in
    record { answer = e; shrunk = (refuses _ _ _ e).1 }

pub overflow_mul-width : goal.overflow_mul-width
overflow_mul-width c =
    let s = within (goal.at.overflow_mul-width c).Else-side_over in
    omega (arith, area _ _ s.0 s.1)

pub returns-then-samples-width : goal.returns-then-samples-width
unfolding shrink_checks
returns-then-samples-width c =
    let s = within (goal.at.returns-then-samples-width c).Else-side_over in
    let e = sides_skip tt _ _ _ s (length_stop tt _ _ _ c.if-samples-width.true) in
    record { answer = e; shrunk = (refuses _ _ _ e).1 }

pub returns-then-shrunk-width : goal.returns-then-shrunk-width
unfolding shrink_checks
returns-then-shrunk-width c =
    let s = within (goal.at.returns-then-shrunk-width c).Else-side_over in
    let e = sides_skip tt _ _ _ s (length_skip tt _ _ _ c.if-samples-width.false (length_stop tt _ _ _ c.if-shrunk-width.true)) in
    record { answer = e; shrunk = (refuses _ _ _ e).1 }

pub invariant_of-frame : goal.invariant_of-frame
invariant_of-frame c = let s = within (goal.at.invariant_of-frame c).Else-side_over in record { wide = s.0; high = s.1; whole = c.if-samples-width.false }

pub returns : goal.returns
unfolding shrink_checks
returns c =
    let s = within (goal.at.returns c).Else-side_over in
    let e = sides_skip tt _ _ _ s (length_skip tt _ _ _ c.if-samples-width.false (length_skip tt _ _ _ c.if-shrunk-width.false (done tt))) in
    record { answer = e; shrunk = (accepts _ _ _ e (shrink2_whole _ _ _ _ _ c.if-shrunk-width.false c.halve.ensures)).1 }
