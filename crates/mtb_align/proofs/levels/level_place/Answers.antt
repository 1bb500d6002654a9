use mathlib.Core.Path.{◌≡◌, sym, ap, ap₂, ◌∙◌}
use mathlib.Core.Bool.{true}
use Prim.Native.Nat.{ℕ, ◌≤◌}
use native.Mathlib.Omega.{arith}
use Rattle.definitions.specs.Shrink.{LevelPlace, level_start, nowhere, place_of}
use Rattle.definitions.specs.Align.{levels}
use Rattle.definitions.specs.Refusals.{accepted, answer, after, pyramid_checks}
use Rattle.laws.specs.checks.Checks.{after_accepted, after_refused}
use Rattle.laws.specs.images.Levels.{levels_most}
use Rattle.laws.specs.images.Pyramids.{side_le, samples_are, place_frame, place_past_lem, place_level, InOrder, in_order}
use Rattle.laws.specs.images.Sizes.{area}
use Rattle.mtb_align.specs.Answers.{answered}
use Rattle.mtb_align.proofs.levels.level_place.Goals.{Else-k-shrinks, In-Ok}
use Rattle.mtb_align.proofs.levels.level_place.Goals as goal

-- past the checks
passes : (c : In-Ok)
    → let a = c.args in
    accepted (tt {0}) ≡ answer (pyramid_checks a.width a.height a.samples a.bits a.scratch) tt
passes c = ap (answered (λ done. done)) (sym c.in-Ok.is) ∙ c.pyramid_fits.ensures

held : (c : In-Ok) → let a = c.args in InOrder a.width a.height a.samples a.bits a.scratch
held c = in_order _ _ _ _ _ (passes c)

place : (c : In-Ok) {p : LevelPlace}
    → let a = c.args in
    let there = place_of a.width a.height (levels a.width a.height a.bits) a.k in
    p ≡ there → p ≡ after (pyramid_checks a.width a.height a.samples a.bits a.scratch) there nowhere
place c e = e ∙ sym (after_accepted (tt {0}) _ _ _ (sym (passes c)))

-- past the tests of k, which is a halved level
halved : (c : Else-k-shrinks)
    → let a = c.args in
    InOrder a.width a.height a.samples a.bits a.scratch → (a.k ≤ levels a.width a.height a.bits) × (a.k ≤ 12)
halved c f =
    let a = c.args in
    let e = c.shrinks.ensures in
    (omega arith, omega (arith, levels_most a.width a.height a.bits f.wide f.high))

pub returns-in_default : goal.returns-in_default
unfolding nowhere
returns-in_default c = sym (after_refused (tt {0}) _ _ _ (sym (ap (answered (λ done. done)) (sym c.in_default.is) ∙ c.pyramid_fits.ensures)))

pub returns-then-k-eq0 : goal.returns-then-k-eq0
returns-then-k-eq0 c =
    let a = c.args in
    place (goal.at.returns-then-k-eq0 c).In-Ok (ap (λ (n : ℕ). record { in_scratch = _; start = 0; samples = n }) (held (goal.at.returns-then-k-eq0 c).In-Ok).whole
    ∙ place_frame a.width a.height _ a.k c.if-k-eq0.true)

pub invariant_of-sides : goal.invariant_of-sides
invariant_of-sides c = let f = held (goal.at.invariant_of-sides c).In-Ok in record { wide = f.wide; high = f.high }

pub returns-then-k-shrinks : goal.returns-then-k-shrinks
unfolding nowhere
returns-then-k-shrinks c =
    place (goal.at.returns-then-k-shrinks c).In-Ok (place_past_lem _ _ _ _ c.if-k-eq0.false (omega (arith, c.shrinks.ensures, c.if-k-shrinks.true)))

pub halved_samples-requires : goal.halved_samples-requires
halved_samples-requires c =
    let s = goal.at.halved_samples-requires c in
    omega (arith, (halved s.Else-k-shrinks (held s.In-Ok)).1)

pub side_at-requires : goal.side_at-requires
side_at-requires c = (halved (goal.at.side_at-requires c).Else-k-shrinks (held (goal.at.side_at-requires c).In-Ok)).1

pub side_at-requires-2 : goal.side_at-requires-2
side_at-requires-2 c = (halved (goal.at.side_at-requires-2 c).Else-k-shrinks (held (goal.at.side_at-requires-2 c).In-Ok)).1

pub overflow_mul-result : goal.overflow_mul-result
overflow_mul-result c =
    let f = held (goal.at.overflow_mul-result c).In-Ok in
    let a = c.args in
    let w = c.side_at.result in
    let h = c.side_at-2.result in
    omega (arith, area w h (omega (arith, c.side_at.ensures, side_le a.k a.width, f.wide)) (omega (arith, c.side_at-2.ensures, side_le a.k a.height, f.high)))

pub returns : goal.returns
unfolding level_start
returns c =
    let a = c.args in
    let n = samples_are a.width a.height a.k c.side_at.ensures c.side_at-2.ensures in
    place (goal.at.returns c).In-Ok
    (ap₂ (λ (i n : ℕ). record { in_scratch = true; start = i; samples = n }) c.halved_samples.ensures n
    ∙ place_level _ _ _ _ c.if-k-eq0.false (halved (goal.at.returns c).Else-k-shrinks (held (goal.at.returns c).In-Ok)).0)
