use mathlib.Core.Path.{◌≡◌, refl, sym, ap, ap₂, subst, ◌∙◌}
use mathlib.Core.Bool.{Bool, true, false, cond}
use mathlib.Core.List.{List, []}
use Prim.Native.Nat.{ℕ, ◌+◌, ◌-◌, ◌≤◌, max}
use native.Mathlib.Omega.{arith}
use lib.ListN.{length, take, drop}
use Rattle.definitions.specs.Shrink.{LevelPlace, level_part, part_at}
use Rattle.definitions.specs.Align.{levels}
use Rattle.definitions.specs.Refusals.{after, pyramid_checks}
use Rattle.laws.specs.images.Pyramids.{level_stands, level_inside}
use Rattle.mtb_align.specs.Answers.{level_place_in}
use Rattle.mtb_align.proofs.levels.level.Goals.{After-level_place-place}
use Rattle.mtb_align.proofs.levels.level.Goals as goal

-- the place lies inside its list, which is the scratch or the frame
inside : (c : After-level_place-place) {t : Bool}
    → let a = c.args in
    let p = level_place_in c.level_place-place.result in
    p.in_scratch ≡ t → p.start + p.samples ≤ length (cond t a.scratch.now a.frame.now)
inside c e =
    let a = c.args in
    let P : LevelPlace → Type 0 = λ p. p.start + p.samples ≤ length (cond p.in_scratch a.scratch.now a.frame.now) in
    let p = level_place_in c.level_place-place.result in
    let h : P p = subst P (sym c.level_place-place.ensures) (level_inside a.width a.height a.bits a.k a.frame.now a.scratch.now) in
    subst (λ (t : Bool). p.start + p.samples ≤ length (cond t a.scratch.now a.frame.now)) e h

either : (b : Bool) (l m : List ℕ) {n : ℕ} → n ≤ length (cond b l m) → n ≤ max (length l) (length m)
either true l m h = omega arith
either false l m h = omega arith

-- and the part of that list is the level
part : (c : After-level_place-place) {t : Bool}
    → let a = c.args in
    let p = level_place_in c.level_place-place.result in
    let n = levels a.width a.height a.bits in
    p.in_scratch ≡ t
    → take (p.start + p.samples - p.start) (drop p.start (cond t a.scratch.now a.frame.now))
    ≡ after (pyramid_checks a.width a.height (length a.frame.now) a.bits (length a.scratch.now)) (level_part a.width a.height n a.frame.now a.scratch.now a.k) []
part c e =
    let a = c.args in
    let p = level_place_in c.level_place-place.result in
    let n : p.start + p.samples - p.start ≡ p.samples = omega arith in
    ap₂ (λ (k : ℕ) (b : Bool). take k (drop p.start (cond b a.scratch.now a.frame.now))) n (sym e)
    ∙ ap (λ (p : LevelPlace). part_at p a.frame.now a.scratch.now) c.level_place-place.ensures
    ∙ sym (level_stands a.width a.height a.bits a.k a.frame.now a.scratch.now)

pub overflow_add-end : goal.overflow_add-end
overflow_add-end c =
    let a = c.args in
    let t = (level_place_in c.level_place-place.result).in_scratch in
    omega (arith, either t a.scratch.now a.frame.now (inside (goal.at.overflow_add-end c).After-level_place-place refl))

pub slice_bounds-result-end : goal.slice_bounds-result-end
slice_bounds-result-end c = inside (goal.at.slice_bounds-result-end c).After-level_place-place c.if-place.true

pub returns-then-place : goal.returns-then-place
returns-then-place c = part (goal.at.returns-then-place c).After-level_place-place c.if-place.true

pub slice_bounds-result-end-2 : goal.slice_bounds-result-end-2
slice_bounds-result-end-2 c = inside (goal.at.slice_bounds-result-end-2 c).After-level_place-place c.if-place.false

pub returns : goal.returns
returns c = part (goal.at.returns c).After-level_place-place c.if-place.false
