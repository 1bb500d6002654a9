-- What `checked_add` says of each sum is what its check asks: an i32 holds it, or none does.
use mathlib.Core.Path.{◌≡◌, refl, sym, ap, subst, ◌∙◌}
use mathlib.Core.Bool.{Bool, true, false, not}
use borrow.Author.Rules.{rules}
use lib.IntN.{ℤ}
use mir.Syntax.{w32}
use mir.Val.{SFits, to_z, of_z}
use mir.Facts.{to_z-of_z}
use Rattle.std.specs.Prelude.{Option, Some, None, SomeIff, Result, Ok, Err}
use Rattle.std.specs.Option.{ok_or}
use Rattle.definitions.specs.Geometry.{Shift, in_i32}
use Rattle.definitions.specs.Refusals.{accepted, shift_checks}
use Rattle.laws.specs.checks.Checks.{done}
use Rattle.laws.specs.checks.ChecksGeometry.{coordinate_stop, coordinate_skip}
use Rattle.laws.specs.general.Machine.{read, fit, both, part32, held, not_outside}
use Rattle.mtb_align.specs.Answers.{shift_in, refusal}
use Rattle.mtb_align.specs.declared.error.Error.{Error}
use Rattle.mtb_align.specs.declared.error.Error.TheVariants.{Coordinate}
use Rattle.mtb_align.proofs.Answered.{passed_on}
use Rattle.mtb_align.proofs.geometry.Shift.offset.Goals as goal

-- a sum y, which is z
module _ {y z : ℤ} (e : y ≡ z) {r : Option ℤ} (s : SomeIff r (SFits w32 y) y) where
  fits : {x : ℤ} → r ≡ Some x → SFits w32 z
  fits p = fit (sym e) (subst (λ (o : Option ℤ). SomeIff o (SFits w32 y) y) p s).0

  passes : {x : ℤ} → r ≡ Some x → not (in_i32 z) ≡ false
  passes p = let b = part32 z (fits p) in not_outside z b.0 b.1

  is : {x : ℤ} → r ≡ Some x → to_z w32 (of_z w32 x) ≡ z
  is p = read ((subst (λ (o : Option ℤ). SomeIff o (SFits w32 y) y) p s).1 ∙ e) (fits p)

  fails : r ≡ None → not (in_i32 z) ≡ true
  fails p = on (not (in_i32 z)) refl
    where
      on : (t : Bool) → not (in_i32 z) ≡ t → t ≡ true
      on true q = refl
      on false q = absurd (subst (λ (o : Option ℤ). SomeIff o (SFits w32 y) y) p s (fit e (held z q)))

-- where there is no sum, the refusal is 12
abbrev error_of : Result ℤ Error → Error
error_of (Ok x) = Coordinate
error_of (Err e) = e

refused_as : {r : Option ℤ} {e : Error} → Err e ≡ ok_or r Coordinate → r ≡ None → refusal {A = Shift} e ≡ refusal Coordinate
refused_as p q = ap (λ (x : Error). refusal x) (ap error_of (p ∙ ap (λ (o : Option ℤ). ok_or o Coordinate) q))

pub returns-in_err-x : goal.returns-in_err-x
unfolding shift_checks
returns-in_err-x c =
    let s = c.args in
    let f : SFits w32 s.self.x = search rules in
    let across = both (to_z-of_z f) (to_z-of_z c.ranges.x) in
    let e = c.in_err-x.ensures in
    passed_on shift_in _ _ c.from_residual.ensures ∙ refused_as e.value e.ok_part ∙ coordinate_stop _ _ _ (fails across c.checked_add.ensures e.ok_part)

pub returns-in_err-y : goal.returns-in_err-y
unfolding shift_checks
returns-in_err-y c =
    let s = c.args in
    let f : SFits w32 s.self.x = search rules in
    let g : SFits w32 s.self.y = search rules in
    let across = both (to_z-of_z f) (to_z-of_z c.ranges.x) in
    let down = both (to_z-of_z g) (to_z-of_z c.ranges.y) in
    let e = c.in_err-y.ensures in
    passed_on shift_in _ _ c.from_residual-in_err-y.ensures
    ∙ refused_as e.value e.ok_part
    ∙ coordinate_skip _ _ _ (passes across c.checked_add.ensures c.in_ok-x.ensures.ok_part)
    (coordinate_stop _ _ _ (fails down c.checked_add-2.ensures e.ok_part))

pub returns : goal.returns
unfolding shift_checks
returns c =
    let s = c.args in
    let f : SFits w32 s.self.x = search rules in
    let g : SFits w32 s.self.y = search rules in
    let across = both (to_z-of_z f) (to_z-of_z c.ranges.x) in
    let down = both (to_z-of_z g) (to_z-of_z c.ranges.y) in
    let x = c.new.ensures.0 ∙ is across c.checked_add.ensures c.in_ok-x.ensures.ok_part in
    let y = c.new.ensures.1 ∙ is down c.checked_add-2.ensures c.in_ok-y.ensures.ok_part in
    ap accepted (λ i. record { x = x i; y = y i })
    ∙ coordinate_skip _ _ _ (passes across c.checked_add.ensures c.in_ok-x.ensures.ok_part)
    (coordinate_skip _ _ _ (passes down c.checked_add-2.ensures c.in_ok-y.ensures.ok_part) (done _))
