use mathlib.Core.Path.{sym, ap, ◌∙◌}
use native.Mathlib.Omega.{arith}
use mir.Syntax.{w32}
use mir.Val.{SFits}
use mir.Facts.{to_z-of_z}
use Rattle.definitions.specs.Align.{Stepped}
use Rattle.mtb_align.specs.Answers.{answered, stepped_in}
use Rattle.mtb_c.specs.Status.{status_of}
use Rattle.mtb_c.proofs.Slots.{stored, values_kept, kept, values_told}
use Rattle.mtb_c.proofs.search.mtb_shift.Goals as goal

pub returns-in-Ok : goal.returns-in-Ok
returns-in-Ok c =
    let p = rw c.mode.ensures at
    c.shift.ensures in
    let e = sym (ap (answered stepped_in) c.in-Ok.is) ∙ p.answered in
    let s = c.in-Ok.s.shift in
    let fx : SFits w32 s.x = record { sfits = omega arith } in
    let fy : SFits w32 s.y = record { sfits = omega arith } in (
      record { answered = ap status_of e; pixels = p.pixels; maps = p.maps },
      to_z-of_z fx ∙ stored _ _ e (λ (k : Stepped). k.shift.x) _,
      to_z-of_z fy ∙ stored _ _ e (λ (k : Stepped). k.shift.y) _,
      stored _ _ e (λ (k : Stepped). k.comparisons) _,
      values_kept _ _ e _,
    )

pub returns-in-Err : goal.returns-in-Err
returns-in-Err c =
    let p = rw c.mode.ensures at c.shift.ensures in
    let e = sym (ap (answered stepped_in) c.in-Err.is) ∙ p.answered in (
      record { answered = c.number.ensures ∙ ap status_of e; pixels = p.pixels; maps = p.maps },
      kept _ _ e _ _,
      kept _ _ e _ _,
      kept _ _ e _ _,
      values_told _ _ e _ c.put_values.ensures,
    )
