use mathlib.Core.Path.{◌∙◌}
use native.Mathlib.Omega.{arith}
use mir.Syntax.{w32}
use mir.Val.{SFits}
use mir.Facts.{to_z-of_z}
use Rattle.definitions.specs.Geometry.{Shift}
use Rattle.mtb_c.proofs.Slots.{status_accepted, stored, status_refused, kept}
use Rattle.mtb_c.proofs.moves.mtb_offset.Goals as goal

pub returns-in-Ok : goal.returns-in-Ok
returns-in-Ok c =
    let e = rw (to_z-of_z c.ranges.x, to_z-of_z c.ranges.y, to_z-of_z c.ranges.by_x, to_z-of_z c.ranges.by_y) at
    c.in-Ok.ensures in
    let m = c.in-Ok.m in
    let fx : SFits w32 m.x = record { sfits = omega arith } in
    let fy : SFits w32 m.y = record { sfits = omega arith } in
    record {
      status = status_accepted _ _ e;
      across = to_z-of_z fx ∙ stored _ _ e (λ (k : Shift). k.x) _;
      down = to_z-of_z fy ∙ stored _ _ e (λ (k : Shift). k.y) _;
    }

pub returns-in-Err : goal.returns-in-Err
returns-in-Err c =
    let e = rw (to_z-of_z c.ranges.x, to_z-of_z c.ranges.y, to_z-of_z c.ranges.by_x, to_z-of_z c.ranges.by_y) at
    c.in-Err.ensures in
    record { status = status_refused _ _ e c.number.ensures; across = kept _ _ e _ _; down = kept _ _ e _ _ }
