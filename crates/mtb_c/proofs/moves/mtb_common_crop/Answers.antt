use Rattle.definitions.specs.Geometry.{Rect}
use Rattle.mtb_c.proofs.Slots.{status_accepted, stored, status_refused, kept}
use Rattle.mtb_c.proofs.moves.mtb_common_crop.Goals as goal

pub returns-in-Ok : goal.returns-in-Ok
returns-in-Ok c =
    let e = c.in-Ok.ensures in
    record {
      status = status_accepted _ _ e;
      left = stored _ _ e (λ (r : Rect). r.x) _;
      top = stored _ _ e (λ (r : Rect). r.y) _;
      wide = stored _ _ e (λ (r : Rect). r.width) _;
      high = stored _ _ e (λ (r : Rect). r.height) _;
    }

pub returns-in-Err : goal.returns-in-Err
returns-in-Err c =
    let e = c.in-Err.ensures in
    record { status = status_refused _ _ e c.number.ensures; left = kept _ _ e _ _; top = kept _ _ e _ _; wide = kept _ _ e _ _; high = kept _ _ e _ _ }
