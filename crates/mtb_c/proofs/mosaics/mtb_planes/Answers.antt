use Rattle.std.proofs.Common.{map}
use Rattle.mosaic_format.specs.Mosaic.{Plane}
use Rattle.mtb_c.proofs.Slots.{status_accepted, stored, status_refused, kept}
use Rattle.mtb_c.proofs.mosaics.mtb_planes.Goals as goal

pub returns-in-Ok : goal.returns-in-Ok
returns-in-Ok c =
    let e = c.in-Ok.ensures in (
      status_accepted _ _ e,
      stored _ _ e (map (λ (p : Plane). p.start)) _,
      stored _ _ e (map (λ (p : Plane). p.width)) _,
      stored _ _ e (map (λ (p : Plane). p.height)) _,
    )

pub returns-in-Err : goal.returns-in-Err
returns-in-Err c =
    let e = c.in-Err.ensures in
    (status_refused _ _ e c.number.ensures, kept _ _ e _ _, kept _ _ e _ _, kept _ _ e _ _)
