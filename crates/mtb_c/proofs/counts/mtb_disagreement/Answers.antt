use mir.Facts.{to_z-of_z}
use Rattle.definitions.specs.Difference.{Counts}
use Rattle.mtb_c.proofs.Slots.{status_accepted, stored, values_kept, status_refused, kept, values_told}
use Rattle.mtb_c.proofs.counts.mtb_disagreement.Goals as goal

pub returns-in-Ok : goal.returns-in-Ok
returns-in-Ok c =
    let e = rw (to_z-of_z c.ranges.x, to_z-of_z c.ranges.y) at c.in-Ok.ensures in
    (status_accepted _ _ e, stored _ _ e (λ (k : Counts). k.disagreeing) _, stored _ _ e (λ (k : Counts). k.compared) _, values_kept _ _ e _)

pub returns-in-Err : goal.returns-in-Err
returns-in-Err c =
    let e = rw (to_z-of_z c.ranges.x, to_z-of_z c.ranges.y) at c.in-Err.ensures in
    (status_refused _ _ e c.number.ensures, kept _ _ e _ _, kept _ _ e _ _, values_told _ _ e _ c.put_values.ensures)
