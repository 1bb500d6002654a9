use Rattle.definitions.specs.Align.{Need}
use Rattle.mtb_c.proofs.Slots.{status_accepted, stored, status_refused, kept}
use Rattle.mtb_c.proofs.levels.mtb_scratch.Goals as goal

pub returns-in-Ok : goal.returns-in-Ok
returns-in-Ok c =
    let e = c.in-Ok.ensures in
    record { status = status_accepted _ _ e; bytes = stored _ _ e (λ (n : Need). n.bytes) _; words = stored _ _ e (λ (n : Need). n.words) _ }

pub returns-in-Err : goal.returns-in-Err
returns-in-Err c =
    let e = c.in-Err.ensures in
    record { status = status_refused _ _ e c.number.ensures; bytes = kept _ _ e _ _; words = kept _ _ e _ _ }
