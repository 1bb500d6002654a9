use Rattle.mtb_c.proofs.Slots.{slot_accepted, slot_refused}
use Rattle.mtb_c.proofs.frames.mtb_threshold.Goals as goal

pub returns-in-Ok : goal.returns-in-Ok
returns-in-Ok c =
    let p = slot_accepted _ _ _ c.in-Ok.ensures in record { status = p.0; cut = p.1 }

pub returns-in-Err : goal.returns-in-Err
returns-in-Err c =
    let p = slot_refused _ _ _ c.in-Err.ensures c.number.ensures in record { status = p.0; cut = p.1 }
