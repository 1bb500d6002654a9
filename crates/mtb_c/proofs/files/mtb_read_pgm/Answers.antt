use Rattle.pgm_format.specs.Pgm.{Image, read}
use Rattle.mtb_c.proofs.Slots.{status_accepted, stored, status_refused, kept}
use Rattle.mtb_c.proofs.files.mtb_read_pgm.Goals as goal

pub returns-in-Ok : goal.returns-in-Ok
unfolding read
returns-in-Ok c =
    let e = c.in-Ok.ensures in (
      status_accepted _ _ e,
      stored _ _ e (λ (i : Image). i.width) _,
      stored _ _ e (λ (i : Image). i.height) _,
      stored _ _ e (λ (i : Image). i.start) _,
      stored _ _ e (λ (i : Image). i.next) _,
    )

pub returns-in-Err : goal.returns-in-Err
unfolding read
returns-in-Err c =
    let e = c.in-Err.ensures in
    (status_refused _ _ e c.number.ensures, kept _ _ e _ _, kept _ _ e _ _, kept _ _ e _ _, kept _ _ e _ _)
