use Prim.Native.Nat.{ℕ}
use Rattle.pgm_format.specs.Pgm.{write}
use Rattle.mtb_c.proofs.Slots.{status_accepted, stored, status_refused, kept}
use Rattle.mtb_c.proofs.files.mtb_write_pgm.Goals as goal

pub returns-in-Ok : goal.returns-in-Ok
unfolding write
returns-in-Ok c =
    let p = c.in-Ok.ensures in
    (status_accepted _ _ p.0, p.1, stored _ _ p.0 (λ (n : ℕ). n) _)

pub returns-in-Err : goal.returns-in-Err
unfolding write
returns-in-Err c =
    let p = c.in-Err.ensures in
    (status_refused _ _ p.0 c.number.ensures, p.1, kept _ _ p.0 _ _)
