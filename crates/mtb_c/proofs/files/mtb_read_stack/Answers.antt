use Prim.Native.Nat.{ℕ}
use Rattle.pgm_format.specs.Stack.{read_stack}
use Rattle.mtb_c.proofs.Slots.{status_accepted, stored, status_refused, kept}
use Rattle.mtb_c.proofs.files.mtb_read_stack.Goals as goal

pub returns-in-Ok : goal.returns-in-Ok
unfolding read_stack
returns-in-Ok c =
    let p = c.in-Ok.ensures in
    (status_accepted _ _ p.0, p.1, p.2, p.3, stored _ _ p.0 (λ (n : ℕ). n) _)

pub returns-in-Err : goal.returns-in-Err
unfolding read_stack
returns-in-Err c =
    let p = c.in-Err.ensures in
    (status_refused _ _ p.0 c.number.ensures, p.1, p.2, p.3, kept _ _ p.0 _ _)
