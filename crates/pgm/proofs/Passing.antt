-- What a call that returns an Option or a Result leaves to the one that made it.
use mathlib.Core.Path.{◌≡◌, refl, ap}
use Rattle.std.specs.Prelude.{Option, Some, None, Result, Ok, Err, IsErr, IsErrAnd, ok_or}
use Rattle.pgm.specs.declared.PgmError.{PgmError}

-- a refusal that `?` passes on
pub passed_on : {T : Type 0} (r : Result T PgmError) {e : PgmError} → IsErr r × IsErrAnd r (λ y. y ≡ e) → r ≡ Err e
passed_on (Ok v) h = let n = h.0 in cc
passed_on (Err y) h = ap Err h.1

-- something that is there, or a refusal in its place
pub missed : {T : Type 0} (o : Option T) {e d : PgmError} → Err e ≡ ok_or o d → (o ≡ None) × (e ≡ d)
missed None h = (refl, cc)
missed (Some v) h = cc

pub met : {T : Type 0} (o : Option T) (d : PgmError) {v : T} → Ok v ≡ ok_or o d → o ≡ Some v
met None d h = cc
met (Some u) d h = cc
