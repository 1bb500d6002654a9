-- What a call returned, by its answer: where it is accepted there is a value, and a refusal that `?` passes on is the same refusal.
use Rattle.std.proofs.Common.{◌≡◌, refl, sym, ap}
use Rattle.std.specs.Prelude.{Result, Ok, Err, IsOk, IsErr, IsErrAnd}
use Rattle.definitions.specs.Refusals.{accepted}
use Rattle.laws.specs.checks.Checks.{not_both}
use Rattle.mtb_align.specs.declared.error.Error.{Error}
use Rattle.mtb_align.specs.Answers.{answered, refusal}

pub is_accepted : {T A : Type 0} (f : T → A) (r : Result T Error) {v : A} → answered f r ≡ accepted v → IsOk r
is_accepted f (Ok v) p = refl
is_accepted f (Err e) p = absurd (not_both (sym p))

pub passed_on : {T A : Type 0} (f : T → A) (r : Result T Error) (e : Error) → IsErr r × IsErrAnd r (λ d. d ≡ e) → answered f r ≡ refusal e
passed_on f (Ok v) e p = absurd p.1
passed_on f (Err d) e p = ap (λ (x : Error). refusal x) p.1
