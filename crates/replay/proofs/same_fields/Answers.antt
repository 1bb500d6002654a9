use Rattle.std.specs.Prelude.{refl, ℕ, List, length, get_or}
use Rattle.std.proofs.Common.{sym, ap, ◌∙◌, arith}
use Rattle.std.proofs.lemmas.Bool.{false≢true}
use Rattle.laws.specs.general.Lists.{build_is, build_at}
use Rattle.definitions.specs.Report.{field_of}
use Rattle.replay.proofs.same_fields.Goals as goal

pub returns-then-numbers-i : goal.returns-then-numbers-i
returns-then-numbers-i c =
    let numbers = c.args.numbers.now in
    let fields = field_of c.args.got.now 0 in
    let i = c.loop-i.i in
    (λ e. absurd (false≢true e), λ h. absurd (c.if-numbers-i.true (ap (λ (l : List ℕ). get_or l i 0) h.each ∙ build_at (length numbers) fields i 0 (omega arith) ∙ sym c.field.ensures)))

pub returns : goal.returns
returns c =
    let l = c.loop-i in
    let numbers = c.args.numbers.now in
    (λ _. record { long = l.invariant.0; each = build_is (length numbers) (field_of c.args.got.now 0) numbers 0 refl (λ k h. l.invariant.1 k (omega arith)) }, λ _. refl)
