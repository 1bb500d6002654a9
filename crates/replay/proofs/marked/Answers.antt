use Rattle.std.proofs.Common.{◌≡◌, rules}
use Rattle.std.proofs.lemmas.Iterator.{cases_from_all, YieldsList-from_slice}
use Rattle.replay.proofs.Entries.{marked_from_cases}
use Rattle.replay.proofs.marked.Goals as goal

pub returns : goal.returns
returns g c =
    let xs = c.args.got.now in
    let m = g.T.Entry.mark in
    let cases = cases_from_all _ _ _ (λ x. x ≡ m) (λ x. x ≡ m → ⊥) c.all.ensures.ran (YieldsList-from_slice xs cc) (λ x q k. search rules) (λ x q k. search rules) in
    marked_from_cases c.all.result xs m cases
