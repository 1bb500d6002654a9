use Rattle.std.proofs.Common.{◌≡◌, ap, ◌∙◌, ℕ, ◌+◌, ◌-◌, length, length-drop, replicate, take, drop, arith}
use Rattle.std.proofs.lemmas.List.{length-take, length-replicate}
use Rattle.mtb_align.proofs.Runs.{part_stored}
use Rattle.mtb_align.proofs.geometry.clear_run.Goals as goal

pub returns : goal.returns
returns c =
    let a = c.args in
    let n : length (take (a.at + a.n - a.at) (drop a.at a.out.now)) ≡ a.n =
    omega (arith, length-take (a.at + a.n - a.at) (drop a.at a.out.now), length-drop a.at a.out.now, c.requires) in
    part_stored a.out.now (replicate a.n 0) a.at a.n (length-replicate a.n 0) c.requires (c.fill.ensures.after (λ y p. p) ∙ ap (λ (k : ℕ). replicate k 0) n)
