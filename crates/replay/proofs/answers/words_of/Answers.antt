use Rattle.std.specs.Prelude.{refl}
use Rattle.std.proofs.Common.{arith, rules, ◌∙◌}
use Rattle.replay.proofs.Entries.{store_more, store_done}
use Rattle.replay.proofs.answers.words_of.Goals as goal

pub loop-i-preserved : goal.loop-i-preserved
loop-i-preserved c =
    let l = c.loop-i in
    let s = store_more c.args.sizes.now l.out l.i _ 0 (omega arith) refl in
    (search rules, s ∙ l.invariant.1)

pub returns : goal.returns
returns c = let l = c.loop-i in store_done c.args.sizes.now l.out l.i (omega (arith, l.invariant.0)) ∙ l.invariant.1
