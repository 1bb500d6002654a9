use mathlib.Core.Path.{◌≡◌, sym, ap, ◌∙◌}
use Prim.Native.Nat.{ℕ, ◌/◌}
use native.Mathlib.Omega.{arith}
use lib.ListN.{length}
use Rattle.definitions.specs.Sum.{sum}
use Rattle.laws.specs.general.Sums.{sum_none, sum_step}
use Rattle.laws.specs.bitmaps.Adders.{parts}
use Rattle.mtb_align.proofs.ones.ones_in.Invariants.{ones_at, fifteen_at}
use Rattle.mtb_align.proofs.ones.ones_in.Goals as goal

pub loop-at-init : goal.loop-at-init
loop-at-init c = (sym (sum_none _), omega arith)

pub loop-at-preserved : goal.loop-at-preserved
loop-at-preserved c =
    let words = c.args.words.now in
    (sum_step c.loop-at.at (fifteen_at words (length words / 15)) c.loop-at.invariant.0 c.ones_of_fifteen-set.ensures.0, omega arith)

pub loop-k-init : goal.loop-k-init
loop-k-init c =
    let words = c.args.words.now in
    let step = length words / 15 in
    let e : c.loop-at.at ≡ step = omega arith in
    (c.loop-at.invariant.0 ∙ ap (λ (k : ℕ). sum k (fifteen_at words step)) e ∙ parts step (ones_at words), omega arith)

pub loop-k-preserved : goal.loop-k-preserved
loop-k-preserved c =
    (sum_step c.loop-k.k (ones_at c.args.words.now) c.loop-k.invariant.0 c.ones_of-set.ensures.0, omega arith)
