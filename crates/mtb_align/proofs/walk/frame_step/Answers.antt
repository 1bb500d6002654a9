use mathlib.Core.Path.{ap, ◌∙◌}
use Prim.Native.Nat.{ℕ}
use native.Mathlib.Omega.{arith}
use lib.ListN.{length}
use Rattle.definitions.specs.Align.{Stepped, step, stepped, exposure, step_of}
use Rattle.laws.specs.search.Walk.{neighbour_among}
use Rattle.mtb_align.specs.Search.{options_in}
use Rattle.mtb_align.specs.Stack.{stack_in}
use Rattle.mtb_align.proofs.Taken.{pair_stepped}
use Rattle.mtb_align.proofs.walk.frame_step.Goals as goal

pub pair-pair-requires : goal.pair-pair-requires
pair-pair-requires c =
    let s = c.args.stack.now in
    let q = c.requires.beside in
    (omega (arith, q.2, neighbour_among s.reference c.args.k (length s.percentiles.now) s.inside q.1), q.1)

pub returns-clause-result_value : goal.returns-clause-result_value
unfolding stepped step_of
returns-clause-result_value c =
    let s = c.args.stack.now in
    let a = stack_in s in
    let e = c.pair-pair.ensures in
    ap (λ (x : Stepped). x.shift) (c.step_of-step.ensures.result_value ∙ pair_stepped s c.pair-pair.result c.args.neighbour c.args.k e.shared e.reference e.target)
    ∙ ap (λ (i : ℕ). step (options_in s.options) s.width s.height (exposure a i) (exposure a c.args.k)) c.requires.beside.2
