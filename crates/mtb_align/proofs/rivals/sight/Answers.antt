use mathlib.Core.Path.{◌∙◌}
use Prim.Native.Nat.{◌<◌}
use native.Mathlib.Omega.{arith}
use lib.ListN.{length}
use Rattle.laws.specs.search.Walk.{neighbour_among}
use Rattle.mtb_align.specs.Stack.{stack_in}
use Rattle.mtb_align.proofs.Surveyed.{placed_near, placed_step}
use Rattle.mtb_align.proofs.Taken.{small}
use Rattle.mtb_align.proofs.rivals.sight.Goals.{After-neighbour_of-neighbour}
use Rattle.mtb_align.proofs.rivals.sight.Goals as goal

-- the neighbour is one of the frames
among : (c : After-neighbour_of-neighbour) → c.neighbour_of-neighbour.result < length c.args.walked.now.asked.stack.percentiles.now
among c =
    let s = c.args.walked.now.asked.stack in
    omega (arith, c.neighbour_of-neighbour.ensures, neighbour_among s.reference c.args.k (length s.percentiles.now) s.inside c.requires.room.1)

-- every frame's samples are there, so that a wrong one would show in the answer
pub pair-pair-requires : goal.pair-pair-requires
pair-pair-requires c = (among (goal.at.pair-pair-requires c).After-neighbour_of-neighbour, c.requires.room.1)

pub step_by_shifts-requires : goal.step_by_shifts-requires
step_by_shifts-requires c =
    let n = among (goal.at.step_by_shifts-requires c).After-neighbour_of-neighbour in
    let here = c.requires.room.1 in
    let list = c.args.walked.now.placed in
    let near = placed_near (stack_in c.args.walked.now.asked.stack) list (small c.args.walked.now.asked.stack) in
    record {
      neighbour_in_bounds = (omega (arith, n, list.long), omega (arith, here, list.long));
      within = (near _ n, near _ here);
    }

pub returns-clause-result_value : goal.returns-clause-result_value
returns-clause-result_value c =
    let s = c.args.walked.now.asked.stack in
    let p = c.requires.room in
    c.step_by_shifts.ensures ∙ placed_step (stack_in s) c.args.walked.now.placed (small s) c.args.k p.1 p.2 _ c.neighbour_of-neighbour.ensures
