use mathlib.Core.Path.{sym, ap₂, ◌∙◌, subst}
use native.Mathlib.Omega.{arith}
use Rattle.definitions.specs.Geometry.{offset}
use Rattle.laws.specs.search.StepBounds.{Within, within_wider, step_of_small, shift_small}
use Rattle.mtb_align.specs.Stack.{stack_in}
use Rattle.mtb_align.proofs.Walked.{Turn, walk_turn, one_walked, all_walked}
use Rattle.mtb_align.proofs.Taken.{small}
use Rattle.mtb_align.proofs.walk.walk.Goals.{After-neighbour_of-neighbour}
use Rattle.mtb_align.proofs.walk.walk.Goals as goal

-- what the turn finds
turn : (c : After-neighbour_of-neighbour)
    → let a = c.args in
    Turn (stack_in a.stack.now) c.loop-i.shifts c.walked-k.result c.neighbour_of-neighbour.result
turn c =
    walk_turn (stack_in c.args.stack.now) (small c.args.stack.now) c.args.shifts.now c.put_shift.ensures c.loop-i.invariant
    c.requires.list (omega (arith, c.loop-i-test.true)) c.walked-k.ensures c.neighbour_of-neighbour.ensures

pub frame_step-step-requires-clause-beside : goal.frame_step-step-requires-clause-beside
frame_step-step-requires-clause-beside c =
    let t = turn (goal.at.frame_step-step-requires-clause-beside c).After-neighbour_of-neighbour in
    (t.two, t.among, c.neighbour_of-neighbour.ensures)

pub shift_at-placed-requires : goal.shift_at-placed-requires
shift_at-placed-requires c = let t = turn (goal.at.shift_at-placed-requires c).After-neighbour_of-neighbour in omega (arith, t.beside, t.long)

pub summed-requires : goal.summed-requires
summed-requires c =
    let a = stack_in c.args.stack.now in
    let within = small c.args.stack.now in
    let t = turn (goal.at.summed-requires c).After-neighbour_of-neighbour in (
      subst (Within 1048576) (sym (c.shift_at-placed.ensures ∙ t.read)) (within_wider (omega arith) (shift_small a within c.neighbour_of-neighbour.result t.beside)),
      subst (Within 1048576) (sym c.frame_step-step.ensures.result_value) (within_wider (omega arith) (step_of_small a within c.walked-k.result)),
    )

pub put_shift-requires-in-loop-i : goal.put_shift-requires-in-loop-i
put_shift-requires-in-loop-i c = let t = turn (goal.at.put_shift-requires-in-loop-i c).After-neighbour_of-neighbour in omega (arith, t.among, t.long)

pub loop-i-preserved : goal.loop-i-preserved
loop-i-preserved c =
    let a = stack_in c.args.stack.now in
    let t = turn (goal.at.loop-i-preserved c).After-neighbour_of-neighbour in
    let e = c.frame_step-step.ensures in
    one_walked a (small c.args.stack.now) c.loop-i.invariant
    (omega (arith, c.loop-i-test.true))
    c.walked-k.ensures
    (c.summed.ensures ∙ ap₂ offset (c.shift_at-placed.ensures ∙ t.read) e.result_value ∙ t.sum)
    c.put_shift-in-loop-i.ensures
    e.free_up_to
    e.free_up_to_2

pub returns-clause-shifts_after : goal.returns-clause-shifts_after
returns-clause-shifts_after c =
    let a = stack_in c.args.stack.now in
    all_walked a (small c.args.stack.now) c.args.shifts.now c.put_shift.ensures c.loop-i.invariant (omega (arith, c.loop-i-test.false))
