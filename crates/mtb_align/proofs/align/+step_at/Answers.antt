use native.Mathlib.Omega.{arith}
use Rattle.laws.specs.search.StepBounds.{within_wider}
use Rattle.laws.specs.search.LevelSteps.{refined_few, step_last, step_more, comparisons_few, step_near, twice_near}
use Rattle.mtb_align.proofs.align.+step_at.Goals as goal

-- ---- the last level

pub returns-then-level-last-clause-result_value : goal.returns-then-level-last-clause-result_value
returns-then-level-last-clause-result_value t c = step_last _ _ _ c.if-level-last.true c.step_around.ensures.result_value

-- ---- a finer one

pub twice-around-requires : goal.twice-around-requires
twice-around-requires t c = within_wider (omega arith) (step_near _ _ _ c.requires.levelled.few c.step_at-coarser.ensures.result_value)

pub step_around-found-requires-clause-level_le_last :
    goal.step_around-found-requires-clause-level_le_last
step_around-found-requires-clause-level_le_last t c =
    (c.requires.level_le_last, twice_near _ _ _ c.requires.levelled.few c.step_at-coarser.ensures.result_value c.twice-around.ensures)

pub overflow_add-result : goal.overflow_add-result
overflow_add-result t c =
    let coarser = comparisons_few _ _ _ c.requires.levelled.few c.step_at-coarser.ensures.result_value in
    let finer = refined_few _ _ c.step_around-found.ensures.result_value in
    omega arith

pub returns-clause-result_value : goal.returns-clause-result_value
returns-clause-result_value t c =
    step_more _ _ _ (omega (arith, c.requires.level_le_last, c.if-level-last.false)) c.step_at-coarser.ensures.result_value c.twice-around.ensures c.step_around-found.ensures.result_value
