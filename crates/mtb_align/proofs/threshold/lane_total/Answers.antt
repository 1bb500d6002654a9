use borrow.Author.Rules.{rules}
use native.Mathlib.Omega.{arith}
use Rattle.mtb_align.specs.Tally.{lane_total}
use Rattle.mtb_align.proofs.threshold.lane_total.Goals as goal

pub overflow_add-result-2 : goal.overflow_add-result-2
unfolding lane_total
overflow_add-result-2 c = omega arith

pub overflow_add-result-4 : goal.overflow_add-result-4
unfolding lane_total
overflow_add-result-4 c = omega arith

pub overflow_add-result-6 : goal.overflow_add-result-6
unfolding lane_total
overflow_add-result-6 c = omega arith

pub returns : goal.returns
unfolding lane_total
returns c = search rules
