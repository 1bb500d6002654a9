-- The shifts of the frames that are left, put into the list, make the shifts of all.
use Rattle.mtb_align.specs.Stack.{stack_in}
use Rattle.mtb_align.proofs.Walked.{Walking}
use Rattle.mtb_align.proofs.walk.walk.Given as goal

abbrev pub invariant-loop-i : goal.invariant-loop-i
invariant-loop-i l = Walking (stack_in l.stack) l.initial.shifts l.shifts l.initial.bytes l.bytes l.initial.words l.words l.i
