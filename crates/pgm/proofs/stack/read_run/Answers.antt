use native.Mathlib.Omega.{arith}
use Rattle.pgm.proofs.Passing.{passed_on}
use Rattle.pgm.proofs.Runs.{one_counted, one_refused, end_past, all_counted, size_is}
use Rattle.pgm.proofs.stack.read_run.Goals as goal

pub returns-in_err-image : goal.returns-in_err-image
returns-in_err-image c =
    rw (passed_on _ c.from_residual.ensures) (one_refused c.loop.invariant.1 (omega arith) c.in_err-image.ensures)

pub overflow_sub-samples : goal.overflow_sub-samples
overflow_sub-samples c = (size_is _ _ c.in_ok-image.ensures).0

pub overflow_add-samples : goal.overflow_add-samples
overflow_add-samples c = omega (arith, (size_is _ _ c.in_ok-image.ensures).1)

pub loop-preserved : goal.loop-preserved
loop-preserved c =
    (omega (arith, (size_is _ _ c.in_ok-image.ensures).1), one_counted c.loop.invariant.1 (omega arith) c.in_ok-image.ensures)

pub returns-then-next-file : goal.returns-then-next-file
returns-then-next-file c = end_past c.loop.invariant.1 (omega arith) c.if-next-file.true

pub returns : goal.returns
returns c = all_counted c.loop.invariant.1 (omega arith) c.if-next-file.false
