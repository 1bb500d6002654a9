use native.Mathlib.Omega.{arith}
use Rattle.laws.specs.bitmaps.Joints.{run_none}
use Rattle.mtb_align.proofs.Counting.{one_more, next_at}
use Rattle.mtb_align.proofs.words.run.Goals as goal

pub loop-init : goal.loop-init
loop-init g c = (omega arith, omega arith, run_none _ _ _ _ _ _ _ _)

pub loop-preserved : goal.loop-preserved
loop-preserved g c =
    let q = c.loop.invariant in
    (next_at _ _ _ q.0, next_at _ _ _ q.1, one_more _ _ _ _ _ _ _ _ _ q.0 q.1 q.2 c.word-shown.ensures c.ones_of-compared.ensures.0 c.ones_of-disagreeing.ensures.0)
