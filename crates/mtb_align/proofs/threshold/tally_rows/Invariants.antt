-- After k rows the lanes together count the samples of the last k rows.
use Prim.Native.Nat.{◌-◌, ◌≤◌}
use Rattle.definitions.specs.Threshold.{last_rows}
use Rattle.mtb_align.specs.Tally.{Tally}
use Rattle.mtb_align.proofs.threshold.tally_rows.Given as goal

abbrev pub invariant-loop-k : goal.invariant-loop-k
invariant-loop-k l = (l.k ≤ l.frame.height) × Tally l.lanes (last_rows l.frame.width l.frame.height l.frame.samples.now l.k)

abbrev pub decreases-loop-k : goal.decreases-loop-k
decreases-loop-k l = l.frame.height - l.k
