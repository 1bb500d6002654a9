-- The loop has stored the first i of the totals.
use Prim.Native.Nat.{ℕ, ◌+◌}
use Rattle.laws.specs.general.Writes.{Stored}
use Rattle.mtb_align.specs.Tally.{lane_total}
use Rattle.mtb_align.proofs.threshold.fold_part.Given as goal

abbrev pub invariant-loop-i : goal.invariant-loop-i
invariant-loop-i l = Stored (λ (j : ℕ). lane_total l.lanes (l.v + j)) l.v l.initial.bins l.bins l.i
