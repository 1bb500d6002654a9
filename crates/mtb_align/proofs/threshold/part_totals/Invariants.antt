-- The loop has stored the totals of the first i of the values.
use Prim.Native.Nat.{ℕ, ◌+◌}
use lib.ListN.{replicate}
use Rattle.laws.specs.general.Writes.{Stored}
use Rattle.mtb_align.specs.Tally.{lane_total}
use Rattle.mtb_align.proofs.threshold.part_totals.Given as goal

abbrev pub invariant-loop-i : goal.invariant-loop-i
invariant-loop-i l = Stored (λ (j : ℕ). lane_total l.lanes (l.v + j)) 0 (replicate 64 0) l.totals l.i
