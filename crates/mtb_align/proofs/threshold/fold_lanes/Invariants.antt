-- The loop has stored the totals of the values in the first parts.
use Prim.Native.Nat.{◌*◌}
use lib.ListN.{replicate}
use Rattle.laws.specs.general.Writes.{Stored}
use Rattle.mtb_align.specs.Tally.{lane_total}
use Rattle.mtb_align.proofs.threshold.fold_lanes.Given as goal

abbrev pub invariant-loop-part : goal.invariant-loop-part
invariant-loop-part l = Stored (lane_total l.lanes) 0 (replicate 256 0) l.bins (l.part * 64)
