-- The loop has added the first `level` bins, and with what a walk over the others adds that is the whole walk.
use mathlib.Core.Path.{◌≡◌}
use Prim.Native.Nat.{◌+◌}
use lib.ListN.{get_or, drop}
use Rattle.definitions.specs.Sum.{sum}
use Rattle.definitions.specs.Threshold.{bins_added}
use Rattle.mtb_align.proofs.threshold.bins_added_from.Given as goal

abbrev pub invariant-loop-level : goal.invariant-loop-level
invariant-loop-level l =
    (l.added ≡ sum l.level (λ i. get_or l.bins i 0)) × (l.level + bins_added (drop l.level l.bins) l.goal l.added ≡ l.from + bins_added (drop l.from l.bins) l.goal l.held)
