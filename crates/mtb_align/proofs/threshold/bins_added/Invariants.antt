-- The loop has added the first `four` fours of bins, and with what a walk over the others adds that is the whole walk.
use mathlib.Core.Path.{◌≡◌}
use Prim.Native.Nat.{◌+◌, ◌*◌}
use lib.ListN.{get_or, drop}
use Rattle.definitions.specs.Sum.{sum}
use Rattle.definitions.specs.Threshold.{bins_added}
use Rattle.mtb_align.proofs.threshold.bins_added.Given as goal

abbrev pub invariant-loop-four : goal.invariant-loop-four
invariant-loop-four l =
    (l.added ≡ sum (4 * l.four) (λ i. get_or l.bins i 0)) × (4 * l.four + bins_added (drop (4 * l.four) l.bins) l.goal l.added ≡ bins_added l.bins l.goal 0)
