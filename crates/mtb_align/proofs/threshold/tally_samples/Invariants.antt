-- The lanes count more the samples past the first k fours, which the rest goes before.
use Prim.Native.Nat.{◌+◌, ◌*◌}
use lib.ListN.{drop}
use Rattle.mtb_align.specs.Tally.{More}
use Rattle.mtb_align.proofs.threshold.tally_samples.Given as goal

abbrev pub invariant-loop-k : goal.invariant-loop-k
invariant-loop-k l = More l.initial.lanes l.lanes (drop (l.rest + 4 * l.k) l.samples)
