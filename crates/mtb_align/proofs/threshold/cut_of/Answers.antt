use mathlib.Core.Path.{◌≡◌, ap, ◌∙◌}
use mathlib.Core.List.{List}
use Prim.Native.Nat.{ℕ, ◌≤◌}
use native.Mathlib.Omega.{arith}
use lib.ListN.{length, get_or}
use Rattle.std.specs.Prelude.{ltb}
use Rattle.definitions.specs.Sum.{sum}
use Rattle.definitions.specs.Threshold.{bins, target, bins_added, cut}
use Rattle.laws.specs.general.Counts.{count_le}
use Rattle.laws.specs.images.Cut.{bins_below}
use Rattle.laws.specs.images.Sizes.{area}
use Rattle.mtb_align.proofs.threshold.cut_of.Goals as goal

-- the bins add up to no more than the samples
bins-few : (s r : List ℕ) → r ≡ bins s → length s ≤ 67108864 → sum 256 (λ i. get_or r i 0) ≤ 67108864
bins-few s r e h = rw e (omega (arith, bins_below s 256 (omega arith), count_le (λ (a : ℕ). ltb a 256) s))

pub bins_added-requires : goal.bins_added-requires
bins_added-requires c =
    let f = c.args.frame.now in
    bins-few f.samples.now c.histogram.result c.histogram.ensures (omega (arith, area f.width f.height f.wide f.high, f.whole))

pub returns : goal.returns
unfolding cut target
returns c =
    let x = c.args in
    c.bins_added.ensures ∙ ap (λ (l : List ℕ). bins_added l (target x.frame.now.samples.now x.percentile) 0) c.histogram.ensures
