use mathlib.Core.Path.{◌≡◌, ap, ◌∙◌}
use mathlib.Core.List.{List}
use Prim.Native.Nat.{ℕ, ◌+◌, ◌<◌}
use native.Mathlib.Omega.{arith}
use lib.ListN.{get_or}
use Rattle.definitions.specs.Build.{build}
use Rattle.laws.specs.general.Lists.{build_at}
use Rattle.laws.specs.general.Writes.{stored_none, stored_more}
use Rattle.mtb_align.specs.Tally.{lane_total}
use Rattle.mtb_align.proofs.threshold.fold_part.Goals as goal

-- the i-th total
total : (totals lanes : List ℕ) (v i : ℕ) → totals ≡ build 64 (λ (j : ℕ). lane_total lanes (v + j)) → i < 64
    → get_or totals i 0 ≡ lane_total lanes (v + i)
total totals lanes v i e h =
    ap (λ (l : List ℕ). get_or l i 0) e ∙ build_at 64 (λ (j : ℕ). lane_total lanes (v + j)) i 0 h

pub loop-i-init : goal.loop-i-init
loop-i-init c = stored_none _ _ _

pub loop-i-preserved : goal.loop-i-preserved
loop-i-preserved c =
    let x = c.args in
    let i = c.loop-i.i in
    stored_more c.loop-i.invariant (total _ x.lanes.now x.v i c.part_totals-totals.ensures (omega arith))
