use mathlib.Core.Path.{sym}
use Prim.Native.Nat.{ℕ, ◌+◌, ◌≤◌}
use native.Mathlib.Omega.{arith}
use lib.Dec.{eqb}
use lib.ListN.{get_or}
use Rattle.definitions.specs.Sum.{bit}
use Rattle.laws.specs.general.Cases.{bit_le}
use Rattle.laws.specs.general.Sums.{sum_none, sum_step}
use Rattle.pgm.proofs.header.line_feeds.Goals.{After-one_if_line_feed-found}
use Rattle.pgm.proofs.header.line_feeds.Goals as goal

module _ (c : After-one_if_line_feed-found) where
  one : c.one_if_line_feed-found.result ≤ 1
  one =
      let a = c.args in
      omega (arith, c.one_if_line_feed-found.ensures, bit_le (eqb (get_or a.file.now (a.at + c.loop-k.k) 0) 10))

pub loop-k-init : goal.loop-k-init
loop-k-init c = (omega arith, omega arith, sym (sum_none _))

pub loop-k-preserved : goal.loop-k-preserved
loop-k-preserved c =
    let a = c.args in
    let l = c.loop-k in (
      omega arith,
      omega (arith, one (goal.at.loop-k-preserved c).After-one_if_line_feed-found),
      sum_step l.k (λ (j : ℕ). bit (eqb (get_or a.file.now (a.at + j) 0) 10)) l.invariant.2 c.one_if_line_feed-found.ensures,
    )
