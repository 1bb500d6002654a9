-- The zeros above the highest set bit tell its place.
use mathlib.Core.Path.{◌≡◌, sym, ◌∙◌}
use Prim.Native.Nat.{◌-◌}
use native.Mathlib.Omega.{arith}
use lib.Count.{leading_top, count_leading_zeros}
use Rattle.laws.specs.images.Levels.{log2_is}
use Rattle.mtb_align.proofs.numbers.ilog2.Goals as goal

pub returns : goal.returns
returns c =
    let l = leading_top 64 c.args.n (omega arith) (omega arith) in
    let j : 63 - count_leading_zeros 64 c.args.n ≡ l.0 = omega (arith, l.1) in
    j ∙ sym (log2_is c.args.n l.0 l.2 l.3)
