use mathlib.Core.Path.{◌≡◌, sym, ap, ◌∙◌}
use Prim.Native.Nat.{ℕ, ◌+◌, ◌*◌, ◌^◌, ◌<◌, ◌≤◌}
use native.Mathlib.Omega.{arith}
use lib.ListN.{length}
use Rattle.std.specs.Prelude.{Option, Some, None}
use Rattle.std.specs.Option.{IfNone, IfSome, unwrap_or}
use Rattle.definitions.specs.Decimal.{decimal}
use Rattle.laws.specs.general.Decimals.{decimal_one}
use Rattle.pgm.proofs.Writing.{digits_long}
use Rattle.pgm.proofs.writer.digits.Goals as goal

-- by the greatest power of ten that the number reaches, if it is not 0
counted : (n : ℕ) (o : Option ℕ) → IfNone o (n ≡ 0) → IfSome o (λ k. 10 ^ k ≤ n) → IfSome o (λ k. n < 10 * 10 ^ k) → unwrap_or o 0 + 1 ≡ length (decimal n)
counted n None z p q = sym (ap length (decimal_one n (omega arith)))
counted n (Some k) z p q = sym (digits_long k n p q)

pub returns : goal.returns
returns c =
    let e = c.checked_ilog10.ensures in
    ap (λ k. k + 1) c.unwrap_or.ensures ∙ counted c.args.n c.checked_ilog10.result e.none e.power_le e.next_power_gt
