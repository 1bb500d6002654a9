use mathlib.Core.Path.{◌≡◌, ap, ◌∙◌}
use Prim.Native.Nat.{ℕ, ◌+◌, ◌-◌}
use native.Mathlib.Omega.{arith}
use Rattle.definitions.specs.Threshold.{threshold_bit, exclusion_bit}
use Rattle.definitions.specs.Bitmap.{word_of}
use Rattle.mtb_align.specs.Packing.{bits_from}
use Rattle.mtb_align.proofs.Two.{two_low, two_high, joined_low, joined_high}
use Rattle.mtb_align.proofs.bitmap.pack_last.Goals as goal

pub returns-then-span-lt32 : goal.returns-then-span-lt32
returns-then-span-lt32 c =
    let x = c.args in
    let s = x.samples.now in (
      omega (arith, c.join_halves.ensures.0, c.pack_half.ensures, two_low s x.table.cut x.table.tolerance x.from x.span (omega arith)),
      omega (arith, c.join_halves.ensures.1, c.pack_half.ensures, two_high s x.table.cut x.table.tolerance x.from x.span (omega arith)),
    )

pub returns : goal.returns
returns c =
    let x = c.args in
    let s = x.samples.now in
    let h = c.pack_half-a in
    let k = c.pack_half-b in
    let e : 32 + (x.span - 32) ≡ x.span = omega arith in (
      c.join_halves-2.ensures.0 ∙ joined_low s x.table.cut x.table.tolerance x.from (x.span - 32) h.result k.result (omega arith) h.ensures k.ensures
          ∙ ap (λ (n : ℕ). word_of n (bits_from s (threshold_bit x.table.cut) x.from)) e,
      c.join_halves-2.ensures.1 ∙ joined_high s x.table.cut x.table.tolerance x.from (x.span - 32) h.result k.result (omega arith) h.ensures k.ensures
          ∙ ap (λ (n : ℕ). word_of n (bits_from s (exclusion_bit x.table.cut x.table.tolerance) x.from)) e,
    )
