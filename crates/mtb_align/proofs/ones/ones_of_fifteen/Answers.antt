use mathlib.Core.Path.{◌≡◌}
use Prim.Native.Nat.{ℕ, ◌+◌, ◌*◌}
use native.Mathlib.Omega.{arith}
use Rattle.definitions.specs.Bitmap.{bit_of}
use Rattle.laws.specs.bitmaps.Adders.{bits_apart, one_apart, more_apart, fifteen_set}
use Rattle.mtb_align.proofs.ones.ones_of_fifteen.Goals.{After-ones_of-4}
use Rattle.mtb_align.proofs.ones.ones_of_fifteen.Goals as goal

-- what the words add up to at bit i
added : (c : After-ones_of-4) (i : ℕ) →
    let x = c.args in
    8 * bit_of c.carry_save-fours.result.twos i + 4 * bit_of c.carry_save-fours.result.ones i + 2 * bit_of c.carry_save-twos.result.ones i
    + bit_of c.carry_save-ones.result.ones i
    ≡ bits_apart 15 x.words.now x.at x.step i
added c i =
    let c = c in
    let x = c.args in
    let words = x.words.now in
    omega (
      arith,
      c.carry_save-fours.ensures i,
      c.carry_save-twos.ensures i,
      c.carry_save-ones.ensures i,
      c.add_apart-b.ensures i,
      c.add_apart-a.ensures i,
      more_apart 7 7 words x.at x.step i,
      more_apart 14 1 words x.at x.step i,
      one_apart words (x.at + 14 * x.step) x.step i,
    )

pub returns : goal.returns
returns c =
    let x = c.args in
    let words = x.words.now in
    let e = fifteen_set words x.at x.step _ _ _ _ (λ i. added (goal.at.returns c).After-ones_of-4 i) in
    (omega (arith, e, c.ones_of.ensures.0, c.ones_of-2.ensures.0, c.ones_of-3.ensures.0, c.ones_of-4.ensures.0), omega arith)
