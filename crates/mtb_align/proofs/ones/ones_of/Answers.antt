use mathlib.Core.Path.{◌∙◌}
use native.Mathlib.Omega.{arith}
use lib.Count.{ones-le}
use Rattle.laws.specs.bitmaps.Bits.{ones_sum}
use Rattle.mtb_align.proofs.ones.ones_of.Goals as goal

pub returns : goal.returns
returns c =
    let word = c.args.word in
    (c.from.ensures ∙ ones_sum 64 word (omega arith), omega (arith, c.from.ensures, ones-le 64 word (omega arith)))
