use mathlib.Core.Path.{◌∙◌}
use native.Mathlib.Omega.{arith}
use Rattle.mtb_align.proofs.Two.{joined_low, joined_high}
use Rattle.mtb_align.proofs.bitmap.pack_word.Goals as goal

pub returns : goal.returns
returns c =
    let x = c.args in
    let s = x.samples.now in
    let h = c.pack_half-a in
    let k = c.pack_half-b in (
      c.join_halves.ensures.0 ∙ joined_low s x.table.cut x.table.tolerance x.from 32 h.result k.result (omega arith) h.ensures k.ensures,
      c.join_halves.ensures.1 ∙ joined_high s x.table.cut x.table.tolerance x.from 32 h.result k.result (omega arith) h.ensures k.ensures,
    )
