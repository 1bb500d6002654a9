use mathlib.Core.Path.{◌∙◌}
use Rattle.laws.specs.bitmaps.Adders.{seven_apart}
use Rattle.mtb_align.proofs.ones.add_apart.Goals as goal

pub returns : goal.returns
returns c = λ i.
    let x = c.args in
    c.add_seven.ensures i ∙ seven_apart x.words.now x.at x.step i
