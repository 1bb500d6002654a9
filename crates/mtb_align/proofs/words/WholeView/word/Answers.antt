use mathlib.Core.Path.{sym}
use Prim.Native.Nat.{◌+◌}
use lib.ListN.{get_or}
use Rattle.laws.specs.bitmaps.Joints.{spanned, shows}
use Rattle.laws.specs.bitmaps.Moved.{funnel_none}
use Rattle.mtb_align.proofs.words.WholeView.word.Goals as goal

pub returns : goal.returns
returns c =
    let m = c.args in
    let from = c.args.from in
    let st = m.st.now in
    let se = m.se.now in
    shows (spanned 0) m.rt.now m.re.now st se c.args.at from (get_or st from 0) (get_or se from 0)
    (sym (funnel_none (get_or st from 0) (get_or st (from + 1) 0))) (sym (funnel_none (get_or se from 0) (get_or se (from + 1) 0)))
