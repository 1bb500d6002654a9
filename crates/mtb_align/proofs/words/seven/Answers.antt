use Rattle.mtb_align.proofs.Counting.{seven}
use Rattle.mtb_align.proofs.words.seven.Goals as goal

pub returns : goal.returns
returns g c =
    let x = c.args in
    let m = x in
    seven (g.V.View.shown x.view) m.rt.now m.re.now m.st.now m.se.now x.at x.from x.apart
    c.word-a.ensures c.word-b.ensures c.word-c.ensures c.word-d.ensures c.word-e.ensures c.word-f.ensures c.word-g.ensures
    c.ones_of_seven-2.ensures c.ones_of_seven.ensures
