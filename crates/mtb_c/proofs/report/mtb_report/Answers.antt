use mathlib.Core.Path.{sym, ap, ◌∙◌}
use Rattle.mtb_align.specs.Survey.{Reported, reported_in}
use Rattle.mtb_align.specs.Answers.{answered}
use Rattle.mtb_c.specs.Status.{status_of}
use Rattle.mtb_c.proofs.Slots.{stored, values_kept, kept, values_told}
use Rattle.mtb_c.proofs.report.mtb_report.Goals as goal

pub returns-in-Ok : goal.returns-in-Ok
returns-in-Ok c =
    let m = c.mode.ensures in
    let p = rw m at c.report.ensures in
    let e = sym (ap (answered reported_in) c.in-Ok.is) ∙ p.written.answered in (
      record {
        written = record { answered = ap status_of e; placed = p.written.placed; judged = p.written.judged; recorded = p.written.recorded };
        pixels = p.pixels;
        maps = p.maps;
      },
      stored _ _ e (λ (k : Reported). k.crop.x) _,
      stored _ _ e (λ (k : Reported). k.crop.y) _,
      stored _ _ e (λ (k : Reported). k.crop.width) _,
      stored _ _ e (λ (k : Reported). k.crop.height) _,
      stored _ _ e (λ (k : Reported). k.records) _,
      values_kept _ _ e _,
    )

pub returns-in-Err : goal.returns-in-Err
returns-in-Err c =
    let m = c.mode.ensures in
    let p = rw m at c.report.ensures in
    let e = sym (ap (answered reported_in) c.in-Err.is) ∙ p.written.answered in (
      record {
        written = record { answered = c.number.ensures ∙ ap status_of e; placed = p.written.placed; judged = p.written.judged; recorded = p.written.recorded };
        pixels = p.pixels;
        maps = p.maps;
      },
      kept _ _ e _ _,
      kept _ _ e _ _,
      kept _ _ e _ _,
      kept _ _ e _ _,
      kept _ _ e _ _,
      values_told _ _ e _ c.put_values.ensures,
    )
