use mathlib.Core.Path.{◌≡◌, sym, ap, ◌∙◌}
use mathlib.Core.Bool.{cond}
use mathlib.Core.List.{List, ◌++◌}
use native.Mathlib.Omega.{arith}
use lib.Dec.{eqb}
use Prim.Native.Nat.{ℕ}
use lib.ListN.{length, replicate, length-replicate}
use Rattle.definitions.specs.Build.{joined}
use Rattle.definitions.specs.Geometry.{Rect, listed}
use Rattle.definitions.specs.Align.{Options, Stack, shifts}
use Rattle.definitions.specs.Report.{Terms, verdicts}
use Rattle.mtb_align.specs.Search.{options_in}
use Rattle.mtb_align.specs.Survey.{Reported, reported_in, terms_in}
use Rattle.mtb_align.specs.Answers as answers
use Rattle.steps.specs.Text.{heading, refusal_text, input_stack, input_terms}
use Rattle.steps.proofs.Called.{Call, answered, turned_down, summary_text, left, input_stack_lem, few_needed, text_none}
use Rattle.steps.proofs.Puts.{put_as}
use Rattle.steps.proofs.put_answer.Goals.{After-report-answer}
use Rattle.steps.proofs.put_answer.Goals as goal

-- the call of the report
called : (c : After-report-answer) →
    let a = c.args in
    let o = c.options.result in
    let t = c.terms.result in
    Call (length a.widths.now) a.samples.now a.widths.now a.heights.now a.percentiles.now o.bits (length a.shifts.now) (length a.verdicts.now) t.reach
    (options_in o) (terms_in t)
called c =
    let p = c.requires in
    let o = c.options.ensures in
    let t = c.terms.ensures in
    record {
      most = p.widths_len_bound.0;
      wide = p.widths_len_bound.1;
      high = p.widths_len_bound.2 ∙ p.widths_len_bound.1;
      whole = p.samples_len.0;
      list = p.samples_len.1;
      judged = p.samples_len.2;
      cut = p.percentiles_value;
      deep = ap (λ (x : Options). x.bits) o;
      near = ap (λ (x : Terms). x.reach) t;
      options = o;
      terms = t;
    }

-- what it leaves in the two lists
lists : (c : After-report-answer) →
    let a = c.args in
    let old = eqb (length a.widths.now) 0 in
    (c.report-answer.new.shifts ≡ cond old a.shifts.now (listed (shifts (input_stack a.samples.now))))
    × (c.report-answer.new.verdicts ≡ cond old a.verdicts.now (verdicts (input_stack a.samples.now) input_terms))
lists c =
    let a = c.args in
    let old = eqb (length a.widths.now) 0 in
    let f = c.report-answer.ensures in
    let s = input_stack_lem (called c) in (
      f.written.placed ∙ left (called c) _ _ ∙ ap (λ (x : Stack). cond old a.shifts.now (listed (shifts x))) s,
      f.written.judged ∙ left (called c) _ _ ∙ (λ i. cond old a.verdicts.now (verdicts (s i) ((called c).terms i))),
    )

-- the text of as many frames
counted : (r : Rect) (frame : ℕ → List ℕ) {m n : ℕ} → m ≡ n → heading m r ++ joined m frame ≡ heading n r ++ joined n frame
counted r frame e = ap (λ (n : ℕ). heading n r ++ joined n frame) e

pub put_summary-requires : goal.put_summary-requires
put_summary-requires c =
    let p = c.requires in
    let e = answered (called (goal.at.put_summary-requires c).After-report-answer) (ap (answers.answered reported_in) (sym c.in-Ok.is) ∙ c.report-answer.ensures.written.answered) in (
      omega (arith, ap (λ (x : Reported). x.records) e.1, few_needed (called (goal.at.put_summary-requires c).After-report-answer) e.0, c.report-answer.auto.records, length-replicate {A = ℕ} 140 0),
      omega (arith, c.report-answer.auto.shifts, c.report-answer.auto.verdicts, p.samples_len.1, p.samples_len.2),
    )

pub returns-in-Ok : goal.returns-in-Ok
returns-in-Ok c =
    let a = c.args in
    let f = c.report-answer.ensures in
    let e = answered (called (goal.at.returns-in-Ok c).After-report-answer) (ap (answers.answered reported_in) (sym c.in-Ok.is) ∙ f.written.answered) in
    let l = lists (goal.at.returns-in-Ok c).After-report-answer in
    let judged : length c.report-answer.new.verdicts ≡ length a.widths.now = c.report-answer.auto.verdicts ∙ c.requires.samples_len.2 in
    record {
      text = put_as c.put_summary.ensures
          (counted _ _ judged
          ∙ summary_text (called (goal.at.returns-in-Ok c).After-report-answer) e.0 a.shifts.now a.verdicts.now (replicate 140 0) (ap (λ (x : Reported). x.crop) e.1)
          (ap (λ (x : Reported). x.records) e.1)
          f.written.placed f.written.judged f.written.recorded);
      shifts = l.0;
      verdicts = l.1;
    }

pub returns-in-Err : goal.returns-in-Err
returns-in-Err c =
    let a = c.args in
    let e = turned_down (called (goal.at.returns-in-Err c).After-report-answer) _ (ap (answers.answered reported_in) (sym c.in-Err.is) ∙ c.report-answer.ensures.written.answered) in
    let l = lists (goal.at.returns-in-Err c).After-report-answer in
    record {
      text = put_as c.put_refusal.ensures
          (ap refusal_text (c.number.ensures ∙ e.1) ∙ text_none a.samples.now (length a.widths.now) (called (goal.at.returns-in-Err c).After-report-answer).whole
          (called (goal.at.returns-in-Err c).After-report-answer).most e.0);
      shifts = l.0;
      verdicts = l.1;
    }
