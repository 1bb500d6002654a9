use mathlib.Core.Path.{◌≡◌, sym, ap, ◌∙◌}
use mathlib.Core.List.{List, ◌++◌}
use Prim.Native.Nat.{ℕ, ◌*◌}
use native.Mathlib.Omega.{arith}
use lib.ListN.{length, drop}
use lib.Seq.{sets}
use Rattle.definitions.specs.Align.{Stack}
use Rattle.definitions.specs.Report.{Terms, verdicts, records, records_bytes}
use Rattle.laws.specs.report.Kept.{keeps_all}
use Rattle.laws.specs.general.Lists.{build_length}
use Rattle.laws.specs.report.Records.{records_number, report_bytes}
use Rattle.laws.specs.general.Writes.{sets_front, sets_whole}
use Rattle.mtb_align.specs.Stack.{stack_in}
use Rattle.mtb_align.specs.Survey.{terms_in}
use Rattle.mtb_align.proofs.report.put_found.Goals as goal

-- the verdicts are as many as the list holds
whole : (a : Stack) (q : Terms) (old : List ℕ) → length old ≡ a.frames → sets old 0 (verdicts a q) ≡ verdicts a q
unfolding verdicts
whole a q old e = sets_whole old (verdicts a q) (build_length _ _ ∙ sym e)

pub returns-then-bytes-kept-clause-records_after : goal.returns-then-bytes-kept-clause-records_after
returns-then-bytes-kept-clause-records_after c =
    let a = c.args in
    let stack = stack_in a.walked.now.asked.stack in
    let q = terms_in a.walked.now.asked.terms in
    let f = c.requires.found in
    let moved = c.copy_from_slice-then-bytes-kept.ensures.after ∙ f.bytes c.if-bytes-kept.true in
    let long : length (records_bytes (records stack q)) ≡ 20 * a.needed = report_bytes stack q ∙ ap (λ (n : ℕ). 20 * n) (sym f.number) in
    ap (λ (l : List ℕ). l ++ drop (20 * a.needed) a.records.now) moved
    ∙ ap (λ (n : ℕ). records_bytes (records stack q) ++ drop n a.records.now) (sym long)
    ∙ sym (sets_front a.records.now (records_bytes (records stack q)) (omega (arith, long, c.requires.verdicts_len.1)))

pub returns-clause-verdicts_after : goal.returns-clause-verdicts_after
returns-clause-verdicts_after c =
    let a = c.args in
    c.survey_frames.ensures.judged_after
    ∙ whole (stack_in a.walked.now.asked.stack) (terms_in a.walked.now.asked.terms) a.verdicts.now c.requires.verdicts_len.0

pub returns-clause-records_after : goal.returns-clause-records_after
returns-clause-records_after c =
    let a = c.args in
    let number = records_number (stack_in a.walked.now.asked.stack) (terms_in a.walked.now.asked.terms) in
    keeps_all c.survey_frames.ensures.kept (omega (arith, c.requires.verdicts_len.1, c.requires.found.number, number))
