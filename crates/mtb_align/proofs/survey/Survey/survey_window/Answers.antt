use mathlib.Core.Path.{sym, ◌∙◌}
use Prim.Native.Nat.{suc, ◌*◌, ◌≤◌}
use native.Mathlib.Nat.{mul-le-mul}
use native.Mathlib.Omega.{arith}
use Rattle.definitions.specs.Build.{joined}
use Rattle.laws.specs.report.Kept.{records_of_length, shifts_none, row_none, row_more, row_all}
use Rattle.laws.specs.report.Surveys.{row_rivals, survey_nothing, rows_few}
use Rattle.mtb_align.specs.Packed.{counts_of}
use Rattle.mtb_align.specs.Survey.{question_in}
use Rattle.mtb_align.proofs.Surveyed.{none_reach}
use Rattle.mtb_align.proofs.survey.Survey.survey_window.Goals.{At-loop-j}
use Rattle.mtb_align.proofs.survey.Survey.survey_window.Goals as goal

-- the records so far are few
few : (c : At-loop-j) → c.loop-j.next ≤ 500000
few c =
    let a = c.args in
    let at = counts_of a.self.now.packed in
    let u = question_in a.self.now.question in
    let l = c.loop-j in
    let rows : l.j ≤ 129 = omega (arith, a.self.now.question.short) in
    let side : suc (2 * u.reach) ≤ 129 = omega (arith, a.self.now.question.short) in
    omega (
      arith,
      l.invariant.ends,
      records_of_length at a.self.now.frame (joined l.j (row_rivals at u)),
      rows_few at u l.j,
      mul-le-mul rows side,
      c.requires,
    )

pub returns-then-too_few : goal.returns-then-too_few
returns-then-too_few c =
    let a = c.args in
    let at = counts_of a.self.now.packed in
    let none = none_reach c.args.self.now.packed a.self.now.question.floor (sym c.too_few.ensures ∙ c.if-too_few.true) in
    shifts_none at a.self.now.frame (survey_nothing at (question_in a.self.now.question) none)

pub loop-j-init : goal.loop-j-init
loop-j-init c = row_none _ _ _

pub survey_row-next-requires : goal.survey_row-next-requires
survey_row-next-requires c = (omega arith, few (goal.at.survey_row-next-requires c).At-loop-j)

pub loop-j-preserved : goal.loop-j-preserved
loop-j-preserved c = row_more _ _ _ _ c.loop-j.invariant c.survey_row-next.ensures

pub returns : goal.returns
returns c = row_all _ _ _ (omega arith) c.loop-j.invariant
