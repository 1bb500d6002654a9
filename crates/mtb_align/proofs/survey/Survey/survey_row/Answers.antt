use Prim.Native.Nat.{◌≤◌}
use native.Mathlib.Omega.{arith}
use Rattle.laws.specs.report.Kept.{records_of_length, column_none, column_more, column_all}
use Rattle.laws.specs.report.Surveys.{rivals_up_to, column_few}
use Rattle.mtb_align.specs.Packed.{counts_of}
use Rattle.mtb_align.specs.Survey.{question_in}
use Rattle.mtb_align.proofs.survey.Survey.survey_row.Goals.{At-loop-i}
use Rattle.mtb_align.proofs.survey.Survey.survey_row.Goals as goal

-- the records so far are few
few : (c : At-loop-i) → c.loop-i.next ≤ 1000000
few c =
    let a = c.args in
    let at = counts_of a.self.now.packed in
    let u = question_in a.self.now.question in
    let l = c.loop-i in
    omega (
      arith,
      l.invariant.ends,
      records_of_length at a.self.now.frame (rivals_up_to at u a.j l.i),
      column_few at u a.j l.i,
      c.args.self.now.question.short,
      c.requires.1,
    )

pub loop-i-init : goal.loop-i-init
loop-i-init c = column_none _ _ _ _

pub survey_shift-after-requires : goal.survey_shift-after-requires
survey_shift-after-requires c = few (goal.at.survey_shift-after-requires c).At-loop-i

pub loop-i-preserved : goal.loop-i-preserved
loop-i-preserved c = column_more _ _ _ _ _ _ c.shift_at-shift.ensures c.loop-i.invariant c.survey_shift-after.ensures

pub returns : goal.returns
returns c = column_all _ _ _ _ (omega arith) c.loop-i.invariant
