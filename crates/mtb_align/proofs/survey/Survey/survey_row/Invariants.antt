-- The first i columns are surveyed.
use Rattle.laws.specs.report.Kept.{Kept, records_of}
use Rattle.laws.specs.report.Surveys.{rivals_up_to}
use Rattle.mtb_align.specs.Packed.{counts_of}
use Rattle.mtb_align.specs.Survey.{question_in}
use Rattle.mtb_align.proofs.survey.Survey.survey_row.Given as goal

abbrev pub invariant-loop-i : goal.invariant-loop-i
invariant-loop-i l =
    let at = counts_of l.self.packed in
    Kept l.initial.space l.number (records_of at l.self.frame (rivals_up_to at (question_in l.self.question) l.j l.i)) l.space l.next
