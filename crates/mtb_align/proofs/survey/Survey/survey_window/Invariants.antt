-- The first j rows are surveyed.
use Rattle.definitions.specs.Build.{joined}
use Rattle.laws.specs.report.Kept.{Kept, records_of}
use Rattle.laws.specs.report.Surveys.{row_rivals}
use Rattle.mtb_align.specs.Packed.{counts_of}
use Rattle.mtb_align.specs.Survey.{question_in}
use Rattle.mtb_align.proofs.survey.Survey.survey_window.Given as goal

abbrev pub invariant-loop-j : goal.invariant-loop-j
invariant-loop-j l =
    let at = counts_of l.self.packed in
    Kept l.initial.space l.number (records_of at l.self.frame (joined l.j (row_rivals at (question_in l.self.question)))) l.space l.next
