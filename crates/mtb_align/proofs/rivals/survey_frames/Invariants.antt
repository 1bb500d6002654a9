-- The first k frames are surveyed.
use mathlib.Core.Path.{◌≡◌}
use Prim.Native.Nat.{◌≤◌}
use lib.Seq.{sets}
use lib.ListN.{length}
use Rattle.definitions.specs.Build.{build, joined}
use Rattle.definitions.specs.Align.{stack_words}
use Rattle.definitions.specs.Refusals.{FreeUpTo}
use Rattle.definitions.specs.Report.{frame_records, verdict}
use Rattle.laws.specs.report.Kept.{Kept}
use Rattle.mtb_align.specs.Stack.{stack_in}
use Rattle.mtb_align.specs.Survey.{terms_in}
use Rattle.mtb_align.proofs.rivals.survey_frames.Given as goal

abbrev pub invariant-loop-k : goal.invariant-loop-k
invariant-loop-k l =
    let a = stack_in l.walked.asked.stack in
    let q = terms_in l.walked.asked.terms in
    (l.k ≤ length l.walked.asked.stack.percentiles.now)
    × Kept l.initial.space 0 (joined l.k (frame_records a q)) l.space l.number
    × (l.judged ≡ sets l.initial.judged 0 (build l.k (verdict a q)))
    × FreeUpTo (stack_words a) l.initial.words l.words
