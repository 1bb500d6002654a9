use mathlib.Core.Path.{◌≡◌, sym, ap}
use mathlib.Core.List.{List}
use Prim.Native.Nat.{ℕ, ◌≤◌}
use native.Mathlib.Omega.{arith}
use lib.ListN.{length}
use lib.Seq.{sets, length-sets}
use Rattle.definitions.specs.Align.{Stack}
use Rattle.definitions.specs.Report.{Terms, records, verdicts}
use Rattle.laws.specs.report.Kept.{Kept, keeps_front}
use Rattle.laws.specs.general.Lists.{build_length}
use Rattle.laws.specs.report.Records.{records_number}
use Rattle.laws.specs.general.Writes.{stored_front}
use Rattle.mtb_align.specs.Stack.{stack_in}
use Rattle.mtb_align.specs.Survey.{terms_in, Found}
use Rattle.mtb_align.proofs.Walked.{placed_of}
use Rattle.mtb_align.proofs.report.report_within.Goals as goal

-- what a survey leaves in the lists is what it found
found : (a : Stack) (q : Terms) (old space : List ℕ) {judged kept : List ℕ} {needed : ℕ} → a.frames ≤ length old
    → judged ≡ sets old 0 (verdicts a q) → Kept space 0 (records a q) kept needed → Found a q judged kept needed
unfolding verdicts
found a q old space room e p =
    let all : length (verdicts a q) ≡ a.frames = build_length _ _ in
    record {
      long = omega (arith, room, ap length e, length-sets old 0 (verdicts a q));
      judgements = stored_front old (verdicts a q) (omega (arith, all, room)) e _ (sym all);
      number = omega (arith, p.ends, records_number a q);
      bytes = keeps_front p;
    }

pub invariant_of-walked : goal.invariant_of-walked
invariant_of-walked c =
    let a = c.args in
    record { placed = placed_of (stack_in a.asked.now.stack) a.placed.now c.requires.count_in_bounds.0 c.walk.ensures.shifts_after }

pub write_report-requires-clause-found : goal.write_report-requires-clause-found
write_report-requires-clause-found c =
    let a = c.args in
    let e = c.survey_frames-needed.ensures in
    found (stack_in a.asked.now.stack) (terms_in a.asked.now.terms) a.judged.now a.kept.now c.requires.count_in_bounds.1 e.judged_after e.kept
