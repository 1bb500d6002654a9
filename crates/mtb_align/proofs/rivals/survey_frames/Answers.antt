use mathlib.Core.Path.{◌≡◌, refl, sym, ap, ◌∙◌}
use Prim.Native.Nat.{ℕ, ◌≤◌}
use native.Mathlib.Nat.{zero-add}
use native.Mathlib.Omega.{arith}
use lib.ListN.{length, set}
use lib.Seq.{sets, length-sets}
use Rattle.definitions.specs.Build.{build, joined}
use Rattle.definitions.specs.Align.{Stack}
use Rattle.definitions.specs.Report.{Terms, frame_records, records, verdict, verdicts}
use Rattle.laws.specs.search.Free.{free_then}
use Rattle.laws.specs.report.Kept.{keeps_same, keeps_joined_none, keeps_joined_more}
use Rattle.laws.specs.search.Free.{free_same}
use Rattle.laws.specs.report.Surveys.{frames_few}
use Rattle.laws.specs.general.Writes.{store_none, store_more}
use Rattle.mtb_align.specs.Stack.{stack_in}
use Rattle.mtb_align.specs.Survey.{terms_in}
use Rattle.mtb_align.proofs.rivals.survey_frames.Goals.{At-loop-k}
use Rattle.mtb_align.proofs.rivals.survey_frames.Goals as goal

-- ---- at the loop

module _ (c : At-loop-k) where
  abbrev stack : Stack
  stack = stack_in c.args.walked.now.asked.stack

  abbrev terms : Terms
  terms = terms_in c.args.walked.now.asked.terms

  judged_long : length c.loop-k.judged ≡ length c.args.judged.now
  judged_long = ap length c.loop-k.invariant.2 ∙ length-sets c.args.judged.now 0 (build c.loop-k.k (verdict stack terms))

  -- the records so far are few
  few : c.loop-k.number ≤ 300000
  few =
      let i = c.loop-k.invariant in
      omega (arith, frames_few stack terms c.loop-k.k c.args.walked.now.asked.near (omega (arith, i.0, c.args.walked.now.asked.stack.few)), i.1.ends)

pub loop-k-init : goal.loop-k-init
loop-k-init c = (omega arith, keeps_joined_none _ _, store_none _ _ _, free_same _ _)

pub survey_frame-number-requires-clause-room : goal.survey_frame-number-requires-clause-room
survey_frame-number-requires-clause-room c =
    (omega (arith, c.requires.room, c.loop-k.invariant.3.long), c.loop-k-test.true, few (goal.at.survey_frame-number-requires-clause-room c).At-loop-k)

pub loop-k-preserved : goal.loop-k-preserved
loop-k-preserved c =
    let s = (goal.at.loop-k-preserved c).At-loop-k in
    let f = verdict (stack s) (terms s) in
    let i = c.loop-k.invariant in
    let k = c.loop-k.k in
    let e = c.survey_frame-number.ensures in (
      omega (arith, c.loop-k-test.true),
      keeps_joined_more _ _ _ i.1 e.kept,
      e.judged_after ∙ sym (ap (λ (j : ℕ). set c.loop-k.judged j (f k)) (zero-add k)) ∙ store_more _ _ _ f i.2 refl,
      free_then i.3 e.free_up_to,
    )

-- all are
ended : (c : At-loop-k) → length c.args.walked.now.asked.stack.percentiles.now ≤ c.loop-k.k → c.loop-k.k ≡ length c.args.walked.now.asked.stack.percentiles.now
ended c h = omega (arith, c.loop-k.invariant.0, h)

pub returns-clause-kept : goal.returns-clause-kept
unfolding records
returns-clause-kept c =
    let s = (goal.at.returns-clause-kept c).At-loop-k in
    keeps_same (ap (λ (n : ℕ). joined n (frame_records (stack s) (terms s))) (ended s c.loop-k-test.false)) c.loop-k.invariant.1

pub returns-clause-judged_after : goal.returns-clause-judged_after
unfolding verdicts
returns-clause-judged_after c =
    let s = (goal.at.returns-clause-judged_after c).At-loop-k in
    c.loop-k.invariant.2 ∙ ap (λ (n : ℕ). sets c.args.judged.now 0 (build n (verdict (stack s) (terms s)))) (ended s c.loop-k-test.false)
