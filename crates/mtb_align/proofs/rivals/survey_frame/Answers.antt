use mathlib.Core.Path.{◌≡◌, refl, sym, ap, ap₂, ◌∙◌}
use mathlib.Core.Bool.{cond}
use mathlib.Core.List.{List}
use Prim.Native.Nat.{ℕ, ◌<◌, ◌+◌, ◌-◌, ◌*◌, ◌≤◌}
use native.Mathlib.Omega.{arith}
use denote.Enum.Declared.{tag_of}
use lib.Dec.{ltb, eqb}
use lib.ListN.{length, take, set}
use Rattle.definitions.specs.Bitmap.{bitmap_words}
use Rattle.definitions.specs.Geometry.{Shift}
use Rattle.definitions.specs.Difference.{Counts}
use Rattle.definitions.specs.Align.{Stack, step_of, step_words, stack_words}
use Rattle.definitions.specs.Refusals.{FreeUpTo}
use Rattle.definitions.specs.Report.{Terms, survey, frame_counts, limit_of, rivals, frame_records, verdict}
use Rattle.laws.specs.bitmaps.Bitmaps.{words_of_rows}
use Rattle.laws.specs.report.Kept.{records_of, records_of_length, shifts_none, keeps_same}
use Rattle.laws.specs.report.Records.{rivals_none, rivals_survey}
use Rattle.laws.specs.report.Verdicts.{verdict_reference, verdict_other}
use Rattle.mtb_align.specs.Answers.{shift_in}
use Rattle.mtb_align.specs.Layout.{pair_counts}
use Rattle.mtb_align.specs.Stack.{stack_in}
use Rattle.mtb_align.specs.Survey.{terms_in, question_around, verdict_in}
use Rattle.mtb_align.specs.contracts.rivals.Verdict.{the_type}
use Rattle.mtb_align.specs.declared.rivals.Verdict.{Verdict}
use Rattle.mtb_align.specs.declared.rivals.Verdict.TheVariants.{Reference, Weak, Alone, Contested}
use Rattle.mtb_align.proofs.Four.{TwoPairs}
use Rattle.mtb_align.proofs.Surveyed.{two_frames, packed_pairs, packed_counts, packed_free, step_near}
use Rattle.mtb_align.proofs.Taken.{small, maps_fit}
use Rattle.mtb_align.proofs.rivals.survey_frame.Goals.{After-words_per_row}
use Rattle.mtb_align.proofs.rivals.survey_frame.Goals as goal

-- a frame's records name its rivals
named : (a : Stack) (q : Terms) (k : ℕ) → records_of (frame_counts a k) k (rivals a q k) ≡ frame_records a q k
unfolding frame_records records_of
named a q k = refl

-- a verdict is stored as its byte
stored_as : (v : Verdict) → tag_of the_type v ≡ verdict_in v
stored_as Reference = refl
stored_as Weak = refl
stored_as Alone = refl
stored_as Contested = refl

-- what is judged by its two numbers is the verdict on it
judged_as : (a : Stack) (q : Terms) (k : ℕ) → (k ≡ a.reference → ⊥) → {compared number v : ℕ} → compared ≡ (frame_counts a k (step_of a k)).compared
    → number ≡ length (rivals a q k) → v ≡ cond (ltb compared q.floor) 1 (cond (eqb number 1) 2 3) → v ≡ verdict a q k
judged_as a q k apart d e f =
    f ∙ ap₂ (λ (m n : ℕ). cond (ltb m q.floor) 1 (cond (eqb n 1) 2 3)) d e ∙ sym (verdict_other a q k apart)

-- what the survey of the two found
found : Terms → (Shift → Counts) → Shift → List Shift
found q f t = survey f (question_around f t q)

-- ---- the reference

pub returns-then-k-stack-clause-kept : goal.returns-then-k-stack-clause-kept
returns-then-k-stack-clause-kept c =
    let a = stack_in c.args.walked.now.asked.stack in
    let q = terms_in c.args.walked.now.asked.terms in
    let k = c.args.k in
    keeps_same (named a q k) (shifts_none (frame_counts a k) k (rivals_none a q k c.if-k-stack.true))

pub returns-then-k-stack-clause-judged_after : goal.returns-then-k-stack-clause-judged_after
returns-then-k-stack-clause-judged_after c =
    let a = stack_in c.args.walked.now.asked.stack in
    let q = terms_in c.args.walked.now.asked.terms in
    ap (set c.args.judged.now c.args.k) (sym (ap (verdict a q) c.if-k-stack.true ∙ verdict_reference a q))

-- ---- another frame, once it and its neighbour are packed

module _ (c : After-words_per_row) where
  abbrev stack : Stack
  stack = stack_in c.args.walked.now.asked.stack

  abbrev terms : Terms
  terms = terms_in c.args.walked.now.asked.terms

  abbrev k : ℕ
  k = c.args.k

  abbrev apart : k ≡ c.args.walked.now.asked.stack.reference → ⊥
  apart = c.if-k-stack.false

  abbrev w : ℕ
  w = c.args.walked.now.asked.stack.width

  abbrev h : ℕ
  h = c.args.walked.now.asked.stack.height

  two : 1 < length c.args.walked.now.asked.stack.percentiles.now
  two = two_frames apart c.args.walked.now.asked.stack.inside c.requires.room.1

  -- the words of a bitmap
  size : let n = h * c.words_per_row.result in (n ≡ bitmap_words w h) × (n ≤ 1048576)
  size = words_of_rows w h c.args.walked.now.asked.stack.wide c.args.walked.now.asked.stack.high c.words_per_row.ensures

  -- all words, how many of them are handed on, and those
  abbrev words : List ℕ
  words = c.sight-step.new.words

  abbrev end : ℕ
  end = 4 * (h * c.words_per_row.result) - 0

  end_is : end ≡ 4 * bitmap_words w h
  end_is = omega (arith, size.0)

  abbrev at : Shift → Counts
  at = pair_counts (take end words) w h

  abbrev step : Shift
  step = shift_in c.sight-step.result

  step_is : step ≡ step_of stack k
  step_is = c.sight-step.ensures.result_value

  pairs : TwoPairs (take end words) w h
  pairs = packed_pairs c.args.walked.now.asked.stack c.args.words.now c.requires.room.0 two k c.sight-step.ensures.words_after end end_is

  counts : at ≡ frame_counts stack k
  counts = packed_counts c.args.walked.now.asked.stack c.args.words.now c.requires.room.0 two k c.sight-step.ensures.words_after end end_is

  free : FreeUpTo (stack_words stack) c.args.words.now words
  free = packed_free c.args.walked.now.asked.stack c.args.words.now c.requires.room.0 two k c.sight-step.ensures.words_after

  end_fits : end ≤ length words
  unfolding step_words
  end_fits = omega (arith, end_is, maps_fit c.args.walked.now.asked.stack c.requires.room.0 two, free.long)

  found_is : found terms at step ≡ rivals stack terms k
  unfolding found limit_of
  found_is = ap₂ (found terms) counts step_is ∙ sym (rivals_survey stack terms k apart)

  records_are : records_of at k (found terms at step) ≡ frame_records stack terms k
  records_are = ap₂ (λ (f : Shift → Counts) (l : List Shift). records_of f k l) counts found_is ∙ named stack terms k

pub overflow_mul-end : goal.overflow_mul-end
overflow_mul-end c = record { fits = omega (arith, (size (goal.at.overflow_mul-end c).After-words_per_row).1) }

pub overflow_mul-end-2 : goal.overflow_mul-end-2
overflow_mul-end-2 c = record { fits = omega (arith, (size (goal.at.overflow_mul-end-2 c).After-words_per_row).1) }

pub slice_bounds-packed-end : goal.slice_bounds-packed-end
slice_bounds-packed-end c = omega (arith, end_fits (goal.at.slice_bounds-packed-end c).After-words_per_row)

pub invariant_of-packed : goal.invariant_of-packed
invariant_of-packed c =
    let q = pairs (goal.at.invariant_of-packed c).After-words_per_row in
    record {
      wide = q.wide;
      high = q.high;
      long = q.long;
      reference_threshold = q.reference_threshold;
      reference_exclusion = q.reference_exclusion;
      target_threshold = q.target_threshold;
      target_exclusion = q.target_exclusion;
    }

pub survey_around-surveyed-requires : goal.survey_around-surveyed-requires
survey_around-surveyed-requires c =
    let w = (goal.at.survey_around-surveyed-requires c).After-words_per_row in
    let p = c.requires.room in
    (step_near (stack w) (small c.args.walked.now.asked.stack) (k w) (step_is w), c.args.walked.now.asked.near, p.2)

pub returns-clause-kept : goal.returns-clause-kept
unfolding found
returns-clause-kept c =
    keeps_same (records_are (goal.at.returns-clause-kept c).After-words_per_row) c.survey_around-surveyed.ensures.1

pub returns-clause-judged_after : goal.returns-clause-judged_after
unfolding found
returns-clause-judged_after c =
    let w = (goal.at.returns-clause-judged_after c).After-words_per_row in
    let r = c.survey_around-surveyed in
    let all = rivals (stack w) (terms w) (k w) in
    -- how many records the survey added
    let added : r.result.number ≡ c.args.number + length (found (terms w) (at w) (step w)) =
    r.ensures.1.ends ∙ ap (λ (m : ℕ). c.args.number + m) (records_of_length (at w) (k w) _) in
    let number : r.result.number - c.args.number ≡ length all = omega (arith, added, ap length (found_is w)) in
    let compared = r.ensures.0 ∙ ap₂ (λ (f : Shift → Counts) (t : Shift). (f t).compared) (counts w) (step_is w) in
    ap (set c.args.judged.now (k w)) (judged_as (stack w) (terms w) (k w) (apart w) compared number (stored_as c.verdict_of.result ∙ c.verdict_of.ensures))

pub returns-clause-free_up_to : goal.returns-clause-free_up_to
returns-clause-free_up_to c = free (goal.at.returns-clause-free_up_to c).After-words_per_row
