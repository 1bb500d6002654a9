-- Where all entries of a percentile list are the same, the answers are those of the stack at that one percentile, as the Rust has it.
-- More generally, they hang on the percentiles of the frames and on nothing past them.
use Rattle.std.specs.Prelude.{◌≡◌, refl, ℕ, zero, suc, ◌+◌, ◌-◌, ◌*◌, ◌<◌, ◌≤◌, ltb, eqb, length, get_or, drop}
use Rattle.std.proofs.Common.{sym, ◌∙◌, ⊎_elim, le_refl, lt_of_lt_of_le, arith}
use Rattle.std.proofs.Math.Path.{ap, ap₂, fun_ext}
use Rattle.std.proofs.Math.Bool.{cond}
use mathlib.Core.List.{List, [], map}
use Rattle.std.proofs.Math.Nat.{le-suc}
use Rattle.std.proofs.Math.ListN.{take}
use Rattle.definitions.specs.Geometry.{Shift, offset, common_crop}
use Rattle.definitions.specs.Difference.{Counts}
use Rattle.definitions.specs.Align.{Options, Exposure, Stack, stack_cut_at, stack_of, stack_at_one, exposure, neighbour, counts_at, step, step_of, shift_sum, shift_of, shifts}
use Rattle.definitions.specs.Report.{Terms, survey, frame_counts, limit_of, rivals, frame_records, records, records_needed, verdict, verdicts, report_crop}
use Rattle.laws.specs.general.Cases.{lt_or_le}
use Rattle.laws.specs.general.Lists.{build_same, joined_same}
use Rattle.laws.specs.report.Records.{records_number}
use Rattle.laws.specs.search.StepBounds.{shift_down, shift_up}
use Rattle.laws.specs.search.Walk.{neighbour_among}

-- Two stacks have the same shifts and crop, and at all terms the same records and verdicts, so that as many records are needed.
pub record SameAnswers (a b : Stack) : Type 0 where
  pub moved : shifts a ≡ shifts b
  pub named : (q : Terms) → records a q ≡ records b q
  pub needed : (q : Terms) → records_needed a q ≡ records_needed b q
  pub judged : (q : Terms) → verdicts a q ≡ verdicts b q
  pub cropped : report_crop a ≡ report_crop b

sum_same : (n : ℕ) (f g : ℕ → Shift) → ((i : ℕ) → i < n → f i ≡ g i) → shift_sum n f ≡ shift_sum n g
unfolding shift_sum
sum_same zero f g h = refl
sum_same (suc n) f g h = ap₂ offset (sum_same n f g (λ i l. h i (lt_of_lt_of_le l (le-suc n)))) (h n (le_refl (suc n)))

module _ (f g : ℕ → ℕ) (widths heights samples : List ℕ) (reference : ℕ) (o : Options) (among : reference < length widths)
    (same : (k : ℕ) → k < length widths → f k ≡ g k) where
  abbrev a : Stack
  a = stack_cut_at f widths heights samples reference o

  abbrev b : Stack
  b = stack_cut_at g widths heights samples reference o

  exposure_same : (k : ℕ) → k < length widths → exposure a k ≡ exposure b k
  unfolding exposure
  exposure_same k h =
      let n = a.width * a.height in
      ap (λ (p : ℕ). record { samples = take n (drop (k * n) samples); percentile = p }) (same k h)

  -- what is made of a frame and its neighbour
  both_same : {A : Type 0} (make : Exposure → Exposure → A) (k : ℕ) → k < length widths
      → make (exposure a (neighbour reference k)) (exposure a k) ≡ make (exposure b (neighbour reference k)) (exposure b k)
  both_same make k h = ap₂ make (exposure_same (neighbour reference k) (neighbour_among reference k (length widths) among h)) (exposure_same k h)

  step_same : (k : ℕ) → k < length widths → step_of a k ≡ step_of b k
  unfolding step_of
  step_same k h = both_same (step o a.width a.height) k h

  counts_same : (k : ℕ) → k < length widths → frame_counts a k ≡ frame_counts b k
  unfolding frame_counts
  counts_same k h = fun_ext (λ (s : Shift). both_same (λ (r t : Exposure). counts_at o a.width a.height r t 0 s) k h)

  shift_same : (k : ℕ) → k < length widths → shift_of a k ≡ shift_of b k
  shift_same k h = ⊎_elim
      (λ (l : reference < k). shift_up a k l ∙ sum_same (k - reference) _ _ (λ i m. step_same (reference + suc i) (omega arith)) ∙ sym (shift_up b k l))
      (λ (l : k ≤ reference). shift_down a k l ∙ sum_same (reference - k) _ _ (λ i m. step_same (reference - suc i) (omega (arith, among))) ∙ sym (shift_down b k l))
      (lt_or_le reference k)

  shifts_same : shifts a ≡ shifts b
  unfolding shifts
  shifts_same = build_same (length widths) (shift_of a) (shift_of b) shift_same

  module _ (q : Terms) where
    rivals_same : (k : ℕ) → k < length widths → rivals a q k ≡ rivals b q k
    unfolding rivals limit_of
    rivals_same k h =
        ap₂
        (λ (at : Shift → Counts) (s : Shift).
        cond (eqb k reference) [] (survey at (record { centre = s; reach = q.reach; floor = q.floor; limit = (at s).disagreeing + q.margin })))
        (counts_same k h) (step_same k h)

    frame_records_same : (k : ℕ) → k < length widths → frame_records a q k ≡ frame_records b q k
    unfolding frame_records
    frame_records_same k h =
        ap₂
        (λ (at : Shift → Counts) (l : List Shift). map (λ (s : Shift). record { frame = k; shift = s; counts = at s }) l)
        (counts_same k h) (rivals_same k h)

    verdict_same : (k : ℕ) → k < length widths → verdict a q k ≡ verdict b q k
    unfolding verdict
    verdict_same k h =
        ap₂
        (λ (compared : ℕ) (l : List Shift). cond (eqb k reference) 0 (cond (ltb compared q.floor) 1 (cond (eqb (length l) 1) 2 3)))
        (ap₂ (λ (at : Shift → Counts) (s : Shift). (at s).compared) (counts_same k h) (step_same k h)) (rivals_same k h)

    records_same : records a q ≡ records b q
    unfolding records
    records_same = joined_same (length widths) (frame_records a q) (frame_records b q) frame_records_same

    verdicts_same : verdicts a q ≡ verdicts b q
    unfolding verdicts
    verdicts_same = build_same (length widths) (verdict a q) (verdict b q) verdict_same

  crop_same : report_crop a ≡ report_crop b
  unfolding report_crop
  crop_same = ap (λ (l : List Shift). common_crop l a.width a.height) shifts_same

  -- percentiles that agree on the frames give the same answers
  pub same_answers : SameAnswers a b
  same_answers = record {
    moved = shifts_same;
    named = records_same;
    needed = λ q. sym (records_number a q) ∙ ap length (records_same q) ∙ records_number b q;
    judged = verdicts_same;
    cropped = crop_same;
  }

-- with all entries equal, those of the stack at one percentile
pub equal_stack : (widths heights percentiles samples : List ℕ) (reference : ℕ) (o : Options) (p : ℕ) → reference < length widths
    → ((k : ℕ) → k < length widths → get_or percentiles k 0 ≡ p)
    → SameAnswers (stack_of widths heights percentiles samples reference o) (stack_at_one widths heights p samples reference o)
unfolding stack_of stack_at_one
equal_stack widths heights percentiles samples reference o p among all =
    same_answers (λ (k : ℕ). get_or percentiles k 0) (λ (k : ℕ). p) widths heights samples reference o among all
