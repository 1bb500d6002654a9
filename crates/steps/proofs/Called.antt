-- The stack of an input: its report is accepted, its records fit, and its text is read back from what the report wrote.
use mathlib.Core.Path.{◌≡◌, refl, sym, ap, ap₂, ◌∙◌, subst}
use mathlib.Core.Bool.{Bool, true, false, cond, ◌||◌}
use mathlib.Core.List.{List, [], ◌∷◌, ◌++◌, Memᴰ}
use mathlib.Core.Logic.{⊎_elim}
use Prim.Native.Nat.{ℕ, zero, suc, ◌-◌, ◌*◌, ◌/◌, ◌%◌, ◌≤◌, ◌<◌}
use native.Mathlib.Omega.{arith}
use borrow.Author.Tests.{lt-ltb, le-ltb, eq-eqb, ne_eqb}
use lib.IntN.{ℤ, nat_abs}
use lib.ListN.{length, get_or, drop, replicate, length-replicate, get_or-replicate}
use lib.Dec.{eqb}
use Rattle.definitions.specs.Build.{build, joined}
use Rattle.definitions.specs.Geometry.{Shift, Rect, origin, listed}
use Rattle.definitions.specs.Sum.{sum}
use Rattle.definitions.specs.Shrink.{side_at, samples_at, halved_samples}
use Rattle.definitions.specs.Bitmap.{words_per_row}
use Rattle.definitions.specs.Align.{Options, Stack, log_up_to, log2, levels, stack_of, neighbour, walk, shift_of, shifts, step_bytes, step_words}
use Rattle.definitions.specs.Refusals.{Check, Answer, answer, after, accepted, refused, side_over, wrong_length, percentile_over, no_reference, frames_over, scratch_short, reach_over, pair_differs}
use Rattle.definitions.specs.Refusals.{frames_checks, stack_scratch_checks, survey_checks, report_checks}
use Rattle.definitions.specs.Report.{Terms, rivals, Record, records, records_needed, verdict, verdicts, report_crop, records_bytes}
use Rattle.laws.specs.general.Cases.{lt_or_le}
use Rattle.laws.specs.checks.Checks.{not_both, same_value, same_number, accepted_too, refused_too, after_accepted, after_refused, accepted_for_space}
use Rattle.laws.specs.checks.ChecksReport.{refused_before}
use Rattle.laws.specs.general.Lists.{build_at, joined_same}
use Rattle.laws.specs.report.ReadBack.{record_near, record_few}
use Rattle.laws.specs.report.Records.{records_name, records_number, rivals_none}
use Rattle.laws.specs.search.StepBounds.{Small}
use Rattle.laws.specs.general.Sums.{sum_first, sum_le}
use Rattle.laws.specs.search.ShiftLists.{listed_x, listed_y}
use Rattle.laws.specs.report.Verdicts.{near_few}
use Rattle.steps.specs.Text.{ascii, line, heading, frame_line, lines_of_records, frame_text, report_text, input_options, input_stack, input_terms, is_bad_input, refusal_text, text}
use Rattle.steps.specs.Inner.{frame_text_in}
use Rattle.steps.proofs.Decoded.{records_of_lem}

-- ---- one to eight frames of 64 by 64 pass all checks, and none have no reference

-- The checks of n frames, with the scratch that the program lends.
abbrev checks_from : ℕ → List Check
checks_from n = survey_checks (replicate n 64) (replicate n 64) (replicate n 50) 0 6 (n * 4096) (2 * n) n 1 2728 256

all_in_order : build 8 (λ (i : ℕ). answer (checks_from (suc i)) (tt {0})) ≡ replicate 8 (accepted tt)
unfolding answer survey_checks frames_checks frames_over wrong_length side_over percentile_over no_reference pair_differs neighbour walk build reach_over stack_scratch_checks scratch_short step_bytes
    step_words levels log2 log_up_to halved_samples sum samples_at side_at words_per_row
all_in_order = refl

in_order : (n : ℕ) → 1 ≤ n → n ≤ 8 → answer (checks_from n) (tt {0}) ≡ accepted tt
in_order zero l h = absurd (omega arith)
in_order (suc n) l h =
    sym (build_at 8 (λ (i : ℕ). answer (checks_from (suc i)) (tt {0})) n (accepted tt) h)
    ∙ ap (λ (k : List (Answer (Unit {0}))). get_or k n (accepted tt)) all_in_order
    ∙ get_or-replicate 8 n (accepted tt) (accepted tt) h

no_reference_lem : answer (checks_from 0) (tt {0}) ≡ refused 5 (0 ∷ 0 ∷ [])
unfolding answer survey_checks frames_checks frames_over wrong_length percentile_over no_reference
no_reference_lem = refl

-- ---- the stack

-- The stack of n frames of an input.
abbrev pub stack_from : ℕ → List ℕ → Stack
stack_from n input = stack_of (replicate n 64) (replicate n 64) (replicate n 50) input 0 input_options

-- one to eight frames of 64 by 64, the first of them the reference
pub record Few (a : Stack) : Type 0 where
  pub wide : a.width ≡ 64
  pub high : a.height ≡ 64
  pub some : 1 ≤ a.frames
  pub most : a.frames ≤ 8
  pub first : a.reference ≡ 0

pub few_from : (n : ℕ) (input : List ℕ) → 1 ≤ n → n ≤ 8 → Few (stack_from n input)
unfolding stack_of
few_from zero input l h = absurd (omega arith)
few_from (suc n) input l h = record { wide = refl; high = refl; some = omega arith; most = omega (arith, length-replicate {A = ℕ} n 64); first = refl }

-- a record of such a stack
pub record Short (e : Record) : Type 0 where
  pub frame : e.frame < 8
  pub across : nat_abs e.shift.x ≤ 8192
  pub down : nat_abs e.shift.y ≤ 8192
  pub disagreeing : e.counts.disagreeing ≤ 4096
  pub compared : e.counts.compared ≤ 4096

module _ (a : Stack) (few : Few a) where
  pub small : Small a
  small = record { width = omega (arith, few.wide); height = omega (arith, few.high); frames = omega (arith, few.most); reference = omega (arith, few.first, few.some) }

  -- no more records than one for each frame but the reference
  pub few_records : records_needed a input_terms ≤ 7
  unfolding records_needed
  few_records =
      let m = a.frames - 1 in
      let e : a.frames ≡ suc m = omega (arith, few.some) in
      let f : ℕ → ℕ = λ k. length (rivals a input_terms k) in
      omega (
        arith,
        few.most,
        ap (λ (n : ℕ). sum n f) e,
        sum_first m f,
        ap length (rivals_none a input_terms 0 (sym few.first)),
        sum_le m 1 (λ (i : ℕ). f (suc i)) (λ i h. near_few a input_terms (suc i) (omega arith)),
      )

  -- the records' numbers are small
  pub short : (e : Record) → Memᴰ e (records a input_terms) → Short e
  short e m =
      let near = record_near a input_terms small e m in
      let counts = record_few a input_terms e m in
      let pixels : a.height * a.width ≡ 4096 = ap₂ ◌*◌ few.high few.wide in
      record {
        frame = omega (arith, (records_name a input_terms e m).frame, few.most);
        across = near.across;
        down = near.down;
        disagreeing = omega (arith, counts.0, pixels);
        compared = omega (arith, counts.1, pixels);
      }

  -- ---- its text, from what a report writes

  module _ (rest : List ℕ) where
    abbrev bytes : List ℕ
    bytes = records_bytes (records a input_terms) ++ rest

    frame_read : (k : ℕ) → k < a.frames → frame_text_in (listed (shifts a)) (verdicts a input_terms) bytes (records_needed a input_terms) k ≡ frame_text a input_terms k
    unfolding frame_text_in frame_text shifts verdicts
    frame_read k h =
        let shift : get_or (build a.frames (shift_of a)) k origin ≡ shift_of a k = build_at a.frames (shift_of a) k origin h in
        let x = listed_x (build a.frames (shift_of a)) k ∙ ap (λ (s : Shift). s.x) shift in
        let y = listed_y (build a.frames (shift_of a)) k ∙ ap (λ (s : Shift). s.y) shift in
        let v = build_at a.frames (verdict a input_terms) k 0 h in
        let l = records_of_lem a input_terms k small (omega arith) rest (records_needed a input_terms) (sym (records_number a input_terms)) h in
        λ i. frame_line k (record { x = x i; y = y i }) (v i) (length (l i)) ++ lines_of_records (l i)

    pub report_read : heading a.frames (report_crop a) ++ joined a.frames (frame_text_in (listed (shifts a)) (verdicts a input_terms) bytes (records_needed a input_terms)) ≡ report_text a input_terms
    unfolding report_text
    report_read = ap (λ (l : List ℕ). heading a.frames (report_crop a) ++ l)
        (joined_same a.frames (frame_text_in (listed (shifts a)) (verdicts a input_terms) bytes (records_needed a input_terms)) (frame_text a input_terms) frame_read)

-- ---- the text of an input

or_true : (t : Bool) → (t || true) ≡ true
or_true true = refl
or_true false = refl

pub text_long : (input : List ℕ) → 32768 < length input → line (ascii "bad input" ∷ []) ≡ text input
unfolding text is_bad_input
text_long input h = sym (rw (lt-ltb 32768 (length input) h, or_true))

pub text_part : (input : List ℕ) → (length input % 4096 ≡ 0 → ⊥) → line (ascii "bad input" ∷ []) ≡ text input
unfolding text is_bad_input
text_part input h = sym (rw (ne_eqb (length input % 4096) 0 h))

module _ (input : List ℕ) (n : ℕ) (whole : length input ≡ n * 4096) (most : n ≤ 8) where
  good : is_bad_input input ≡ false
  unfolding is_bad_input
  good = rw (eq-eqb (length input % 4096) 0 (omega arith), le-ltb 32768 (length input) (omega arith))

  pub text_none : n ≡ 0 → refusal_text 5 ≡ text input
  unfolding text
  text_none e = sym (rw (good, eq-eqb (length input) 0 (omega arith)))

  pub text_report : 1 ≤ n → report_text (stack_from n input) input_terms ≡ text input
  unfolding text input_stack
  text_report l =
      let e : length input / 4096 ≡ n = omega arith in
      sym (rw (good, ne_eqb (length input) 0 (λ z. omega arith), e))

-- ---- a call of the report on n frames of an input

-- what it is given
pub record Call (n : ℕ) (input widths heights percentiles : List ℕ) (bits shift_list verdict_list reach : ℕ) (o : Options) (q : Terms) : Type 0 where
  pub most : n ≤ 8
  pub wide : widths ≡ replicate n 64
  pub high : heights ≡ replicate n 64
  pub whole : length input ≡ n * 4096
  pub list : shift_list ≡ 2 * n
  pub judged : verdict_list ≡ n
  pub cut : percentiles ≡ replicate n 50
  pub deep : bits ≡ 6
  pub near : reach ≡ 1
  pub options : o ≡ input_options
  pub terms : q ≡ input_terms

module _ {n : ℕ} {input widths heights percentiles : List ℕ} {bits shift_list verdict_list reach : ℕ} {o : Options} {q : Terms}
    (call : Call n input widths heights percentiles bits shift_list verdict_list reach o q) where
  abbrev stack : Stack
  stack = stack_of widths heights percentiles input 0 o

  abbrev before : List Check
  before = survey_checks widths heights percentiles 0 bits (length input) shift_list verdict_list reach 2728 256

  abbrev checks : List Check
  checks = report_checks before (records_needed stack q) 140

  same_stack : stack ≡ stack_from n input
  same_stack i = stack_of (call.wide i) (call.high i) (call.cut i) input 0 (call.options i)

  same_checks : before ≡ checks_from n
  same_checks i = survey_checks (call.wide i) (call.high i) (call.cut i) 0 (call.deep i) (call.whole i) (call.list i) (call.judged i) (call.near i) 2728 256

  -- frames are accepted
  module _ (some : 1 ≤ n) where
    passes : answer before (tt {0}) ≡ accepted tt
    passes = ap (λ (l : List Check). answer l tt) same_checks ∙ in_order n some call.most

    few_stack : Few stack
    few_stack = subst Few (sym same_stack) (few_from n input some call.most)

    pub few_needed : records_needed stack q ≤ 7
    few_needed = omega (arith, ap (records_needed stack) call.terms, few_records stack few_stack)

    all_accepted : {A : Type 0} (a : A) → answer checks a ≡ accepted a
    all_accepted a = accepted_for_space a before (records_needed stack q) 140 (accepted_too (tt {0}) a before passes) (omega (arith, few_needed))

    written : {A : Type 0} (new old : A) → after checks new old ≡ new
    written new old = after_accepted (tt {0}) checks new old (all_accepted tt)

    -- and leave their text
    module _ {crop : Rect} {count : ℕ} {placed : List ℤ} {judged space : List ℕ} (placed₀ : List ℤ) (judged₀ space₀ : List ℕ)
        (c : crop ≡ report_crop stack) (r : count ≡ records_needed stack q)
        (s : placed ≡ after checks (listed (shifts stack)) placed₀) (v : judged ≡ after checks (verdicts stack q) judged₀)
        (b : space ≡ after checks (records_bytes (records stack q) ++ drop (20 * records_needed stack q) space₀) space₀) where
      pub summary_text : heading (length widths) crop ++ joined (length widths) (frame_text_in placed judged space count) ≡ text input
      unfolding stack_of
      summary_text =
          let rest = drop (20 * records_needed stack q) space₀ in
          let t = call.terms in
          (λ i. heading (length widths) (c i) ++ joined (length widths) (frame_text_in ((s ∙ written _ _) i) ((v ∙ written _ _) i) ((b ∙ written _ _) i) (r i)))
          ∙ ap (λ (u : Terms). heading (length widths) (report_crop stack)
          ++ joined (length widths) (frame_text_in (listed (shifts stack)) (verdicts stack u) (records_bytes (records stack u) ++ rest) (records_needed stack u))) t
          ∙ report_read stack few_stack rest
          ∙ ap (λ (a : Stack). report_text a input_terms) same_stack
          ∙ text_report input n call.whole call.most some

  -- no frames are refused
  none_refused : n ≡ 0 → {A : Type 0} (a : A) → answer checks a ≡ refused 5 (0 ∷ 0 ∷ [])
  none_refused e a =
      let p = same_checks ∙ ap checks_from e in
      sym (refused_before before (records_needed stack q) 140 a (refused_too (tt {0}) a before (ap (λ (l : List Check). answer l tt) p ∙ no_reference_lem)))

  -- so an answer tells whether there are frames
  pub answered : {A : Type 0} {x a : A} → accepted x ≡ answer checks a → (1 ≤ n) × (x ≡ a)
  answered {A} {x} {a} e = ⊎_elim
      (λ (l : 0 < n). (l, same_value (e ∙ all_accepted l a)))
      (λ (l : n ≤ 0). let z : n ≡ 0 = omega arith in not_both (e ∙ none_refused z a))
      (lt_or_le 0 n)

  pub turned_down : {A : Type 0} (a : A) {k : ℕ} {v : List ℕ} → refused k v ≡ answer checks a → (n ≡ 0) × (k ≡ 5)
  turned_down {A} a {k} {v} e = ⊎_elim
      (λ (l : 0 < n). not_both (sym (e ∙ all_accepted l a)))
      (λ (l : n ≤ 0). let z : n ≡ 0 = omega arith in (z, same_number (e ∙ none_refused z a)))
      (lt_or_le 0 n)

  -- what the lists then hold
  pub left : {A : Type 0} (new old : A) → after checks new old ≡ cond (eqb n 0) old new
  left new old = ⊎_elim
      (λ (l : 0 < n). written l new old ∙ sym (ap (λ (t : Bool). cond t old new) (ne_eqb n 0 (λ z. omega arith))))
      (λ (l : n ≤ 0).
      let z : n ≡ 0 = omega arith in
      after_refused (tt {0}) checks new old (none_refused z tt) ∙ sym (ap (λ (t : Bool). cond t old new) (eq-eqb n 0 z)))
      (lt_or_le 0 n)

  pub input_stack_lem : stack ≡ input_stack input
  unfolding input_stack
  input_stack_lem =
      let e : n ≡ length input / 4096 = omega (arith, call.whole) in
      same_stack ∙ ap (λ (m : ℕ). stack_from m input) e
