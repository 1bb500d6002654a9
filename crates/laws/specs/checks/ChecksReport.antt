-- The checks of a report: those before the record space, what a report that passes them was given, the record space last, and which
-- of them refused.
use Rattle.std.specs.Prelude.{◌≡◌, refl, ◌⊎◌, ℕ, ◌*◌, ◌≤◌, ◌<◌, length, get_or}
use Rattle.std.proofs.Math.Path.{sym}
use Rattle.std.proofs.Common.{ap, ◌∙◌, subst, inl, inr, ⊎_elim, arith}
use mathlib.Core.List.{List, [], ◌∷◌, ◌++◌, map, Memᴰ}
use borrow.Author.Tests.{ltb-false, eqb-true, not-false}
use Rattle.definitions.specs.Align.{Options, Stack, walk, stack_of, step_bytes, step_words, stack_need}
use Rattle.definitions.specs.Refusals.{Check, Answer, accepted, refused, answer, after, frames_checks, stack_scratch_checks, stack_checks, survey_checks, report_checks}
use Rattle.definitions.specs.Refusals.{side_over, wrong_length, percentile_over, no_reference, frames_over, scratch_short, reach_over, space_short, pair_differs}
use Rattle.laws.specs.general.Cases.{lt_or_le}
use Rattle.laws.specs.checks.Checks.{not_both, same_number, same_values, skip, skip_all, passed, passed_all, pass_all, stop_all, after_pass, accepted_too, refused_too, first_fails}
use Rattle.laws.specs.checks.Checks.{refused_for_space, accepted_for_space}
use Rattle.laws.specs.general.Members.{of_map}
use Rattle.laws.specs.checks.ChecksStack.{StackInOrder, stack_in_order}

-- a report whose checks up to its scratch pass: a stack in order, a verdict a frame, and a reach of at most 64
pub record SurveyInOrder (a : Stack) (heights percentiles shift_list verdict_list reach bytes words : ℕ) : Type 0 where
  pub stack : StackInOrder a heights percentiles shift_list bytes words
  pub judged : verdict_list ≡ a.frames
  pub near : reach ≤ 64

pub survey_in_order : (widths heights percentiles samples : List ℕ) (reference : ℕ) (o : Options) (shift_list verdict_list reach bytes words : ℕ)
    → accepted (tt {0}) ≡ answer (survey_checks widths heights percentiles reference o.bits (length samples) shift_list verdict_list reach bytes words) tt
    → SurveyInOrder (stack_of widths heights percentiles samples reference o) (length heights) (length percentiles) shift_list verdict_list reach bytes words
unfolding stack_of survey_checks stack_checks wrong_length reach_over
survey_in_order widths heights percentiles samples reference o shift_list verdict_list reach bytes words e =
    let frames = frames_checks widths heights percentiles reference in
    let a = passed_all (tt {0}) frames _ (sym e) in
    let b = passed (tt {0}) _ _ a.1 in
    let c = passed (tt {0}) _ _ b.1 in
    let v = passed (tt {0}) _ _ c.1 in
    let r = passed (tt {0}) _ _ v.1 in
    record {
      stack = stack_in_order widths heights percentiles samples reference o shift_list bytes words
          (skip_all (tt {0}) frames _ a.0 (skip (tt {0}) _ _ b.0 (skip (tt {0}) _ _ c.0 (sym r.1))));
      judged = eqb-true verdict_list (length widths) (not-false _ v.0);
      near = ltb-false 64 reach r.0;
    }

-- ---- the checks before the record space, and then it alone

module _ (before : List Check) (needed space : ℕ) where
  module _ (all : accepted (tt {0}) ≡ answer before tt) where
    pub space_alone : {A : Type 0} (a : A) → answer (report_checks [] needed space) a ≡ answer (report_checks before needed space) a
    unfolding report_checks
    space_alone a = sym (pass_all a before _ (accepted_too (tt {0}) a before (sym all)))

    pub space_alone_after : {B : Type 0} (new old : B) → after (report_checks [] needed space) new old ≡ after (report_checks before needed space) new old
    unfolding report_checks
    space_alone_after new old = sym (after_pass tt before _ new old (sym all))

  -- one of them that fails refuses the report
  pub refused_before : {A : Type 0} (a : A) {n : ℕ} {v : List ℕ} → answer before a ≡ refused n v → refused n v ≡ answer (report_checks before needed space) a
  unfolding report_checks
  refused_before a e = stop_all a before _ e

-- ---- which of them refused, and that 10 is the record space's alone

-- the number of each check is below 10
abbrev Below10 : List Check → Type 0
Below10 l = (c : Check) → Memᴰ c l → c.number < 10

below_none : Below10 []
below_none c m = absurd (mathlib.Core.List.Memᴰ.not-nil m)

below_more : (d : Check) {l : List Check} → d.number < 10 → Below10 l → Below10 (d ∷ l)
below_more d {l} h k c m = ⊎_elim (λ (e : c ≡ d). omega (arith, ap (λ (x : Check). x.number) e)) (λ (n : Memᴰ c l). k c n) (mathlib.Core.List.Memᴰ.cases_cons m)

below_append : (l : List Check) {m : List Check} → Below10 l → Below10 m → Below10 (l ++ m)
below_append l {m} h k c i = ⊎_elim (λ (n : Memᴰ c l). h c n) (λ (n : Memᴰ c m). k c n) (mathlib.Core.List.Memᴰ.append_cases l i)

below_map : (f : ℕ → Check) (l : List ℕ) → ((n : ℕ) → (f n).number < 10) → Below10 (map f l)
below_map f l h c m = let t = of_map f l m in omega (arith, ap (λ (x : Check). x.number) t.2, h t.0)

survey_below_ten : (widths heights percentiles : List ℕ) (reference bits samples shift_list verdict_list reach bytes words : ℕ) (c : Check)
    → Memᴰ c (survey_checks widths heights percentiles reference bits samples shift_list verdict_list reach bytes words) → c.number < 10
unfolding survey_checks frames_checks stack_scratch_checks frames_over wrong_length side_over percentile_over no_reference pair_differs reach_over scratch_short
survey_below_ten widths heights percentiles reference bits samples shift_list verdict_list reach bytes words =
    let n = length widths in
    let w = get_or widths 0 0 in
    let h = get_or heights 0 0 in
    let sides = below_append (map side_over widths) (below_map side_over widths (λ k. omega arith)) (below_map side_over heights (λ k. omega arith)) in
    let entries = below_append (map side_over widths ++ map side_over heights) sides (below_map percentile_over percentiles (λ k. omega arith)) in
    let pairs = below_map (pair_differs widths heights reference) (walk reference n) (λ k. omega arith) in
    let frames : Below10 (frames_checks widths heights percentiles reference) =
    below_more (frames_over n) (omega arith)
    (below_more (frames_over (length heights)) (omega arith)
    (below_more (wrong_length (length heights) n) (omega arith)
    (below_more (wrong_length (length percentiles) n) (omega arith)
    (below_append (map side_over widths ++ map side_over heights ++ map percentile_over percentiles) entries
    (below_more (no_reference reference n) (omega arith) pairs))))) in
    below_append (frames_checks widths heights percentiles reference) frames
    (below_more (wrong_length samples (n * (w * h))) (omega arith)
    (below_more (wrong_length shift_list (2 * n)) (omega arith)
    (below_more (wrong_length verdict_list n) (omega arith)
    (below_more (reach_over reach) (omega arith)
    (below_more (scratch_short bytes (stack_need n (step_bytes w h bits))) (omega arith)
    (below_more (scratch_short words (stack_need n (step_words w h))) (omega arith) below_none))))))

pub survey_refused : (widths heights percentiles : List ℕ) (reference bits samples shift_list verdict_list reach bytes words : ℕ) {n : ℕ} {v : List ℕ}
    → answer (survey_checks widths heights percentiles reference bits samples shift_list verdict_list reach bytes words) (tt {0}) ≡ refused n v → n < 10
survey_refused widths heights percentiles reference bits samples shift_list verdict_list reach bytes words e =
    let l = survey_checks widths heights percentiles reference bits samples shift_list verdict_list reach bytes words in
    let f = first_fails (tt {0}) l e in
    let m : Memᴰ f.check l = subst (Memᴰ f.check) (sym f.split) (mathlib.Core.List.Memᴰ.append_right f.before (mathlib.Core.List.Memᴰ.head refl)) in
    omega (arith, survey_below_ten widths heights percentiles reference bits samples shift_list verdict_list reach bytes words f.check m, f.says.0)

module _ (before : List Check) (needed space : ℕ) {A : Type 0} (a : A) where
  -- an accepted report passed the others and has the space
  pub accepted_fits : {b : A} → answer (report_checks before needed space) a ≡ accepted b → (answer before (tt {0}) ≡ accepted tt) × (20 * needed ≤ space)
  unfolding report_checks space_short
  accepted_fits e =
      let p = passed_all a before (space_short space needed ∷ []) e in
      (accepted_too a (tt {0}) before p.0, ltb-false space (20 * needed) (passed a _ [] p.1).0)

  -- a refused one was refused by one of them, or else with 10 and the number of records, which the space does not hold
  pub refused_either : {n : ℕ} {v : List ℕ} → answer (report_checks before needed space) a ≡ refused n v
      → (answer before (tt {0}) ≡ refused n v) ⊎ ((answer before (tt {0}) ≡ accepted tt) × (n ≡ 10) × (v ≡ needed ∷ []) × (space < 20 * needed))
  refused_either {n} {v} e = on (answer before (tt {0})) refl
    where
      on : (r : Answer (Unit {0})) → answer before (tt {0}) ≡ r
          → (answer before (tt {0}) ≡ refused n v) ⊎ ((answer before (tt {0}) ≡ accepted tt) × (n ≡ 10) × (v ≡ needed ∷ []) × (space < 20 * needed))
      on (refused m w) p =
          let q : ◌≡◌ {A = Answer A} (refused m w) (refused n v) = refused_before before needed space a (refused_too (tt {0}) a before p) ∙ e in
          inl (p ∙ (λ i. refused (same_number q i) (same_values q i)))
      on (accepted u) p =
          let all : answer before a ≡ accepted a = accepted_too (tt {0}) a before p in
          ⊎_elim
          (λ (l : space < 20 * needed). let q = sym e ∙ refused_for_space a before needed space all l in inr (accepted_too (tt {0}) (tt {0}) before p, same_number q, same_values q, l))
          (λ (l : 20 * needed ≤ space). not_both (sym (accepted_for_space a before needed space all l) ∙ e))
          (lt_or_le space (20 * needed))
