-- The answers of the call that lays out a stack, and its lists after it.
use mathlib.Core.Path.{◌≡◌, sym, ap, ◌∙◌}
use mathlib.Core.List.{List, [], ◌∷◌}
use mathlib.Core.Logic.{◌⊎◌, inl, inr}
use Prim.Native.Nat.{ℕ, ◌<◌, ◌≤◌}
use lib.ListN.{length}
use Rattle.definitions.specs.Refusals.{Check, Answer, accepted, refused, answer, after, wrong_length}
use Rattle.laws.specs.checks.Checks.{value_is, done, length_stop, length_skip, accepted_too, refused_too, after_accepted, after_refused}
use Rattle.pgm_format.specs.Stack.{images_from, next_from, images_checks, widths_of, heights_of, joined_samples, read_stack_checks, read_stack}
use Rattle.pgm_format.specs.Runs.{StackRefusal, frames_over_lem, lists_unequal, images_refused, images_passed, stack_reads}
use Rattle.pgm.specs.Answers.{Run}
use Rattle.pgm.proofs.Runs.{extent}

-- ---- a run that was read

module _ (file : List ℕ) (at n : ℕ) {x : Run} (a : accepted x ≡ answer (images_checks file at n) (extent file at n)) where
  extent_is : x ≡ extent file at n
  extent_is = sym (value_is (images_checks file at n) (sym a))

  pub samples_are : x.samples ≡ length (joined_samples file (images_from file at n))
  samples_are = ap (λ (y : Run). y.samples) extent_is

  pub images_pass : answer (images_checks file at n) (tt {0}) ≡ accepted tt
  images_pass = accepted_too _ tt (images_checks file at n) (sym a)

-- ---- the answers, by the lengths of the lists

-- the first three checks pass
abbrev pub ListsFit : ℕ → ℕ → Type 0
ListsFit w h = (w ≤ 16) × (h ≡ w)

module _ (file : List ℕ) (at w h s : ℕ) where
  refusal : {n : ℕ} {v : List ℕ} → StackRefusal file at w h s n v → refused n v ≡ read_stack file at w h s
  refusal {n} {v} p = sym (((stack_reads file at w h s).refusal n v).1 p)

  pub frames_many : (16 < w) ⊎ ((w ≤ 16) × (16 < h)) → refused 6 [] ≡ read_stack file at w h s
  frames_many (inl p) = refusal (frames_over_lem (inl p))
  frames_many (inr p) = refusal (frames_over_lem (inr p.1))

  pub lists_differ : w ≤ 16 → h ≤ 16 → (h ≡ w → ⊥) → refused 2 [] ≡ read_stack file at w h s
  lists_differ q r p = refusal (lists_unequal q r p)

  pub run_refused : {n : ℕ} {v : List ℕ} → ListsFit w h → refused n v ≡ answer (images_checks file at w) (extent file at w) → refused n v ≡ read_stack file at w h s
  run_refused p a = sym (images_refused file at w h s p.0 p.1 (refused_too _ (next_from file at w) (images_checks file at w) (sym a)))

  module _ {x : Run} (a : accepted x ≡ answer (images_checks file at w) (extent file at w)) (p : ListsFit w h) where
    past_images : {r : Answer ℕ}
        → r ≡ answer (wrong_length s (length (joined_samples file (images_from file at w))) ∷ []) (next_from file at w) → r ≡ read_stack file at w h s
    past_images q = q ∙ images_passed file at w h s p.0 p.1 (accepted_too _ _ (images_checks file at w) (sym a))

    pub samples_wrong : (s ≡ x.samples → ⊥) → refused 2 [] ≡ read_stack file at w h s
    samples_wrong q = past_images (length_stop _ s _ [] (λ b. q (b ∙ sym (samples_are file at w a))))

    pub laid_out : s ≡ x.samples → accepted x.next ≡ read_stack file at w h s
    laid_out q = ap (λ (y : Run). accepted y.next) (extent_is file at w a) ∙ past_images (length_skip _ s _ [] (q ∙ samples_are file at w a) (done _))

-- ---- the lists after the call

module _ (file : List ℕ) (at : ℕ) (widths heights samples : List ℕ) where
  abbrev checks : List Check
  checks = read_stack_checks file at (length widths) (length heights) (length samples)

  abbrev stack_answer : Answer ℕ
  stack_answer = read_stack file at (length widths) (length heights) (length samples)

  -- with its answer
  abbrev pub After : Answer ℕ → List ℕ → List ℕ → List ℕ → Type 0
  After r new_widths new_heights new_samples =
      let images = images_from file at (length widths) in
      (r ≡ stack_answer)
      × (new_widths ≡ after checks (widths_of images) widths)
      × (new_heights ≡ after checks (heights_of images) heights)
      × (new_samples ≡ after checks (joined_samples file images) samples)

  pub as_they_were : {n : ℕ} {v : List ℕ} → refused n v ≡ stack_answer → After (refused n v) widths heights samples
  unfolding read_stack
  as_they_were e =
      let kept : (new old : List ℕ) → old ≡ after checks new old = λ new old. sym (after_refused _ checks new old (sym e)) in
      (e, kept _ _, kept _ _, kept _ _)

  pub as_laid : {next : ℕ} {a b c : List ℕ} → accepted next ≡ stack_answer
      → a ≡ widths_of (images_from file at (length widths)) → b ≡ heights_of (images_from file at (length widths))
      → c ≡ joined_samples file (images_from file at (length widths)) → After (accepted next) a b c
  unfolding read_stack
  as_laid e p q r =
      let new : (new old : List ℕ) → new ≡ after checks new old = λ new old. sym (after_accepted _ checks new old (sym e)) in
      (e, p ∙ new _ _, q ∙ new _ _, r ∙ new _ _)
