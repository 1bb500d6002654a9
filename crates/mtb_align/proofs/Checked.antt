-- The checks of a pyramid, a step and the scratch, test by test: with these the check of the crate answers for those that make the tests.
use Rattle.std.proofs.Common.{arith, sym, ◌++◌, ◌<◌, ◌≤◌, length, get_or, ◌≡◌, refl, Bool, true, false, cond, not, ltb, eqb, ◌||◌, List, [], ◌∷◌, ℕ, ◌*◌}
use Rattle.std.proofs.lemmas.Bool.Decides.{nat_tests}
use Rattle.definitions.specs.Shrink.{halved_samples}
use Rattle.definitions.specs.Align.{levels, step_bytes, step_words, stack_need}
use Rattle.definitions.specs.Refusals.{Check, accepted, refused, answer, side_over, either_over, percentile_over, unequal, sizes_differ, wrong_length, scratch_short}
use Rattle.definitions.specs.Refusals.{pyramid_checks, need_checks, step_checks, stack_scratch_checks, reach_over, frames_checks, stack_checks, survey_checks}
use Rattle.definitions.specs.Bitmap.{bitmap_words}
use Rattle.laws.specs.bitmaps.Bitmaps.{words_of_rows}
use Rattle.laws.specs.checks.Checks.{pass_all, stop_all, sides_within}
use Rattle.laws.specs.checks.ChecksStack.{frames_in_order}
use Rattle.laws.specs.images.Pyramids.{halved_third}
use Rattle.laws.specs.images.Levels.{levels_most}
use Rattle.laws.specs.images.Sizes.{area, limits_area}
use Rattle.laws.specs.search.Walk.{need_one, need_two}
use Rattle.mtb_align.proofs.Answered.{passed_on}

module _ {A : Type 0} (a : A) where
  pub none_left : answer [] a ≡ accepted a
  unfolding answer
  none_left = refl

  pub sides_first : (w h : ℕ) (l : List Check) → answer (side_over w ∷ side_over h ∷ l) a ≡ cond (either_over w h) (refused 1 []) (answer l a)
  unfolding answer side_over either_over
  sides_first w h l = on (ltb 8192 w) (ltb 8192 h)
    where
      on : (s t : Bool) → cond s (refused 1 []) (cond t (refused 1 []) (answer l a)) ≡ cond (s || t) (refused 1 []) (answer l a)
      on true t = refl
      on false t = refl

  pub length_first : (n m : ℕ) (l : List Check) → answer (wrong_length n m ∷ l) a ≡ cond (eqb n m) (answer l a) (refused 2 [])
  unfolding answer wrong_length
  length_first n m l = on (eqb n m)
    where
      on : (t : Bool) → cond (not t) (refused 2 []) (answer l a) ≡ cond t (answer l a) (refused 2 [])
      on true = refl
      on false = refl

  pub percentile_first : (p : ℕ) (l : List Check) → answer (percentile_over p ∷ l) a ≡ cond (ltb 100 p) (refused 3 []) (answer l a)
  unfolding answer percentile_over
  percentile_first p l = refl

  pub sizes_first : (w h w' h' : ℕ) (l : List Check)
      → answer (sizes_differ w h w' h' ∷ l) a ≡ cond (unequal w h w' h') (refused 4 (w ∷ h ∷ w' ∷ h' ∷ [])) (answer l a)
  unfolding answer sizes_differ
  sizes_first w h w' h' l = refl

  pub scratch_first : (n need : ℕ) (l : List Check) → answer (scratch_short n need ∷ l) a ≡ cond (ltb n need) (refused 7 []) (answer l a)
  unfolding answer scratch_short
  scratch_first n need l = refl

pub pyramid_is : (w h samples bits scratch : ℕ) → pyramid_checks w h samples bits scratch
    ≡ side_over w ∷ side_over h ∷ wrong_length samples (w * h) ∷ scratch_short scratch (halved_samples w h (levels w h bits)) ∷ []
unfolding pyramid_checks
pyramid_is w h samples bits scratch = refl

pub need_is : (w h : ℕ) → need_checks w h ≡ side_over w ∷ side_over h ∷ []
unfolding need_checks
need_is w h = refl

pub scratch_is : (n w h bits bytes words : ℕ) → stack_scratch_checks n w h bits bytes words
    ≡ scratch_short bytes (stack_need n (step_bytes w h bits)) ∷ scratch_short words (stack_need n (step_words w h)) ∷ []
unfolding stack_scratch_checks
scratch_is n w h bits bytes words = refl

pub step_is : (w h p w' h' p' bits reference target bytes words : ℕ) → step_checks w h p w' h' p' bits reference target bytes words
    ≡ side_over w ∷ side_over h ∷ side_over w' ∷ side_over h' ∷ percentile_over p ∷ percentile_over p' ∷ sizes_differ w h w' h'
    ∷ wrong_length reference (w * h) ∷ wrong_length target (w * h) ∷ stack_scratch_checks 2 w h bits bytes words
unfolding step_checks stack_scratch_checks
step_is w h p w' h' p' bits reference target bytes words = refl

pub bytes_is : (w h bits : ℕ) → step_bytes w h bits ≡ 2 * halved_samples w h (levels w h bits)
unfolding step_bytes
bytes_is w h bits = refl

pub words_is : (w h : ℕ) → step_words w h ≡ 4 * bitmap_words w h
unfolding step_words
words_is w h = refl

-- ---- past the checks of a stack's frames

pub reach_first : {A : Type 0} (a : A) (r : ℕ) (l : List Check) → answer (reach_over r ∷ l) a ≡ cond (ltb 64 r) (refused 9 []) (answer l a)
unfolding answer reach_over
reach_first a r l = refl

module _ (widths heights percentiles : List ℕ) (reference : ℕ) where
  pub frames_pass : (m : List Check) → accepted (tt {0}) ≡ answer (frames_checks widths heights percentiles reference) tt
      → answer (frames_checks widths heights percentiles reference ++ m) (tt {0}) ≡ answer m tt
  frames_pass m e = pass_all tt _ m (sym e)

  pub frames_fail : (m : List Check) {n : ℕ} {v : List ℕ} → refused n v ≡ answer (frames_checks widths heights percentiles reference) (tt {0})
      → answer (frames_checks widths heights percentiles reference ++ m) (tt {0}) ≡ refused n v
  frames_fail m e = sym (stop_all tt _ m (sym e))

  pub frames_size : accepted (tt {0}) ≡ answer (frames_checks widths heights percentiles reference) tt
      → let w = get_or widths 0 0 in
      let h = get_or heights 0 0 in
      (0 < length widths) × (0 < length heights) × (length widths ≤ 16) × (w ≤ 8192) × (h ≤ 8192) × (w * h ≤ 67108864)
      × (length widths * (w * h) ≤ 1073741824)
  frames_size e =
      let f = frames_in_order widths heights percentiles reference e in
      let s = f.limits in
      let size = limits_area s in
      (omega (arith, s.reference), omega (arith, s.reference, f.same), s.frames, s.width, s.height, size.0, size.1)

pub stack_is : (widths heights percentiles : List ℕ) (reference bits samples shift_list bytes words : ℕ)
    → stack_checks widths heights percentiles reference bits samples shift_list bytes words
    ≡ frames_checks widths heights percentiles reference
    ++ wrong_length samples (length widths * (get_or widths 0 0 * get_or heights 0 0)) ∷ wrong_length shift_list (2 * length widths)
    ∷ stack_scratch_checks (length widths) (get_or widths 0 0) (get_or heights 0 0) bits bytes words
unfolding stack_checks
stack_is widths heights percentiles reference bits samples shift_list bytes words = refl

pub survey_is : (widths heights percentiles : List ℕ) (reference bits samples shift_list verdict_list reach bytes words : ℕ)
    → survey_checks widths heights percentiles reference bits samples shift_list verdict_list reach bytes words
    ≡ frames_checks widths heights percentiles reference
    ++ wrong_length samples (length widths * (get_or widths 0 0 * get_or heights 0 0)) ∷ wrong_length shift_list (2 * length widths)
    ∷ wrong_length verdict_list (length widths) ∷ reach_over reach
    ∷ stack_scratch_checks (length widths) (get_or widths 0 0) (get_or heights 0 0) bits bytes words
unfolding survey_checks
survey_is widths heights percentiles reference bits samples shift_list verdict_list reach bytes words = refl

pub ruleset pyramid_checked = (none_left, sides_first, length_first, scratch_first, pyramid_is, nat_tests, sides_within, area, levels_most)

pub ruleset step_checked = (sides_first, percentile_first, sizes_first, length_first, step_is, nat_tests, sides_within, area)

pub ruleset scratch_checked = (none_left, sides_first, scratch_first, need_is, scratch_is, nat_tests, sides_within, need_one, need_two)

pub ruleset stack_checked = (length_first, reach_first, nat_tests, frames_pass, frames_fail, frames_size, stack_is, survey_is, passed_on)

pub ruleset needed = (bytes_is, words_is, levels_most, halved_third, area, words_of_rows)
