-- Images one behind another, and the stack that is laid out of them: the reader's are those that stand there, in one table: `stack_reads`.
use Prim.Native.Nat.{ℕ, zero, suc, ◌+◌, ◌*◌, ◌<◌, ◌≤◌, suc-le-suc}
use Rattle.std.proofs.Common.{not-suc-le-zero, le_of_suc-le-suc, zero-mul, arith, subst, ◌∙◌, inl, inr, ltb-false, le-ltb, lt-ltb}
use Rattle.std.proofs.Math.Nat.{suc-mul}
use Rattle.std.specs.Prelude.{◌≡◌, ◌↔◌, ◌⊎◌, get_or, replicate}
use Rattle.std.proofs.Math.Path.{refl, sym, ap}
use mathlib.Core.List.{List, [], ◌∷◌, ◌++◌}
use Rattle.std.proofs.Math.Logic.{⊎_elim}
use Rattle.std.proofs.Math.ListN.{length, length-append}
use Rattle.definitions.specs.Refusals.{Check, Answer, accepted, refused, answer, wrong_length}
use Rattle.laws.specs.checks.Checks.{not_both, value_is, stop, skip, done, passed, accepted_too, refused_too, pass_all, stop_all, passed_all, length_stop, length_skip}
use Rattle.laws.specs.checks.ChecksStack.{frames_stop, frames_skip}
use Rattle.laws.specs.general.Cases.{lt_or_le, eq_or_ne}
use Rattle.pgm_format.specs.Pgm.{Image, ImageAt, read_checks, image_read, read, samples_of}
use Rattle.pgm_format.specs.Stack.{Run, ended, image, images_from, next_from, place_past, images_checks, widths_of, heights_of, joined_samples, read_stack_checks, read_stack}
use Rattle.pgm_format.specs.Headers.{at_long}
use Rattle.pgm_format.specs.Grammar.{reads}

module _ (file : List ℕ) where
  read_image : {at : ℕ} {i : Image} → ImageAt file at i → image_read file at ≡ i
  unfolding read
  read_image {at} {i} a = value_is (read_checks file at) (((reads file at).image i).1 a)

  read_passes : {at : ℕ} {i : Image} → ImageAt file at i → {A : Type 0} (v : A) → answer (read_checks file at) v ≡ accepted v
  unfolding read
  read_passes {at} {i} a v = accepted_too (image_read file at) v (read_checks file at) (((reads file at).image i).1 a)

  pub passes_read : {at : ℕ} {A : Type 0} (v : A) {b : A} → answer (read_checks file at) v ≡ accepted b → ImageAt file at (image_read file at)
  unfolding read
  passes_read {at} v e = ((reads file at).image (image_read file at)).0 (accepted_too v (image_read file at) (read_checks file at) e)

  -- ---- a run is read

  pub run_images : (at : ℕ) (l : List Image) (end : ℕ) → Run file at l end → images_from file at (length l) ≡ l
  unfolding images_from
  run_images at l end (ended at' h) = refl
  run_images at l end (image at' i m end' a r) =
      ap (λ (j : Image). j ∷ images_from file j.next (length m)) (read_image a) ∙ ap (λ (k : List Image). i ∷ k) (run_images i.next m end r)

  pub run_next : (at : ℕ) (l : List Image) (end : ℕ) → Run file at l end → next_from file at (length l) ≡ end
  unfolding next_from
  run_next at l end (ended at' h) = refl
  run_next at l end (image at' i m end' a r) = ap (λ (j : Image). next_from file j.next (length m)) (read_image a) ∙ run_next i.next m end r

  module _ {A : Type 0} (v : A) where
    pub run_passes : (at : ℕ) (l : List Image) (end : ℕ) → Run file at l end → answer (images_checks file at (length l)) v ≡ accepted v
    unfolding images_checks place_past
    run_passes at l end (ended at' h) = sym (skip v (place_past file at) [] (le-ltb (length file) at h) (done v))
    run_passes at l end (image at' i m end' a r) =
        pass_all v (read_checks file at) (images_checks file (image_read file at).next (length m)) (read_passes a v)
        ∙ ap (λ (j : Image). answer (images_checks file j.next (length m)) v) (read_image a)
        ∙ run_passes i.next m end r

    -- behind a run the next image's refusal is that of all
    pub run_refused : (at : ℕ) (l : List Image) (end : ℕ) → Run file at l end → {m : ℕ} {w : List ℕ} → read file end ≡ refused m w
        → (n : ℕ) → length l < n → answer (images_checks file at n) v ≡ refused m w
    unfolding images_checks read
    run_refused at l end r e zero h = absurd (not-suc-le-zero h)
    run_refused at l end (ended at' k) e (suc n) h =
        sym (stop_all v (read_checks file at) (images_checks file (image_read file at).next n) (refused_too (image_read file at) v (read_checks file at) e))
    run_refused at l end (image at' i m end' a r) e (suc n) h =
        pass_all v (read_checks file at) (images_checks file (image_read file at).next n) (read_passes a v)
        ∙ ap (λ (j : Image). answer (images_checks file j.next n) v) (read_image a)
        ∙ run_refused i.next m end r e n (le_of_suc-le-suc h)

    -- the other way: what is read is a run
    pub passes_run : (at n : ℕ) {b : A} → answer (images_checks file at n) v ≡ accepted b → Run file at (images_from file at n) (next_from file at n)
    unfolding images_checks images_from next_from place_past
    passes_run at zero e = ended at (ltb-false (length file) at (passed v (place_past file at) [] e).0)
    passes_run at (suc n) e =
        let p = passed_all v (read_checks file at) (images_checks file (image_read file at).next n) e in
        image at (image_read file at) (images_from file (image_read file at).next n) (next_from file (image_read file at).next n)
        (passes_read v p.0) (passes_run (image_read file at).next n p.1)

  images_long : (at n : ℕ) → length (images_from file at n) ≡ n
  unfolding images_from
  images_long at zero = refl
  images_long at (suc n) = ap suc (images_long (image_read file at).next n)

  -- an image ends in the file
  ends_inside : {at : ℕ} {i : Image} → ImageAt file at i → i.next ≤ length file
  ends_inside a = omega (arith, a.ends, a.starts, at_long a.header, length-append a.samples a.behind)

  -- images stand there, and the next one is refused
  pub record Stopped (at n m : ℕ) (w : List ℕ) : Type 0 where
    pub images : List Image
    pub here : ℕ
    pub run : Run file at images here
    pub fewer : length images < n
    pub refusal : read file here ≡ refused m w

  module _ {A : Type 0} (v : A) where
    stopped : (at n : ℕ) {m : ℕ} {w : List ℕ} → at ≤ length file → answer (images_checks file at n) v ≡ refused m w → Stopped at n m w
    unfolding images_checks place_past read
    stopped at zero h e = not_both (sym (sym e ∙ sym (skip v (place_past file at) [] (le-ltb (length file) at h) (done v))))
    stopped at (suc n) {m} {w} h e = on (λ k q. stopped (image_read file at).next n k q) (answer (read_checks file at) v) refl
      where
        later : List Check
        later = images_checks file (image_read file at).next n

        on : ((image_read file at).next ≤ length file → answer later v ≡ refused m w → Stopped (image_read file at).next n m w)
            → (r : Answer A) → answer (read_checks file at) v ≡ r → Stopped at (suc n) m w
        on more (refused k u) q = record {
          images = [];
          here = at;
          run = ended at h;
          fewer = omega arith;
          refusal = refused_too v (image_read file at) (read_checks file at) (q ∙ stop_all v (read_checks file at) later q ∙ e);
        }
        on more (accepted b) q =
            let a = passes_read v q in
            let s = more (ends_inside a) (sym (pass_all v (read_checks file at) later (accepted_too v v (read_checks file at) q)) ∙ e) in record {
              images = image_read file at ∷ s.images;
              here = s.here;
              run = image at (image_read file at) s.images s.here a s.run;
              fewer = suc-le-suc s.fewer;
              refusal = s.refusal;
            }

    -- past the end there is none
    past_refused : (at n : ℕ) → length file < at → answer (images_checks file at n) v ≡ refused 13 []
    unfolding images_checks place_past read
    past_refused at zero h = sym (stop v (place_past file at) [] (lt-ltb (length file) at h))
    past_refused at (suc n) h = sym
        (stop_all v (read_checks file at) (images_checks file (image_read file at).next n)
        (refused_too (image_read file at) v (read_checks file at) ((reads file at).malformed.1 (λ w k top rest a. omega (arith, h, at_long a)))))

  -- ---- the stack

  -- n images stand there up to `end`, and have so many samples
  pub record Stacked (at n end samples : ℕ) : Type 0 where
    pub images : List Image
    pub number : length images ≡ n
    pub run : Run file at images end
    pub counted : samples ≡ length (joined_samples file images)

  module _ (at widths heights samples : ℕ) where
    -- why a stack is refused, in the order of the checks: 6, 2 for the heights, 13 for a place past the end, even where no image is asked for,
    -- the refusal of the first image that has one, 2 for the samples
    pub data StackRefusal : ℕ → List ℕ → Type 0 where
      frames_over_lem : (16 < widths) ⊎ (16 < heights) → StackRefusal 6 []
      lists_unequal : widths ≤ 16 → heights ≤ 16 → (heights ≡ widths → ⊥) → StackRefusal 2 []
      past_end : widths ≤ 16 → heights ≡ widths → length file < at → StackRefusal 13 []
      image_refused : widths ≤ 16 → heights ≡ widths → (n : ℕ) (v : List ℕ) → Stopped at widths n v → StackRefusal n v
      samples_wrong : widths ≤ 16 → heights ≡ widths → (l : List Image) (end : ℕ) → Run file at l end → length l ≡ widths
          → (samples ≡ length (joined_samples file l) → ⊥) → StackRefusal 2 []

    pub record StackReads : Type 0 where
      -- accepted exactly if there are no more than 16 frames, the lists are equally long, the images stand there up to the answer, and the
      -- samples have the room of theirs
      pub laid : (end : ℕ) → (read_stack file at widths heights samples ≡ accepted end) ↔ ((widths ≤ 16) × (heights ≡ widths) × Stacked at widths end samples)
      -- what is laid out is of the images that stand there, of which there is but one run
      pub images : (l : List Image) (end : ℕ) → Run file at l end → length l ≡ widths → images_from file at widths ≡ l
      -- refused exactly so
      pub refusal : (n : ℕ) (v : List ℕ) → (read_stack file at widths heights samples ≡ refused n v) ↔ StackRefusal n v

    abbrev total : ℕ
    total = length (joined_samples file (images_from file at widths))

    abbrev last : List Check
    last = wrong_length samples total ∷ []

    answered : Answer ℕ
    answered = answer (images_checks file at widths ++ last) (next_from file at widths)

    module _ (h : widths ≤ 16) (e : heights ≡ widths) where
      fit : {r : Answer ℕ} → r ≡ answered → r ≡ read_stack file at widths heights samples
      unfolding read_stack read_stack_checks answered
      fit q =
          let v = next_from file at widths in frames_skip v widths _ h (frames_skip v heights _ (omega arith) (length_skip v heights widths _ e q))

      pub images_refused : {n : ℕ} {v : List ℕ} → answer (images_checks file at widths) (next_from file at widths) ≡ refused n v
          → read_stack file at widths heights samples ≡ refused n v
      unfolding answered
      images_refused p = sym (fit (stop_all _ (images_checks file at widths) last p))

      pub images_passed : answer (images_checks file at widths) (next_from file at widths) ≡ accepted (next_from file at widths)
          → answer last (next_from file at widths) ≡ read_stack file at widths heights samples
      unfolding answered
      images_passed p = fit (sym (pass_all _ (images_checks file at widths) last p))

    run_passed : (l : List Image) (end : ℕ) → Run file at l end → length l ≡ widths
        → answer (images_checks file at widths) (next_from file at widths) ≡ accepted (next_from file at widths)
    run_passed l end r e =
        let v = next_from file at widths in
        subst (λ (n : ℕ). answer (images_checks file at n) v ≡ accepted v) e (run_passes v at l end r)

    images_of_lem : (l : List Image) (end : ℕ) → Run file at l end → length l ≡ widths → images_from file at widths ≡ l
    images_of_lem l end r e = ap (images_from file at) (sym e) ∙ run_images at l end r

    total_of : (l : List Image) (end : ℕ) → Run file at l end → length l ≡ widths → total ≡ length (joined_samples file l)
    total_of l end r e = ap (λ (m : List Image). length (joined_samples file m)) (images_of_lem l end r e)

    -- from what stands there to the answer
    stacked_laid : (end : ℕ) → widths ≤ 16 → heights ≡ widths → Stacked at widths end samples → read_stack file at widths heights samples ≡ accepted end
    stacked_laid end h e s =
        sym
        (images_passed h e (run_passed s.images end s.run s.number))
        ∙ sym (length_skip (next_from file at widths) samples total [] (s.counted ∙ sym (total_of s.images end s.run s.number)) (done (next_from file at widths)))
        ∙ ap accepted (ap (next_from file at) (sym s.number) ∙ run_next at s.images end s.run)

    refuses : (n : ℕ) (v : List ℕ) → StackRefusal n v → read_stack file at widths heights samples ≡ refused n v
    unfolding read_stack read_stack_checks
    refuses n v (frames_over_lem o) = ⊎_elim
        (λ (w : 16 < widths). sym (frames_stop _ widths _ w))
        (λ (h : 16 < heights). ⊎_elim
        (λ (w : 16 < widths). sym (frames_stop _ widths _ w))
        (λ (w : widths ≤ 16). sym (frames_skip _ widths _ w (frames_stop _ heights _ h)))
        (lt_or_le 16 widths))
        o
    refuses n v (lists_unequal w h u) = sym (frames_skip _ widths _ w (frames_skip _ heights _ h (length_stop _ heights widths _ u)))
    refuses n v (past_end w e k) = images_refused w e (past_refused _ at widths k)
    refuses n v (image_refused w e m u s) = images_refused w e (run_refused _ at s.images s.here s.run s.refusal widths s.fewer)
    refuses n v (samples_wrong w e l end r q u) =
        sym (images_passed w e (run_passed l end r q))
        ∙ sym (length_stop (next_from file at widths) samples total [] (λ p. u (p ∙ total_of l end r q)))

    -- and back: one of these it is
    abbrev Means : Answer ℕ → Type 0
    Means (accepted end) = (widths ≤ 16) × (heights ≡ widths) × Stacked at widths end samples
    Means (refused n v) = StackRefusal n v

    fit_means : widths ≤ 16 → heights ≡ widths → Means (read_stack file at widths heights samples)
    fit_means h e = ⊎_elim
        (λ (k : length file < at). subst Means (sym (refuses 13 [] (past_end h e k))) (past_end h e k))
        (λ (k : at ≤ length file). on (answer (images_checks file at widths) (next_from file at widths)) k refl)
        (lt_or_le (length file) at)
      where
        on : (r : Answer ℕ) → at ≤ length file → answer (images_checks file at widths) (next_from file at widths) ≡ r → Means (read_stack file at widths heights samples)
        on (refused n v) k q = let p = image_refused h e n v (stopped _ at widths k q) in subst Means (sym (refuses n v p)) p
        on (accepted b) k q =
            let run = passes_run _ at widths q in
            let long = images_long at widths in
            ⊎_elim
            (λ (c : samples ≡ total). let s : Stacked at widths (next_from file at widths) samples = record { images = images_from file at widths; number = long; run = run; counted = c } in
            subst Means (sym (stacked_laid (next_from file at widths) h e s)) (h, e, s))
            (λ (c : samples ≡ total → ⊥). let p = samples_wrong h e (images_from file at widths) (next_from file at widths) run long c in subst Means (sym (refuses 2 [] p)) p)
            (eq_or_ne samples total)

    means : Means (read_stack file at widths heights samples)
    means = ⊎_elim
        (λ (w : 16 < widths). let p = frames_over_lem (inl w) in subst Means (sym (refuses 6 [] p)) p)
        (λ (w : widths ≤ 16). ⊎_elim
        (λ (h : 16 < heights). let p = frames_over_lem (inr h) in subst Means (sym (refuses 6 [] p)) p)
        (λ (h : heights ≤ 16). ⊎_elim
        (λ (e : heights ≡ widths). fit_means w e)
        (λ (e : heights ≡ widths → ⊥). let p = lists_unequal w h e in subst Means (sym (refuses 2 [] p)) p)
        (eq_or_ne heights widths))
        (lt_or_le 16 heights))
        (lt_or_le 16 widths)

    pub stack_reads : StackReads
    stack_reads = record {
      laid = λ end. (λ e. subst Means e means, λ s. stacked_laid end s.0 s.1 s.2);
      images = images_of_lem;
      refusal = λ n v. (λ e. subst Means e means, refuses n v);
    }

-- ---- the stack's frames

-- the first of a list that is one value throughout, and the others
same_first : (n v : ℕ) {a : ℕ} {l : List ℕ} → a ∷ l ≡ replicate (suc n) v → (a ≡ v) × (l ≡ replicate n v)
same_first n v e = (cc, cc)

module _ (file : List ℕ) where
  pub samples_long : {at : ℕ} {i : Image} → ImageAt file at i → length (samples_of file i) ≡ i.width * i.height
  samples_long {at} {i} a = ap length ((reads file at).samples i a) ∙ a.counted

  -- images of one size have as many samples as the aligner asks of so many frames of that size
  pub frames_long : (w h at : ℕ) (l : List Image) (end : ℕ) → Run file at l end → widths_of l ≡ replicate (length l) w → heights_of l ≡ replicate (length l) h
      → length (joined_samples file l) ≡ length l * (w * h)
  unfolding widths_of heights_of joined_samples
  frames_long w h at l end (ended at' k) p q = sym (zero-mul (w * h))
  frames_long w h at l end (image at' i m end' a r) p q =
      let x = same_first (length m) w p in
      let y = same_first (length m) h q in
      length-append (samples_of file i) (joined_samples file m)
      ∙ ap (λ (n : ℕ). n + length (joined_samples file m)) (samples_long a ∙ ap (λ (n : ℕ). n * i.height) x.0 ∙ ap (λ (n : ℕ). w * n) y.0)
      ∙ ap (λ (n : ℕ). w * h + n) (frames_long w h i.next m end r x.1 y.1)
      ∙ omega (arith, suc-mul (length m) (w * h))

  -- and none of their sides is over the limit
  pub frames_within : (at : ℕ) (l : List Image) (end : ℕ) → Run file at l end → (k : ℕ) → k < length l → (get_or (widths_of l) k 0 ≤ 8192) × (get_or (heights_of l) k 0 ≤ 8192)
  unfolding widths_of heights_of
  frames_within at l end (ended at' h) k c = absurd (not-suc-le-zero c)
  frames_within at l end (image at' i m end' a r) zero c = (a.narrow, a.low)
  frames_within at l end (image at' i m end' a r) (suc k) c = frames_within i.next m end r k (le_of_suc-le-suc c)
