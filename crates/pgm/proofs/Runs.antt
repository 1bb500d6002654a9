-- The images of a run, one after another: what a loop over them has behind it and before it.
use mathlib.Core.Path.{◌≡◌, refl, sym, ap, ap₂, subst, ◌∙◌}
use mathlib.Core.List.{List, [], ◌∷◌, ◌++◌}
use Prim.Native.Nat.{ℕ, suc, ◌+◌, ◌-◌, ◌<◌, ◌≤◌}
use native.Mathlib.Nat.{mul-le-mul}
use native.Mathlib.Omega.{arith}
use lib.ListN.{length, length-append}
use borrow.Author.Tests.{lt-ltb, le-ltb}
use Rattle.definitions.specs.Refusals.{Check, Answer, accepted, refused, answer}
use Rattle.laws.specs.checks.Checks.{value_is, stop, skip, done, accepted_too, refused_too, pass_all, stop_all}
use Rattle.pgm_format.specs.Pgm.{Image, read_checks, image_read, samples_of, read}
use Rattle.pgm_format.specs.Stack.{images_from, next_from, place_past, images_checks, joined_samples}
use Rattle.pgm_format.specs.Runs.{passes_read, samples_long}
use Rattle.pgm.specs.Answers.{Run}

-- an accepted image is the one that is read there
pub image_is : (file : List ℕ) (at : ℕ) {i : Image} → accepted i ≡ read file at → i ≡ image_read file at
unfolding read
image_is file at e = sym (value_is (read_checks file at) (sym e))

-- and has no more samples than its sides allow
pub size_is : (file : List ℕ) (at : ℕ) {i : Image} → accepted i ≡ read file at → (i.start ≤ i.next) × (i.next - i.start ≤ 67108864)
unfolding read
size_is file at {i} a =
    let e = image_is file at a in
    let w = passes_read file _ (sym a) in
    subst (λ (j : Image). (j.start ≤ j.next) × (j.next - j.start ≤ 67108864)) (sym e)
    (omega (arith, w.ends), omega (arith, w.ends, w.counted, mul-le-mul w.narrow w.low))

-- ---- what the images of a run are

abbrev pub samples_from : List ℕ → ℕ → ℕ → List ℕ
samples_from file at n = joined_samples file (images_from file at n)

module _ (file : List ℕ) (at n : ℕ) where
  pub samples_none : samples_from file at 0 ≡ []
  unfolding images_from joined_samples
  samples_none = refl

  pub samples_more : samples_from file at (suc n) ≡ samples_of file (image_read file at) ++ samples_from file (image_read file at).next n
  unfolding images_from joined_samples
  samples_more = refl

  -- how many
  count_more : length (samples_from file at (suc n)) ≡ length (samples_of file (image_read file at)) + length (samples_from file (image_read file at).next n)
  count_more = ap length samples_more ∙ length-append (samples_of file (image_read file at)) (samples_from file (image_read file at).next n)

  next_none : next_from file at 0 ≡ at
  unfolding next_from
  next_none = refl

  next_more : next_from file at (suc n) ≡ next_from file (image_read file at).next n
  unfolding next_from
  next_more = refl

  checks_none : images_checks file at 0 ≡ place_past file at ∷ []
  unfolding images_checks
  checks_none = refl

  pub checks_more : images_checks file at (suc n) ≡ read_checks file at ++ images_checks file (image_read file at).next n
  unfolding images_checks
  checks_more = refl

-- ---- counting: some images are read, `left` are not yet

abbrev pub extent : List ℕ → ℕ → ℕ → Run
extent file at n = record { samples = length (samples_from file at n); next = next_from file at n }

pub record Counted (file : List ℕ) (at n samples next left : ℕ) : Type 0 where
  pub answers : (e : Run) → answer (images_checks file at n) e ≡ answer (images_checks file next left) e
  pub sum : samples + length (samples_from file next left) ≡ length (samples_from file at n)
  pub place : next_from file next left ≡ next_from file at n

module _ {file : List ℕ} {at n : ℕ} where
  -- the checks that are left
  to_read : {samples next left rest : ℕ} → Counted file at n samples next left → left ≡ suc rest → (e : Run)
      → answer (images_checks file at n) e ≡ answer (read_checks file next ++ images_checks file (image_read file next).next rest) e
  to_read {next = next} {rest = rest} c l e =
      c.answers e ∙ ap (λ (k : List Check). answer k e) (ap (images_checks file next) l ∙ checks_more file next rest)

  to_end : {samples next left : ℕ} → Counted file at n samples next left → left ≡ 0 → (e : Run) → answer (images_checks file at n) e ≡ answer (place_past file next ∷ []) e
  to_end {next = next} c l e = c.answers e ∙ ap (λ (k : List Check). answer k e) (ap (images_checks file next) l ∙ checks_none file next 0)

  pub one_counted : {samples next left rest : ℕ} {i : Image} → Counted file at n samples next left → left ≡ suc rest → accepted i ≡ read file next
      → Counted file at n (samples + (i.next - i.start)) i.next rest
  unfolding read
  one_counted {samples} {next} {left} {rest} {i} c l a =
      let e = image_is file next a in
      let w = passes_read file _ (sym a) in
      record {
        answers = λ v.
            to_read c l v
            ∙ pass_all v (read_checks file next) _ (accepted_too _ v (read_checks file next) (sym a))
            ∙ ap (λ (j : Image). answer (images_checks file j.next rest) v) (sym e);
        sum =
            subst (λ (j : Image). samples + (j.next - j.start) + length (samples_from file j.next rest) ≡ length (samples_from file at n)) (sym e)
            (omega (arith, c.sum, ap (λ (m : ℕ). length (samples_from file next m)) l, count_more file next rest, w.ends, w.counted, samples_long file w));
        place = ap (λ (j : Image). next_from file j.next rest) e ∙ sym (next_more file next rest) ∙ ap (next_from file next) (sym l) ∙ c.place;
      }

  pub one_refused : {samples next left k : ℕ} {v : List ℕ} → Counted file at n samples next left → 0 < left → refused k v ≡ read file next
      → refused k v ≡ answer (images_checks file at n) (extent file at n)
  unfolding read
  one_refused {next = next} {left = left} c h a =
      let l : left ≡ suc (left - 1) = omega arith in
      stop_all _ (read_checks file next) _ (refused_too _ (extent file at n) (read_checks file next) (sym a)) ∙ sym (to_read c l (extent file at n))

  pub end_past : {samples next left : ℕ} → Counted file at n samples next left → left ≡ 0 → length file < next
      → refused 13 [] ≡ answer (images_checks file at n) (extent file at n)
  unfolding place_past
  end_past {next = next} c l h = stop _ (place_past file next) [] (lt-ltb (length file) next h) ∙ sym (to_end c l (extent file at n))

  pub all_counted : {samples next left : ℕ} → Counted file at n samples next left → left ≡ 0 → next ≤ length file
      → accepted (record { samples = samples; next = next }) ≡ answer (images_checks file at n) (extent file at n)
  unfolding place_past
  all_counted {samples} {next} c l h =
      let s : samples ≡ length (samples_from file at n) = omega (arith, c.sum, ap length (ap (samples_from file next) l ∙ samples_none file next 0)) in
      let p : next ≡ next_from file at n = sym (ap (next_from file next) l ∙ next_none file next 0) ∙ c.place in
      ap₂ ended s p ∙ skip _ (place_past file next) [] (le-ltb (length file) next h) (done _) ∙ sym (to_end c l (extent file at n))
    where
      ended : ℕ → ℕ → Answer Run
      ended a b = accepted (record { samples = a; next = b })
