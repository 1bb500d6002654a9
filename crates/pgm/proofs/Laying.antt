-- Laying out the images of a run: what is stored so far, with what is left stored behind it, is the whole.
use mathlib.Core.Path.{◌≡◌, refl, sym, ap, subst, ◌∙◌}
use mathlib.Core.List.{List, [], ◌∷◌, ◌++◌, map}
use Prim.Native.Nat.{ℕ, zero, suc, ◌+◌, ◌-◌, ◌<◌, ◌≤◌}
use native.Mathlib.Numerals.{add-one}
use native.Mathlib.Omega.{arith}
use lib.ListN.{length, set, length-append}
use lib.Seq.{sets, length-sets}
use Rattle.definitions.specs.Refusals.{Check, accepted, answer}
use Rattle.laws.specs.checks.Checks.{passed_all}
use Rattle.laws.specs.general.Writes.{sets_append, sets_whole}
use Rattle.pgm_format.specs.Pgm.{Image, read_checks, image_read, samples_of}
use Rattle.pgm_format.specs.Stack.{images_from, images_checks, widths_of, heights_of, joined_samples}
use Rattle.pgm.proofs.Runs.{samples_from, samples_none, samples_more, checks_more}

-- ---- one number of each image: k are stored, `left` are not yet

module _ (f : Image → ℕ) (file : List ℕ) where
  abbrev numbers : ℕ → ℕ → List ℕ
  numbers at n = map f (images_from file at n)

  numbers_none : (at : ℕ) → numbers at 0 ≡ []
  unfolding images_from
  numbers_none at = refl

  numbers_more : (at n : ℕ) → numbers at (suc n) ≡ f (image_read file at) ∷ numbers (image_read file at).next n
  unfolding images_from
  numbers_more at n = refl

  numbers_many : (at n : ℕ) → length (numbers at n) ≡ n
  numbers_many at zero = ap length (numbers_none at)
  numbers_many at (suc n) = ap length (numbers_more at n) ∙ ap suc (numbers_many (image_read file at).next n)

  module _ (at n : ℕ) (l : List ℕ) where
    abbrev Numbered : ℕ → ℕ → ℕ → Type 0
    Numbered place k left = sets l k (numbers place left) ≡ numbers at n

    none_numbered : length l ≡ n → Numbered at 0 n
    none_numbered h = sets_whole l (numbers at n) (numbers_many at n ∙ sym h)

    all_numbered : (place k left : ℕ) → Numbered place k left → left ≡ 0 → l ≡ numbers at n
    all_numbered place k left e h = ap (sets l k) (sym (ap (numbers place) h ∙ numbers_none place)) ∙ e

    kept_numbers : (place k left : ℕ) → Numbered place k left → length l ≡ n
    kept_numbers place k left e = sym (length-sets l k (numbers place left)) ∙ ap length e ∙ numbers_many at n

  one_numbered : (at n : ℕ) (l : List ℕ) (place k left rest : ℕ) → Numbered at n l place k left → left ≡ suc rest
      → Numbered at n (set l k (f (image_read file place))) (image_read file place).next (k + 1) rest
  one_numbered at n l place k left rest e h =
      ap (λ (m : ℕ). sets (set l k (f (image_read file place))) m (numbers (image_read file place).next rest)) (add-one k)
      ∙ ap (sets l k) (sym (ap (numbers place) h ∙ numbers_more place rest))
      ∙ e

-- ---- k images are laid out, `left` are not yet

abbrev wide : Image → ℕ
wide i = i.width

abbrev high : Image → ℕ
high i = i.height

pub record Laid (file : List ℕ) (at n : ℕ) (w h s : List ℕ) (place from k left : ℕ) : Type 0 where
  pub pass : answer (images_checks file place left) (tt {0}) ≡ accepted tt
  pub widths : Numbered wide file at n w place k left
  pub heights : Numbered high file at n h place k left
  pub joined : sets s from (samples_from file place left) ≡ samples_from file at n
  pub room : from + length (samples_from file place left) ≡ length s

module _ {file : List ℕ} {at n : ℕ} {w h s : List ℕ} where
  pub none_laid : {left : ℕ} → left ≡ n → length w ≡ n → length h ≡ n → length s ≡ length (samples_from file at n) → answer (images_checks file at n) (tt {0}) ≡ accepted tt
      → Laid file at n w h s at 0 0 left
  none_laid l p q r a = subst (Laid file at n w h s at 0 0) (sym l) (record {
    pass = a;
    widths = none_numbered wide file at n w p;
    heights = none_numbered high file at n h q;
    joined = sets_whole s (samples_from file at n) (sym r);
    room = omega arith;
  })

  module _ {place from k left : ℕ} (d : Laid file at n w h s place from k left) where
    pub kept_widths : length w ≡ n
    kept_widths = kept_numbers wide file at n w place k left d.widths

    -- the next image's checks, and those of the images behind it
    apart : {rest : ℕ} → left ≡ suc rest
        → (answer (read_checks file place) (tt {0}) ≡ accepted tt) × (answer (images_checks file (image_read file place).next rest) (tt {0}) ≡ accepted tt)
    apart {rest} l =
        passed_all tt (read_checks file place) _
        (ap (λ (c : List Check). answer c (tt {0})) (sym (ap (images_checks file place) l ∙ checks_more file place rest)) ∙ d.pass)

    -- and its samples, before those behind it
    next_samples : {part : List ℕ} {i : Image} {rest : ℕ} → left ≡ suc rest → i ≡ image_read file place → part ≡ samples_of file i
        → samples_from file place left ≡ part ++ samples_from file (image_read file place).next rest
    next_samples {rest = rest} l e p =
        ap (samples_from file place) l
        ∙ samples_more file place rest
        ∙ ap (λ (m : List ℕ). m ++ samples_from file (image_read file place).next rest) (sym (p ∙ ap (samples_of file) e))

    pub one_passes : 0 < left → answer (read_checks file place) (tt {0}) ≡ accepted tt
    one_passes g = let l : left ≡ suc (left - 1) = omega arith in (apart l).0

    pub one_fits : {part : List ℕ} {i : Image} → 0 < left → i ≡ image_read file place → part ≡ samples_of file i → from + length part ≤ length s
    one_fits {part} g e p =
        let l : left ≡ suc (left - 1) = omega arith in
        omega (arith, d.room, ap length (next_samples l e p), length-append part (samples_from file (image_read file place).next (left - 1)))

    pub one_laid : {new part : List ℕ} {i : Image} {rest : ℕ} → left ≡ suc rest → i ≡ image_read file place → part ≡ samples_of file i → new ≡ sets s from part
        → Laid file at n (set w k i.width) (set h k i.height) new i.next (from + length part) (k + 1) rest
    one_laid {new} {part} {i} {rest} l e p t =
        let behind = samples_from file (image_read file place).next rest in
        subst (λ (j : Image). Laid file at n (set w k j.width) (set h k j.height) new j.next (from + length part) (k + 1) rest) (sym e) (record {
          pass = (apart l).1;
          widths = one_numbered wide file at n w place k left rest d.widths l;
          heights = one_numbered high file at n h place k left rest d.heights l;
          joined =
              ap (λ (m : List ℕ). sets m (from + length part) behind) t
              ∙ sym (ap (sets s from) (next_samples l e p) ∙ sets_append s from part behind)
              ∙ d.joined;
          room =
              omega (arith, d.room, ap length (next_samples l e p), length-append part behind, ap length t ∙ length-sets s from part);
        })

    pub all_laid : left ≡ 0 → (w ≡ widths_of (images_from file at n)) × ((h ≡ heights_of (images_from file at n)) × (s ≡ joined_samples file (images_from file at n)))
    unfolding widths_of heights_of
    all_laid l = (
      all_numbered wide file at n w place k left d.widths l,
      (
        all_numbered high file at n h place k left d.heights l,
        ap (sets s from) (sym (ap (samples_from file place) l ∙ samples_none file place 0)) ∙ d.joined,
      ),
    )
