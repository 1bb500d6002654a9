use mathlib.Core.Path.{◌≡◌, sym, ap, ◌∙◌}
use Prim.Native.Nat.{ℕ, ◌+◌, ◌*◌, ◌/◌, ◌%◌, ◌≤◌, ◌<◌}
use native.Mathlib.Omega.{arith}
use lib.ListN.{length, get_or, set}
use Rattle.definitions.specs.Bitmap.{with_bit}
use Rattle.definitions.specs.Refusals.{pixel_checks, answer}
use Rattle.definitions.specs.Sum.{bit}
use Rattle.laws.specs.bitmaps.Bitmaps.{with_one}
use Rattle.laws.specs.checks.Checks.{after_accepted, after_refused}
use Rattle.mtb_align.specs.Answers.{refusal}
use Rattle.mtb_align.proofs.Pixels.{word_of_pixel}
use Rattle.mtb_align.proofs.bitmap.set.Goals.{After-words_per_row-n}
use Rattle.mtb_align.proofs.bitmap.set.Goals as goal

pub returns-in_err-pixel_fits-clause-words : goal.returns-in_err-pixel_fits-clause-words
returns-in_err-pixel_fits-clause-words c =
    let x = c.args in
    let l = pixel_checks x.width x.height (length x.words.now) x.x x.y in
    let p : refusal c.in_err-pixel_fits.field-0.0 ≡ answer l (tt {0}) = c.in_err-pixel_fits.ensures in
    sym (after_refused (tt {0}) l _ _ (sym p))

-- the word that is read and written
touched : (c : After-words_per_row-n) →
    let x = c.args in
    (x.y * c.words_per_row-n.result + x.x / 64 < length x.words.now) × (length x.words.now ≤ 1048576)
touched c = word_of_pixel _ _ _ _ _ _ c.words_per_row-n.ensures c.in_ok-pixel_fits.ensures

pub overflow_mul-at : goal.overflow_mul-at
overflow_mul-at c = omega (arith, touched (goal.at.overflow_mul-at c).After-words_per_row-n)

pub overflow_add-at : goal.overflow_add-at
overflow_add-at c = omega (arith, touched (goal.at.overflow_add-at c).After-words_per_row-n)

pub offset_bounds-words-at : goal.offset_bounds-words-at
offset_bounds-words-at c = omega (arith, touched (goal.at.offset_bounds-words-at c).After-words_per_row-n)

pub bounds-words-at : goal.bounds-words-at
bounds-words-at c = (touched (goal.at.bounds-words-at c).After-words_per_row-n).0

pub offset_bounds-words-at-2 : goal.offset_bounds-words-at-2
offset_bounds-words-at-2 c = omega (arith, touched (goal.at.offset_bounds-words-at-2 c).After-words_per_row-n)

pub bounds-words-at-2 : goal.bounds-words-at-2
bounds-words-at-2 c = (touched (goal.at.bounds-words-at-2 c).After-words_per_row-n).0

pub returns-clause-words : goal.returns-clause-words
unfolding with_bit
returns-clause-words c =
    let x = c.args in
    let words = x.words.now in
    ap (set words (x.y * c.words_per_row-n.result + x.x / 64)) c.with_bit.ensures
    ∙ ap (λ (n : ℕ). set words (x.y * n + x.x / 64) (with_one (get_or words (x.y * n + x.x / 64) 0) (x.x % 64) (bit x.value))) c.words_per_row-n.ensures
    ∙ sym (after_accepted (tt {0}) _ _ _ (sym c.in_ok-pixel_fits.ensures))
