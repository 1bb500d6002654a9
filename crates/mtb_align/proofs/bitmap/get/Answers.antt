use mathlib.Core.Path.{◌≡◌, sym, ap, ◌∙◌}
use Prim.Native.Nat.{ℕ, ◌+◌, ◌*◌, ◌/◌, ◌%◌, ◌≤◌, ◌<◌}
use native.Mathlib.Omega.{arith}
use lib.Dec.{eqb}
use lib.ListN.{length, get_or}
use Rattle.definitions.specs.Bitmap.{bit_of, bit_at}
use Rattle.definitions.specs.Refusals.{pixel_checks, accepted, answer}
use Rattle.laws.specs.bitmaps.Bitmaps.{bit_test}
use Rattle.laws.specs.checks.Checks.{accepted_too, refused_too}
use Rattle.mtb_align.specs.Answers.{refusal}
use Rattle.mtb_align.proofs.Answered.{passed_on}
use Rattle.mtb_align.proofs.Pixels.{word_of_pixel}
use Rattle.mtb_align.proofs.bitmap.get.Goals.{After-words_per_row-n}
use Rattle.mtb_align.proofs.bitmap.get.Goals as goal

pub returns-in_err-pixel_fits : goal.returns-in_err-pixel_fits
returns-in_err-pixel_fits c =
    let x = c.args in
    let l = pixel_checks x.width x.height (length x.words.now) x.x x.y in
    let p : refusal c.in_err-pixel_fits.field-0.0 ≡ answer l (tt {0}) = c.in_err-pixel_fits.ensures in
    passed_on _ _ _ c.from_residual.ensures ∙ sym (refused_too (tt {0}) _ l (sym p))

-- the word that is read
read : (c : After-words_per_row-n) →
    let x = c.args in
    (x.y * c.words_per_row-n.result + x.x / 64 < length x.words.now) × (length x.words.now ≤ 1048576)
read c = word_of_pixel _ _ _ _ _ _ c.words_per_row-n.ensures c.in_ok-pixel_fits.ensures

pub overflow_mul-result : goal.overflow_mul-result
overflow_mul-result c = omega (arith, read (goal.at.overflow_mul-result c).After-words_per_row-n)

pub overflow_add-result : goal.overflow_add-result
overflow_add-result c = omega (arith, read (goal.at.overflow_add-result c).After-words_per_row-n)

pub offset_bounds-words-y : goal.offset_bounds-words-y
offset_bounds-words-y c = omega (arith, read (goal.at.offset_bounds-words-y c).After-words_per_row-n)

pub bounds-words-y : goal.bounds-words-y
bounds-words-y c = (read (goal.at.bounds-words-y c).After-words_per_row-n).0

pub returns : goal.returns
unfolding bit_at
returns c =
    let x = c.args in
    ap (λ (v : ℕ). accepted (eqb v 1))
    (bit_test (get_or x.words.now (x.y * c.words_per_row-n.result + x.x / 64) 0) (x.x % 64)
    ∙ ap (λ (n : ℕ). bit_of (get_or x.words.now (x.y * n + x.x / 64) 0) (x.x % 64)) c.words_per_row-n.ensures)
    ∙ sym (accepted_too (tt {0}) _ _ (sym c.in_ok-pixel_fits.ensures))
