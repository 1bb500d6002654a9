use mathlib.Core.Path.{◌≡◌, sym, ap, ◌∙◌}
use Prim.Native.Nat.{ℕ, ◌+◌, ◌-◌, ◌*◌, ◌≤◌}
use native.Mathlib.Omega.{arith}
use lib.ListN.{take, drop}
use Rattle.definitions.specs.Bitmap.{row_of}
use Rattle.definitions.specs.Refusals.{row_checks}
use Rattle.laws.specs.checks.Checks.{sides_within, sides_stop, pixel_stop, pixel_skip, done, refuses, accepts}
use Rattle.mtb_align.proofs.Pixels.{bitmap_fits, long_stop, long_skip}
use Rattle.mtb_align.proofs.bitmap.row.Goals.{Else-side_over, Else-y-height}
use Rattle.mtb_align.proofs.bitmap.row.Goals as goal

-- past the first check
sides : (c : Else-side_over) → let x = c.args in (x.width ≤ 8192) × (x.height ≤ 8192)
sides c = sides_within _ _ (sym c.side_over.ensures ∙ c.if-side_over.false)

pub returns-then-side_over : goal.returns-then-side_over
unfolding row_checks
returns-then-side_over c = (refuses _ _ _ (sides_stop tt _ _ _ (sym c.side_over.ensures ∙ c.if-side_over.true))).1

pub overflow_mul-height : goal.overflow_mul-height
overflow_mul-height c = omega (arith, bitmap_fits _ _ _ c.words_per_row-n.ensures (sides (goal.at.overflow_mul-height c).Else-side_over))

pub returns-then-words-height : goal.returns-then-words-height
unfolding row_checks
returns-then-words-height c =
    (refuses _ _ _ (long_stop _ _ _ c.words_per_row-n.ensures (sides (goal.at.returns-then-words-height c).Else-side_over) tt _ _ c.if-words-height.true)).1

pub returns-then-y-height : goal.returns-then-y-height
unfolding row_checks
returns-then-y-height c =
    (refuses _ _ _ (long_skip _ _ _ c.words_per_row-n.ensures (sides (goal.at.returns-then-y-height c).Else-side_over) tt _ c.if-words-height.false _ (pixel_stop tt _ _ _ c.if-y-height.true))).1

pub returns : goal.returns
unfolding row_checks row_of
returns c =
    let x = c.args in
    let n = c.words_per_row-n.result in
    let e : x.y * n + n - x.y * n ≡ n = omega arith in
    (accepts _ _ _ (long_skip _ _ _ c.words_per_row-n.ensures (sides (goal.at.returns c).Else-side_over) tt _ c.if-words-height.false _ (pixel_skip tt _ _ _ c.if-y-height.false (done tt)))
    (ap (λ (k : ℕ). take k (drop (x.y * n) x.words.now)) e
    ∙ ap (λ (k : ℕ). take k (drop (x.y * k) x.words.now)) c.words_per_row-n.ensures)).1
