use mathlib.Core.Path.{sym, ◌∙◌}
use Prim.Native.Nat.{◌≤◌}
use native.Mathlib.Omega.{arith}
use Rattle.definitions.specs.Refusals.{pixel_checks}
use Rattle.laws.specs.checks.Checks.{sides_within, sides_stop}
use Rattle.mtb_align.proofs.Pixels.{bitmap_fits, long_stop, column_stop, row_stop, pixel_taken}
use Rattle.mtb_align.proofs.bitmap.pixel_fits.Goals.{Else-side_over}
use Rattle.mtb_align.proofs.bitmap.pixel_fits.Goals as goal

-- past the first check
sides : (c : Else-side_over) → let x = c.args in (x.width ≤ 8192) × (x.height ≤ 8192)
sides c = sides_within _ _ (sym c.side_over.ensures ∙ c.if-side_over.false)

pub returns-then-side_over : goal.returns-then-side_over
unfolding pixel_checks
returns-then-side_over c = sides_stop _ _ _ _ (sym c.side_over.ensures ∙ c.if-side_over.true)

pub overflow_mul-height : goal.overflow_mul-height
overflow_mul-height c = omega (arith, bitmap_fits _ _ _ c.words_per_row-n.ensures (sides (goal.at.overflow_mul-height c).Else-side_over))

pub returns-then-words-height : goal.returns-then-words-height
unfolding pixel_checks
returns-then-words-height c =
    long_stop _ _ _ c.words_per_row-n.ensures (sides (goal.at.returns-then-words-height c).Else-side_over) _ _ _ c.if-words-height.true

pub returns-then-x-width : goal.returns-then-x-width
returns-then-x-width c =
    column_stop _ _ _ c.words_per_row-n.ensures (sides (goal.at.returns-then-x-width c).Else-side_over) _ _ c.if-words-height.false _ _ c.if-x-width.true

pub returns-then-y-height : goal.returns-then-y-height
returns-then-y-height c =
    row_stop _ _ _ c.words_per_row-n.ensures (sides (goal.at.returns-then-y-height c).Else-side_over) _ _ c.if-words-height.false _ _ c.if-x-width.false c.if-y-height.true

pub returns : goal.returns
returns c =
    pixel_taken _ _ _ c.words_per_row-n.ensures (sides (goal.at.returns c).Else-side_over) _ _ c.if-words-height.false _ _ c.if-x-width.false c.if-y-height.false
