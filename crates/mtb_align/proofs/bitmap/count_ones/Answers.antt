use mathlib.Core.Path.{◌≡◌, sym, ap, ◌∙◌}
use Prim.Native.Nat.{ℕ, ◌*◌, ◌≤◌}
use native.Mathlib.Omega.{arith}
use borrow.Author.Tests.{ltb-true, ltb-false}
use lib.ListN.{length}
use Rattle.definitions.specs.Bitmap.{bitmap_words}
use Rattle.definitions.specs.Refusals.{total_checks, accepted}
use Rattle.laws.specs.bitmaps.Bitmaps.{padding_clear, all_total}
use Rattle.laws.specs.checks.Checks.{sides_within, sides_stop, padded_stop, padded_skip, done}
use Rattle.mtb_align.proofs.Pixels.{bitmap_fits, long_stop, long_skip}
use Rattle.mtb_align.proofs.bitmap.count_ones.Goals.{Else-side_over, Else-words-height}
use Rattle.mtb_align.proofs.bitmap.count_ones.Goals as goal

-- past the first check
sides : (c : Else-side_over) → let x = c.args in (x.width ≤ 8192) × (x.height ≤ 8192)
sides c = sides_within _ _ (sym c.side_over.ensures ∙ c.if-side_over.false)

-- past the second
long : (c : Else-words-height) → let x = c.args in length x.words.now ≡ bitmap_words x.width x.height
long c = c.if-words-height.false ∙ ap (λ (n : ℕ). c.args.height * n) c.words_per_row.ensures

pub returns-then-side_over : goal.returns-then-side_over
unfolding total_checks
returns-then-side_over c = sides_stop _ _ _ _ (sym c.side_over.ensures ∙ c.if-side_over.true)

pub overflow_mul-height : goal.overflow_mul-height
overflow_mul-height c = omega (arith, bitmap_fits _ _ _ c.words_per_row.ensures (sides (goal.at.overflow_mul-height c).Else-side_over))

pub returns-then-words-height : goal.returns-then-words-height
unfolding total_checks
returns-then-words-height c =
    long_stop _ _ _ c.words_per_row.ensures (sides (goal.at.returns-then-words-height c).Else-side_over) _ _ _ c.if-words-height.true

pub invariant_of-sides : goal.invariant_of-sides
invariant_of-sides c = let s = sides (goal.at.invariant_of-sides c).Else-side_over in record { wide = s.0; high = s.1 }

pub padding_set-requires : goal.padding_set-requires
padding_set-requires c = long (goal.at.padding_set-requires c).Else-words-height

pub returns-then-padding_set : goal.returns-then-padding_set
unfolding total_checks
returns-then-padding_set c =
    long_skip _ _ _ c.words_per_row.ensures (sides (goal.at.returns-then-padding_set c).Else-side_over) _ _ c.if-words-height.false _
    (padded_stop _ _ _ _ _ (ltb-true _ _ (sym c.padding_set.ensures ∙ c.if-padding_set.true)))

pub ones_in-requires : goal.ones_in-requires
ones_in-requires c =
    omega (arith, c.if-words-height.false, bitmap_fits _ _ _ c.words_per_row.ensures (sides (goal.at.ones_in-requires c).Else-side_over))

pub returns : goal.returns
unfolding total_checks
returns c =
    let z = ltb-false _ _ (sym c.padding_set.ensures ∙ c.if-padding_set.false) in
    ap accepted (c.ones_in.ensures ∙ all_total (padding_clear _ _ _ (long (goal.at.returns c).Else-words-height) (omega (arith, z))))
    ∙ long_skip _ _ _ c.words_per_row.ensures (sides (goal.at.returns c).Else-side_over) _ _ c.if-words-height.false _ (padded_skip _ _ _ _ _ z (done _))
