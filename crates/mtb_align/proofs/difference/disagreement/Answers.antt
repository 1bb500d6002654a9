use mathlib.Core.Path.{◌≡◌, sym, ap, ◌∙◌}
use mathlib.Core.Bool.{Bool, false}
use Prim.Native.Nat.{ℕ, ◌*◌, ◌≤◌}
use native.Mathlib.Omega.{arith}
use borrow.Author.Tests.{ltb-true, ltb-false}
use Rattle.definitions.specs.Refusals.{either_over}
use Rattle.laws.specs.bitmaps.Bitmaps.{bitmap_most}
use Rattle.laws.specs.checks.Checks.{sides_within}
use Rattle.laws.specs.checks.ChecksDifference.{Sized, Long, long_as, reference_over, target_over, widths_differ, heights_differ, first_long, second_long, third_long, fourth_long, some_padded}
use Rattle.laws.specs.checks.ChecksDifference.{all_right, bitmaps}
use Rattle.mtb_align.proofs.difference.disagreement.Goals.{After-words_per_row, Else-target_exclusion-words}
use Rattle.mtb_align.proofs.difference.disagreement.Goals as goal

-- past a check of the sides
passed : (w h : ℕ) {over : Bool} → over ≡ either_over w h → over ≡ false → (w ≤ 8192) × (h ≤ 8192)
passed w h is e = sides_within w h (sym is ∙ e)

-- past those of the sizes
sized : (c : After-words_per_row) →
    let x = c.args in
    Sized x.width x.height x.target_width x.target_height (x.height * c.words_per_row.result)
sized c = record {
  sides = passed _ _ c.side_over.ensures c.if-side_over.false;
  target_sides = passed _ _ c.side_over-2.ensures c.if-side_over-2.false;
  widths = c.if-width-target_width.false;
  heights = c.if-height-target_height.false;
  words_are = ap (λ (n : ℕ). c.args.height * n) c.words_per_row.ensures;
}

-- past those of the lengths
long : (c : Else-target_exclusion-words) →
    let x = c.args in
    Long x.reference_threshold.now x.reference_exclusion.now x.target_threshold.now x.target_exclusion.now (x.height * c.words_per_row.result)
long c = record { first = c.if-reference_threshold-words.false; second = c.if-reference_exclusion-words.false; third = c.if-target_threshold-words.false; fourth = c.if-target_exclusion-words.false }

pub returns-then-side_over : goal.returns-then-side_over
returns-then-side_over c = reference_over _ _ _ _ _ _ _ _ _ (sym c.side_over.ensures ∙ c.if-side_over.true)

pub returns-then-side_over-2 : goal.returns-then-side_over-2
returns-then-side_over-2 c = target_over _ _ _ _ _ _ _ _ _ (passed _ _ c.side_over.ensures c.if-side_over.false) (sym c.side_over-2.ensures ∙ c.if-side_over-2.true)

pub returns-then-width-target_width : goal.returns-then-width-target_width
returns-then-width-target_width c =
    widths_differ _ _ _ _ _ _ _ _ _ (passed _ _ c.side_over.ensures c.if-side_over.false) (passed _ _ c.side_over-2.ensures c.if-side_over-2.false) c.if-width-target_width.true

pub returns-then-height-target_height : goal.returns-then-height-target_height
returns-then-height-target_height c =
    heights_differ _ _ _ _ _ _ _ _ _ (passed _ _ c.side_over.ensures c.if-side_over.false) (passed _ _ c.side_over-2.ensures c.if-side_over-2.false) c.if-height-target_height.true

pub overflow_mul-words : goal.overflow_mul-words
overflow_mul-words c = let s = sized (goal.at.overflow_mul-words c).After-words_per_row in omega (arith, s.words_are, bitmap_most _ _ s.sides.0 s.sides.1)

pub returns-then-reference_threshold-words : goal.returns-then-reference_threshold-words
returns-then-reference_threshold-words c = first_long _ _ _ _ _ _ _ _ _ (sized (goal.at.returns-then-reference_threshold-words c).After-words_per_row) c.if-reference_threshold-words.true

pub returns-then-reference_exclusion-words : goal.returns-then-reference_exclusion-words
returns-then-reference_exclusion-words c =
    second_long _ _ _ _ _ _ _ _ _ (sized (goal.at.returns-then-reference_exclusion-words c).After-words_per_row) c.if-reference_threshold-words.false c.if-reference_exclusion-words.true

pub returns-then-target_threshold-words : goal.returns-then-target_threshold-words
returns-then-target_threshold-words c =
    third_long _ _ _ _ _ _ _ _ _ (sized (goal.at.returns-then-target_threshold-words c).After-words_per_row)
    c.if-reference_threshold-words.false c.if-reference_exclusion-words.false c.if-target_threshold-words.true

pub returns-then-target_exclusion-words : goal.returns-then-target_exclusion-words
returns-then-target_exclusion-words c =
    fourth_long _ _ _ _ _ _ _ _ _ (sized (goal.at.returns-then-target_exclusion-words c).After-words_per_row)
    c.if-reference_threshold-words.false c.if-reference_exclusion-words.false c.if-target_threshold-words.false c.if-target_exclusion-words.true

pub invariant_of-sides : goal.invariant_of-sides
invariant_of-sides c = let s = (sized (goal.at.invariant_of-sides c).After-words_per_row).sides in record { wide = s.0; high = s.1 }

pub padded-requires : goal.padded-requires
padded-requires c =
    let s = sized (goal.at.padded-requires c).After-words_per_row in
    long_as (long (goal.at.padded-requires c).Else-target_exclusion-words) s.words_are

pub returns-then-padded : goal.returns-then-padded
returns-then-padded c =
    some_padded _ _ _ _ _ _ _ _ _ (sized (goal.at.returns-then-padded c).After-words_per_row) (long (goal.at.returns-then-padded c).Else-target_exclusion-words)
    (ltb-true _ _ (sym c.padded.ensures ∙ c.if-padded.true))

pub count-requires : goal.count-requires
count-requires c =
    let s = sized (goal.at.count-requires c).After-words_per_row in
    bitmaps _ _ _ _ _ _ _ _ s (long (goal.at.count-requires c).Else-target_exclusion-words) (ltb-false _ _ (sym c.padded.ensures ∙ c.if-padded.false))

pub returns : goal.returns
returns c =
    all_right _ _ _ _ _ _ _ _ _ (sized (goal.at.returns c).After-words_per_row) (long (goal.at.returns c).Else-target_exclusion-words)
    (ltb-false _ _ (sym c.padded.ensures ∙ c.if-padded.false)) c.count.ensures
