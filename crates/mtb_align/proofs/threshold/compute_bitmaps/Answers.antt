use mathlib.Core.Path.{◌≡◌, sym, ap, ◌∙◌}
use Prim.Native.Nat.{ℕ, ◌*◌, ◌≤◌}
use native.Mathlib.Omega.{arith}
use Rattle.definitions.specs.Bitmap.{bitmap_words, packed}
use Rattle.definitions.specs.Difference.{bitmaps_of}
use Rattle.definitions.specs.Refusals.{packing_checks}
use Rattle.laws.specs.bitmaps.Bitmaps.{bitmap_most}
use Rattle.laws.specs.checks.Checks.{sides_within, sides_stop, sides_skip, length_stop, length_skip, percentile_stop, percentile_skip, done, refuses_two, accepts_two}
use Rattle.laws.specs.images.Sizes.{area}
use Rattle.mtb_align.proofs.threshold.compute_bitmaps.Goals.{After-words_per_row, Else-side_over}
use Rattle.mtb_align.proofs.threshold.compute_bitmaps.Goals as goal

-- past the first test
within : (c : Else-side_over) → let a = c.args in (a.width ≤ 8192) × (a.height ≤ 8192)
within c = sides_within _ _ (sym c.side_over.ensures ∙ c.if-side_over.false)

-- the words of a bitmap as the code has them
words_are : (c : After-words_per_row) → let a = c.args in a.height * c.words_per_row.result ≡ bitmap_words a.width a.height
words_are c = ap (λ (n : ℕ). c.args.height * n) c.words_per_row.ensures

pub returns-then-side_over : goal.returns-then-side_over
unfolding packing_checks
returns-then-side_over c =
    let q = refuses_two _ _ _ _ _ (sides_stop tt _ _ _ (sym c.side_over.ensures ∙ c.if-side_over.true)) in
    record { answer = q.0; threshold = q.1.0; exclusion = q.1.1 }

pub overflow_mul-width : goal.overflow_mul-width
overflow_mul-width c = omega (arith, area _ _ (within (goal.at.overflow_mul-width c).Else-side_over).0 (within (goal.at.overflow_mul-width c).Else-side_over).1)

pub returns-then-samples-width : goal.returns-then-samples-width
unfolding packing_checks
returns-then-samples-width c =
    let q = refuses_two _ _ _ _ _ (sides_skip tt _ _ _ (within (goal.at.returns-then-samples-width c).Else-side_over) (length_stop tt _ _ _ c.if-samples-width.true)) in
    record { answer = q.0; threshold = q.1.0; exclusion = q.1.1 }

pub overflow_mul-words : goal.overflow_mul-words
overflow_mul-words c =
    let s = within (goal.at.overflow_mul-words c).Else-side_over in
    omega (arith, words_are (goal.at.overflow_mul-words c).After-words_per_row, bitmap_most _ _ s.0 s.1)

pub returns-then-threshold-words : goal.returns-then-threshold-words
unfolding packing_checks
returns-then-threshold-words c =
    let q = refuses_two _ _ _ _ _ (sides_skip tt _ _ _ (within (goal.at.returns-then-threshold-words c).Else-side_over)
    (length_skip tt _ _ _ c.if-samples-width.false (length_stop tt _ _ _ (λ p. c.if-threshold-words.true (p ∙ sym (words_are (goal.at.returns-then-threshold-words c).After-words_per_row)))))) in
    record { answer = q.0; threshold = q.1.0; exclusion = q.1.1 }

pub returns-then-exclusion-words : goal.returns-then-exclusion-words
unfolding packing_checks
returns-then-exclusion-words c =
    let q = refuses_two _ _ _ _ _
    (sides_skip tt _ _ _ (within (goal.at.returns-then-exclusion-words c).Else-side_over)
    (length_skip tt _ _ _ c.if-samples-width.false
    (length_skip tt _ _ _ (c.if-threshold-words.false ∙ words_are (goal.at.returns-then-exclusion-words c).After-words_per_row)
    (length_stop tt _ _ _ (λ p. c.if-exclusion-words.true (p ∙ sym (words_are (goal.at.returns-then-exclusion-words c).After-words_per_row))))))) in
    record { answer = q.0; threshold = q.1.0; exclusion = q.1.1 }

pub returns-then-percentile-gt-HIGHEST_PERCENTILE : goal.returns-then-percentile-gt-HIGHEST_PERCENTILE
unfolding packing_checks
returns-then-percentile-gt-HIGHEST_PERCENTILE c =
    let q = refuses_two _ _ _ _ _
    (sides_skip tt _ _ _ (within (goal.at.returns-then-percentile-gt-HIGHEST_PERCENTILE c).Else-side_over)
    (length_skip tt _ _ _ c.if-samples-width.false
    (length_skip tt _ _ _ (c.if-threshold-words.false ∙ words_are (goal.at.returns-then-percentile-gt-HIGHEST_PERCENTILE c).After-words_per_row)
    (length_skip tt _ _ _ (c.if-exclusion-words.false ∙ words_are (goal.at.returns-then-percentile-gt-HIGHEST_PERCENTILE c).After-words_per_row)
    (percentile_stop tt _ _ c.if-percentile-gt-HIGHEST_PERCENTILE.true))))) in
    record { answer = q.0; threshold = q.1.0; exclusion = q.1.1 }

pub invariant_of-frame : goal.invariant_of-frame
invariant_of-frame c = let s = within (goal.at.invariant_of-frame c).Else-side_over in record { wide = s.0; high = s.1; whole = c.if-samples-width.false }

pub pack-requires : goal.pack-requires
pack-requires c =
    let w = words_are (goal.at.pack-requires c).After-words_per_row in
    (c.if-threshold-words.false ∙ w, c.if-exclusion-words.false ∙ w)

pub returns : goal.returns
unfolding packing_checks
returns c =
    let a = c.args in
    let k = c.cut_of.ensures in
    let r = c.pack.ensures in
    let q = accepts_two _ _ _ _ _
    (sides_skip tt _ _ _ (within (goal.at.returns c).Else-side_over)
    (length_skip tt _ _ _ c.if-samples-width.false
    (length_skip tt _ _ _ (c.if-threshold-words.false ∙ words_are (goal.at.returns c).After-words_per_row)
    (length_skip tt _ _ _ (c.if-exclusion-words.false ∙ words_are (goal.at.returns c).After-words_per_row)
    (percentile_skip tt _ _ c.if-percentile-gt-HIGHEST_PERCENTILE.false (done tt))))))
    (r.0 ∙ ap (λ (n : ℕ). packed a.width a.height (bitmaps_of a.width a.samples.now n a.tolerance).threshold) k)
    (r.1 ∙ ap (λ (n : ℕ). packed a.width a.height (bitmaps_of a.width a.samples.now n a.tolerance).exclusion) k) in
    record { answer = q.0; threshold = q.1.0; exclusion = q.1.1 }
