use mathlib.Core.Path.{◌≡◌, sym, ap, ◌∙◌, subst}
use mathlib.Core.List.{List}
use Prim.Native.Nat.{ℕ, ◌-◌, ◌*◌}
use native.Mathlib.Omega.{arith}
use lib.ListN.{take}
use Rattle.definitions.specs.Geometry.{Shift}
use Rattle.definitions.specs.Align.{refined, step_words}
use Rattle.definitions.specs.Refusals.{FreeUpTo}
use Rattle.laws.specs.bitmaps.Bitmaps.{words_of_rows}
use Rattle.mtb_align.specs.Answers.{shift_in}
use Rattle.mtb_align.specs.Layout.{cost_in}
use Rattle.mtb_align.specs.Search.{options_in, reference_in, target_in, four_of}
use Rattle.mtb_align.proofs.Four.{TwoPairs, four_front, four_free, four_pairs, four_costs}
use Rattle.mtb_align.proofs.align.level_step.Goals.{After-pack_both}
use Rattle.mtb_align.proofs.align.level_step.Goals as goal

abbrev words : After-pack_both → List ℕ
words c = c.pack_both.new.words

-- how many the search is handed
abbrev handed : After-pack_both → ℕ
handed c = 4 * (c.args.pair.now.height * c.words_per_row.result) - 0

free : (c : After-pack_both) → let x = c.args in FreeUpTo (step_words x.pair.now.width x.pair.now.height) x.words.now (words c)
unfolding step_words
free c = four_free _ _ _ _ _ c.args.words.now c.requires.0 c.pack_both.ensures

front : (c : After-pack_both)
    → let x = c.args in
    let f = x.pair.now in
    take (handed c) (words c) ≡ four_of f.width f.height f.options.tolerance (reference_in f) (target_in f)
unfolding step_words
front c =
    four_front _ _ _ _ _ c.args.words.now c.requires.0 c.pack_both.ensures (handed c) (omega (arith, (words_of_rows _ _ c.args.pair.now.wide c.args.pair.now.high c.words_per_row.ensures).0))

pub overflow_mul-n : goal.overflow_mul-n
overflow_mul-n c = omega (arith, (words_of_rows _ _ c.args.pair.now.wide c.args.pair.now.high c.words_per_row.ensures).1)

pub overflow_mul-packed : goal.overflow_mul-packed
overflow_mul-packed c = omega (arith, (words_of_rows _ _ c.args.pair.now.wide c.args.pair.now.high c.words_per_row.ensures).1)

pub slice_bounds-packed-end : goal.slice_bounds-packed-end
unfolding step_words
slice_bounds-packed-end c =
    omega (arith, (words_of_rows _ _ c.args.pair.now.wide c.args.pair.now.high c.words_per_row.ensures).0, c.requires.0, (free (goal.at.slice_bounds-packed-end c).After-pack_both).long)

pub invariant_of-packed : goal.invariant_of-packed
invariant_of-packed c =
    let f = c.args.pair.now in
    let q = subst (λ (l : List ℕ). TwoPairs l f.width f.height) (sym (front (goal.at.invariant_of-packed c).After-pack_both)) (four_pairs _ _ _ _ _ f.wide f.high) in
    record {
      wide = q.wide;
      high = q.high;
      long = q.long;
      reference_threshold = q.reference_threshold;
      reference_exclusion = q.reference_exclusion;
      target_threshold = q.target_threshold;
      target_exclusion = q.target_exclusion;
    }

pub returns : goal.returns
returns c =
    let x = c.args in
    let f = x.pair.now in
    let e =
    ap (λ (l : List ℕ). cost_in l f.width f.height) (front (goal.at.returns c).After-pack_both)
    ∙ four_costs (options_in f.options) f.width f.height (reference_in f) (target_in f) in
    record { result_value = c.refine.ensures ∙ ap (λ (cost : Shift → ℕ). refined cost (shift_in x.around)) e; free_up_to = free (goal.at.returns c).After-pack_both }
