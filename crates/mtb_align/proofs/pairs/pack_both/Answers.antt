use mathlib.Core.Path.{◌≡◌, ap, ◌∙◌}
use Prim.Native.Nat.{◌*◌, ◌≤◌}
use native.Mathlib.Omega.{arith}
use lib.ListN.{length}
use lib.Seq.{sets}
use Rattle.definitions.specs.Align.{step_words}
use Rattle.definitions.specs.Bitmap.{bitmap_words}
use Rattle.laws.specs.bitmaps.Bitmaps.{words_of_rows}
use Rattle.mtb_align.specs.Search.{reference_in, target_in}
use Rattle.mtb_align.proofs.Four.{four_packed}
use Rattle.mtb_align.proofs.Parts.{sets_four}
use Rattle.mtb_align.proofs.pairs.pack_both.Goals.{After-words_per_row}
use Rattle.mtb_align.proofs.pairs.pack_both.Goals as goal

-- the words of a bitmap, and room for four
size : (c : After-words_per_row)
    → let f = c.args.pair.now in
    let n = f.height * c.words_per_row.result in
    (n ≡ bitmap_words f.width f.height) × (n ≤ 1048576) × (4 * n ≤ length c.args.words.now)
unfolding step_words
size c =
    let f = c.args.pair.now in
    let s = words_of_rows _ _ f.wide f.high c.words_per_row.ensures in
    (s.0, s.1, omega (arith, s.0, c.requires))

pub overflow_mul-n : goal.overflow_mul-n
overflow_mul-n c = omega (arith, (size (goal.at.overflow_mul-n c).After-words_per_row).1)

pub split_at_mut-threshold-requires : goal.split_at_mut-threshold-requires
split_at_mut-threshold-requires c = omega (arith, (size (goal.at.split_at_mut-threshold-requires c).After-words_per_row).2)

pub split_at_mut-exclusion-requires : goal.split_at_mut-exclusion-requires
split_at_mut-exclusion-requires c =
    omega (arith, (size (goal.at.split_at_mut-exclusion-requires c).After-words_per_row).2, c.split_at_mut-threshold.ensures.back_len)

pub split_at_mut-threshold-requires-2 : goal.split_at_mut-threshold-requires-2
split_at_mut-threshold-requires-2 c =
    let s = (size (goal.at.split_at_mut-threshold-requires-2 c).After-words_per_row).2 in
    omega (arith, s, c.split_at_mut-threshold.ensures.back_len, c.split_at_mut-exclusion.ensures.back_len)

pub split_at_mut-exclusion-requires-2 : goal.split_at_mut-exclusion-requires-2
split_at_mut-exclusion-requires-2 c =
    let s = (size (goal.at.split_at_mut-exclusion-requires-2 c).After-words_per_row).2 in
    omega (arith, s, c.split_at_mut-threshold.ensures.back_len, c.split_at_mut-exclusion.ensures.back_len, c.split_at_mut-threshold-2.ensures.back_len)

pub returns : goal.returns
returns c =
    let x = c.args in
    let f = x.pair.now in
    let n = f.height * c.words_per_row.result in
    let p = c.split_at_mut-threshold in
    let q = c.split_at_mut-exclusion in
    let r = c.split_at_mut-threshold-2 in
    let s = c.split_at_mut-exclusion-2 in
    let u = c.reference_frame-reference.ensures in
    let v = c.target_frame-target.ensures in
    let one = c.pack in
    let two = c.pack-2 in
    let m = one.new in
    let k = two.new in
    sets_four p.result.0.now q.result.0.now r.result.0.now s.result.0.now s.result.1.now m.threshold m.exclusion k.threshold k.exclusion n
    p.ensures.value q.ensures.value r.ensures.value s.ensures.value
    p.ensures.front_len q.ensures.front_len r.ensures.front_len s.ensures.front_len
    (one.auto.threshold ∙ p.ensures.front_len) (one.auto.exclusion ∙ q.ensures.front_len) (two.auto.threshold ∙ r.ensures.front_len) (two.auto.exclusion ∙ s.ensures.front_len)
    ∙ ap (sets x.words.now 0)
    (four_packed f.width f.height f.options.tolerance (reference_in f) (target_in f)
    (rw u.0 at c.cut_of-cut.ensures) (rw v.0 at c.cut_of-cut-2.ensures)
    (rw (u.0, u.1, u.2) at one.ensures.0) (rw (u.0, u.1, u.2) at one.ensures.1) (rw (v.0, v.1, v.2) at two.ensures.0) (rw (v.0, v.1, v.2) at two.ensures.1))
