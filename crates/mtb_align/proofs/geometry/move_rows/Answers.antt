use mathlib.Core.Path.{◌≡◌, sym, subst, ◌∙◌}
use mathlib.Core.List.{List}
use Prim.Native.Nat.{ℕ, ◌+◌, ◌-◌, ◌*◌, ◌≤◌, min}
use native.Mathlib.Omega.{arith}
use borrow.Author.Rules.{rules}
use lib.IntN.{ℤ}
use lib.ListN.{length, replicate, length-replicate}
use lib.Seq.{sets}
use mir.Syntax.{w32}
use mir.Val.{SFits, to_z, of_z}
use mir.Facts.{to_z-of_z}
use Rattle.definitions.specs.Geometry.{inside, outside, source, ahead, behind}
use Rattle.laws.specs.images.Places.{Covering, first_inside, first_outside}
use Rattle.laws.specs.images.Runs.{moved_off}
use Rattle.laws.specs.images.Sizes as sizes
use Rattle.laws.specs.general.Writes.{sets_whole}
use Rattle.mtb_align.specs.Answers.{shift_in}
use Rattle.mtb_align.proofs.Stretches.{moved_off_down, rows_fit, rows_written}
use Rattle.mtb_align.proofs.geometry.move_rows.Goals.{In-Some-source}
use Rattle.mtb_align.proofs.geometry.move_rows.Goals as goal

-- ---- what the calls give of the shift itself: a signed argument is passed by its bits

-- the places of a side that have a source are one run, or there is none
module _ (side before : ℕ) (z : ℤ) (f : SFits w32 z) (is : before ≡ min (ahead (to_z w32 (of_z w32 z))) (side - 1)) where
  covering : {first : ℕ} → inside first ≡ source before (to_z w32 (of_z w32 z)) side → Covering side z before first
  covering {first} e = subst (λ (x : ℤ). Covering side x before first) (to_z-of_z f) (first_inside _ _ _ is _ (sym e))

  uncovered : outside ≡ source before (to_z w32 (of_z w32 z)) side → side ≤ ahead z + behind z
  uncovered e = subst (λ (x : ℤ). side ≤ ahead x + behind x) (to_z-of_z f) (first_outside _ _ _ is (sym e))

-- zeros alone
zeros : (n : ℕ) (old : List ℕ) {new image : List ℕ} → length old ≡ n → new ≡ sets old 0 (replicate n 0) → image ≡ replicate n 0 → new ≡ image
zeros n old e p q = p ∙ sets_whole old (replicate n 0) (length-replicate n 0 ∙ sym e) ∙ sym q

pub returns-in_default : goal.returns-in_default
returns-in_default c =
    let f = c.args.frame.now in
    let g : SFits w32 c.args.shift.x = search rules in
    zeros _ c.args.moved.now c.requires c.clear_run.ensures
    (moved_off f.width f.height f.samples.now (shift_in c.args.shift) (uncovered _ _ _ g c.first_covered-before.ensures c.in_default.ensures))

pub returns-in_default-source : goal.returns-in_default-source
returns-in_default-source c =
    let f = c.args.frame.now in
    let g : SFits w32 c.args.shift.y = search rules in
    zeros _ c.args.moved.now c.requires c.clear_run-in_default-source.ensures
    (moved_off_down f.width f.height f.samples.now (shift_in c.args.shift) (uncovered _ _ _ g c.first_covered-upper.ensures c.in_default-source.ensures))

-- ---- where rows and columns have a source

module _ (c : In-Some-source) where
  across : Covering c.args.frame.now.width c.args.shift.x c.first_covered-before.result c.in-Some.first
  across =
      let g : SFits w32 c.args.shift.x = search rules in
      covering _ _ _ g c.first_covered-before.ensures c.in-Some.ensures

  down : Covering c.args.frame.now.height c.args.shift.y c.first_covered-upper.result c.in-Some-source.top
  down =
      let g : SFits w32 c.args.shift.y = search rules in
      covering _ _ _ g c.first_covered-upper.ensures c.in-Some-source.ensures

  -- the frame is small, and its rows fit
  fit : let f = c.args.frame.now in
      let upper = c.first_covered-upper.result in
      let top = c.in-Some-source.top in
      let rows = f.height - upper - top in
      (f.width * f.height ≤ 67108864) × (upper * f.width + rows * f.width + top * f.width ≡ f.width * f.height) × ((upper + rows) * f.width ≡ upper * f.width + rows * f.width)
  fit =
      let f = c.args.frame.now in
      let rows = rows_fit f.width f.height f.samples.now (shift_in c.args.shift) across down in
      (sizes.area f.width f.height f.wide f.high, rows.0, rows.1)

pub overflow_sub-rows-2 : goal.overflow_sub-rows-2
overflow_sub-rows-2 c = omega (arith, down (goal.at.overflow_sub-rows-2 c).In-Some-source)

pub overflow_mul-top : goal.overflow_mul-top
overflow_mul-top c = omega (arith, fit (goal.at.overflow_mul-top c).In-Some-source)

pub move_covered-requires : goal.move_covered-requires
move_covered-requires c =
    let i = (goal.at.move_covered-requires c).In-Some-source in
    let r = fit i in
    let a = across i in
    (omega arith, omega arith, omega arith)

pub overflow_mul-top-2 : goal.overflow_mul-top-2
overflow_mul-top-2 c = omega (arith, fit (goal.at.overflow_mul-top-2 c).In-Some-source)

pub clear_run-requires-3 : goal.clear_run-requires-3
clear_run-requires-3 c = omega (arith, fit (goal.at.clear_run-requires-3 c).In-Some-source)

pub returns : goal.returns
returns c =
    let f = c.args.frame.now in
    let i = (goal.at.returns c).In-Some-source in
    rows_written f.width f.height f.samples.now (shift_in c.args.shift) (across i) (down i) c.args.moved.now c.requires
    c.clear_run-2.ensures c.move_covered.ensures c.clear_run-3.ensures
