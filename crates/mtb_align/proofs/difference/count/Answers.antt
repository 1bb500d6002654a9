use mathlib.Core.Path.{◌≡◌, sym, ap, subst, ◌∙◌}
use Prim.Native.Nat.{ℕ, ◌+◌, ◌-◌, ◌*◌, ◌/◌, ◌%◌, ◌^◌, ◌≤◌, ◌<◌, min}
use borrow.Author.Rules.{rules}
use native.Mathlib.Omega.{arith}
use lib.IntN.{ℤ}
use lib.ListN.{length, get_or}
use mir.Facts.{to_z-of_z}
use mir.Syntax.{w32}
use mir.Val.{SFits}
use Rattle.definitions.specs.Geometry.{inside, source, ahead, behind}
use Rattle.laws.specs.bitmaps.Bitmaps.{words_most}
use Rattle.laws.specs.bitmaps.Joints.{Alike}
use Rattle.laws.specs.bitmaps.Overlaps.{none_down, none_across, counts_words}
use Rattle.laws.specs.images.Places.{Covering, first_inside, first_outside}
use Rattle.laws.specs.general.Whole.{alone}
use Rattle.mtb_align.specs.Answers.{shift_in}
use Rattle.mtb_align.proofs.Counting.{Split, split, rows_fit, alike}
use Rattle.mtb_align.proofs.difference.count.Goals.{After-min-rows}
use Rattle.mtb_align.proofs.difference.count.Goals as goal

-- a signed argument is passed by its bits, of which the integer t is z

place : (e : ℕ) {z t : ℤ} {first from : ℕ} → t ≡ z → first ≡ min (ahead t) (e - 1) → inside from ≡ source first t e → Covering e z first from
place e {z} {t} {first} {from} q is at = subst (λ (z : ℤ). Covering e z first from) q (first_inside e t first is from (sym at))

pub returns-in_default : goal.returns-in_default
returns-in_default c =
    let x = c.args in
    let fit : SFits w32 x.shift.x = search rules in
    none_across x.rt.now x.re.now x.st.now x.se.now x.sides.width x.sides.height (shift_in x.shift)
    (subst (λ (z : ℤ). x.sides.width ≤ ahead z + behind z) (to_z-of_z fit)
    (first_outside _ _ _ c.first_covered-column.ensures (sym c.in_default.ensures)))

pub returns-in_default-source : goal.returns-in_default-source
returns-in_default-source c =
    let x = c.args in
    let fit : SFits w32 x.shift.y = search rules in
    none_down x.rt.now x.re.now x.st.now x.se.now x.sides.width x.sides.height (shift_in x.shift)
    (subst (λ (z : ℤ). x.sides.height ≤ ahead z + behind z) (to_z-of_z fit)
    (first_outside _ _ _ c.first_covered-y.ensures (sym c.in_default-source.ensures)))

pub overflow_add-rest : goal.overflow_add-rest
overflow_add-rest c =
    let fit : SFits w32 c.args.shift.x = search rules in
    omega (arith, place c.args.sides.width (to_z-of_z fit) c.first_covered-column.ensures c.in-Some.ensures, c.args.sides.wide)

pub overflow_sub-height-2 : goal.overflow_sub-height-2
overflow_sub-height-2 c =
    let fit : SFits w32 c.args.shift.y = search rules in
    omega (arith, place c.args.sides.height (to_z-of_z fit) c.first_covered-y.ensures c.in-Some-source.ensures)

module _ (c : After-min-rows) where
  across : Covering c.args.sides.width c.args.shift.x c.first_covered-column.result c.in-Some.source_column
  across =
      let fit : SFits w32 c.args.shift.x = search rules in
      place c.args.sides.width (to_z-of_z fit) c.first_covered-column.ensures c.in-Some.ensures

  down : Covering c.args.sides.height c.args.shift.y c.first_covered-y.result c.in-Some-source.source_y
  down =
      let fit : SFits w32 c.args.shift.y = search rules in
      place c.args.sides.height (to_z-of_z fit) c.first_covered-y.ensures c.in-Some-source.ensures

  -- the shift along a row
  parts : let m = (c.first_covered-column.result + 63) / 64 in
      let rest = m * 64 - c.first_covered-column.result + c.in-Some.source_column in
      Split c.words_per_row-n.result c.first_covered-column.result c.in-Some.source_column m (rest / 64) (rest % 64)
  parts = split c.args.sides.width _ _ _ c.words_per_row-n.ensures (omega (arith, across, alone c.args.shift.x)) (omega (arith, across))

  -- so many rows have a source
  many : c.first_covered-y.result + c.in-Some-source.source_y + c.min-rows.result ≡ c.args.sides.height
  many = omega (arith, c.min-rows.ensures, down, alone c.args.shift.y)

  -- the bitmaps, and where the rows start in them
  ready : Alike c.args.rt.now c.args.re.now c.args.st.now c.args.se.now
  ready = alike c.requires c.args.sides.wide c.args.sides.high

  starts : let n = c.words_per_row-n.result in
      let rows = c.min-rows.result in
      (c.first_covered-y.result * n + rows * n ≤ length c.args.re.now) × (c.in-Some-source.source_y * n + rows * n ≤ length c.args.re.now)
  starts =
      let l : length c.args.re.now ≡ c.args.sides.height * c.words_per_row-n.result =
      c.requires.1.long ∙ ap (λ (n : ℕ). c.args.sides.height * n) (sym c.words_per_row-n.ensures) in
      (rows_fit _ _ _ _ _ l (omega (arith, many)), rows_fit _ _ _ _ _ l (omega (arith, many)))

pub overflow_mul-source_y : goal.overflow_mul-source_y
overflow_mul-source_y c = omega (arith, starts c, (ready c).small)

pub moved-requires : goal.moved-requires
moved-requires c =
    let n : c.words_per_row-n.result ≤ 128 = omega (arith, c.words_per_row-n.ensures, words_most c.args.sides.width c.args.sides.wide) in
    let o = parts c in
    let s = starts c in
    (ready c, n, omega (arith, many c, c.args.sides.high), s.0, s.1, o.alone_is, o.right_in, o.left_in, o.bit_in)

pub returns : goal.returns
returns c =
    let x = c.args in
    let q = (goal.at.returns c).After-min-rows in
    let p = c.requires in
    let o = parts q in
    let r = down q in
    let ft : (v : ℕ) → get_or x.st.now v 0 < 2 ^ 64 = λ v. omega (arith, c.type_inv.st v) in
    let fe : (v : ℕ) → get_or x.se.now v 0 < 2 ^ 64 = λ v. omega (arith, c.type_inv.se v) in
    counts_words x.rt.now x.re.now x.st.now x.se.now x.sides.width x.sides.height (shift_in x.shift) p.1 p.3 ft fe
    _ _ _ _ c.words_per_row-n.ensures r.first_is r.source_is (many q)
    _ _ _ o.bit_in (omega (arith, o.lag, across q)) c.moved.ensures
