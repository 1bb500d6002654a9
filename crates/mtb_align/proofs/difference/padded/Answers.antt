use mathlib.Core.Path.{◌≡◌, refl, sym, subst}
use mathlib.Core.List.{List}
use Prim.Native.Nat.{ℕ, ◌+◌, ◌/◌, ◌%◌, ◌≤◌, ◌<◌}
use native.Mathlib.Nat.{add-mul}
use native.Mathlib.Omega.{arith}
use borrow.Author.Tests.{le-ltb}
use lib.ListN.{length}
use Rattle.definitions.specs.Sum.{sum}
use Rattle.definitions.specs.Bitmap.{words_per_row, padding_set}
use Rattle.laws.specs.bitmaps.Bitmaps.{words_most, last_inside, padding_in, padding_none, ClearFrom, clear_none, clear_more}
use Rattle.laws.specs.checks.ChecksDifference.{padding_of, paddings_test}
use Rattle.mtb_align.proofs.Pixels.{inside}
use Rattle.mtb_align.proofs.difference.padded.Goals.{In-loop}
use Rattle.mtb_align.proofs.difference.padded.Goals as goal

-- the words that are read
record Here (rt re st se : List ℕ) (at n : ℕ) : Type 0 where
  in_rt : at < length rt
  in_re : at < length re
  in_st : at < length st
  in_se : at < length se
  small : at + n ≤ 1048704

reads_here : (c : In-loop) →
    let x = c.args in
    Here x.rt.now x.re.now x.st.now x.se.now c.loop.at (words_per_row x.sides.width)
reads_here c =
    let s = c.args.sides in
    let w = s.width in
    let o = inside w s.height (words_per_row w) refl (s.wide, s.high) (w / 64) c.loop.counter (last_inside w c.if-spare-eq0.false) c.loop-test.true in
    let l = c.requires in
    let e = c.loop.invariant.0 in
    record {
      in_rt = omega (arith, l.first);
      in_re = omega (arith, l.second);
      in_st = omega (arith, l.third);
      in_se = omega (arith, l.fourth);
      small = omega (arith, words_most w s.wide);
    }

pub returns-then-spare-eq0 : goal.returns-then-spare-eq0
returns-then-spare-eq0 c =
    let x = c.args in
    let s = x.sides in
    let none : (words : List ℕ) → 0 ≡ padding_set words s.width s.height = λ words. padding_none words s.width s.height c.if-spare-eq0.true in
    sym (le-ltb 0 (padding_of x.rt.now x.re.now x.st.now x.se.now s.width s.height) (omega (arith, none x.rt.now, none x.re.now, none x.st.now, none x.se.now)))

pub loop-init : goal.loop-init
loop-init c = (omega arith, clear_none _ _, clear_none _ _, clear_none _ _, clear_none _ _)

pub loop-preserved : goal.loop-preserved
unfolding words_per_row
loop-preserved c =
    let x = c.args in
    let s = x.sides in
    let y = c.loop.counter in
    let ne = c.if-spare-eq0.false in
    let e = c.loop.invariant.0 in (
      omega (arith, add-mul y 1 (words_per_row s.width)),
      clear_more x.rt.now s.width ne y _ _ e (omega (arith, c.type_inv.rt c.loop.at)) c.loop.invariant.1,
      clear_more x.re.now s.width ne y _ _ e (omega (arith, c.type_inv.re c.loop.at)) c.loop.invariant.2,
      clear_more x.st.now s.width ne y _ _ e (omega (arith, c.type_inv.st c.loop.at)) c.loop.invariant.3,
      clear_more x.se.now s.width ne y _ _ e (omega (arith, c.type_inv.se c.loop.at)) c.loop.invariant.4,
    )

pub returns : goal.returns
unfolding padding_set
returns c =
    let x = c.args in
    let s = x.sides in
    let all : (v : ℕ) (words : List ℕ) → ClearFrom (s.width % 64) v (sum c.loop.counter (padding_in words s.width)) → ClearFrom (s.width % 64) v (padding_set words s.width s.height) =
    λ v words p. subst (λ (y : ℕ). ClearFrom (s.width % 64) v (sum y (padding_in words s.width))) (omega arith) p in
    paddings_test x.rt.now x.re.now x.st.now x.se.now s.width s.height (s.width % 64)
    (all _ x.rt.now c.loop.invariant.1) (all _ x.re.now c.loop.invariant.2) (all _ x.st.now c.loop.invariant.3) (all _ x.se.now c.loop.invariant.4)

pub bounds-rt-at : goal.bounds-rt-at
bounds-rt-at c = omega (arith, reads_here (goal.at.bounds-rt-at c).In-loop)

pub bounds-re-at : goal.bounds-re-at
bounds-re-at c = omega (arith, reads_here (goal.at.bounds-re-at c).In-loop)

pub bounds-st-at : goal.bounds-st-at
bounds-st-at c = omega (arith, reads_here (goal.at.bounds-st-at c).In-loop)

pub bounds-se-at : goal.bounds-se-at
bounds-se-at c = omega (arith, reads_here (goal.at.bounds-se-at c).In-loop)

pub overflow_add-at : goal.overflow_add-at
overflow_add-at c = omega (arith, reads_here (goal.at.overflow_add-at c).In-loop)
