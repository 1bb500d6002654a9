use mathlib.Core.Path.{◌≡◌, refl, sym, ap, ap₂, ◌∙◌}
use mathlib.Core.List.{List}
use Prim.Native.Nat.{ℕ, ◌+◌, ◌*◌, ◌/◌, ◌-◌, ◌<◌, ◌≤◌}
use native.Mathlib.Omega.{arith}
use lib.ListN.{length, take, drop, length-take, length-drop}
use lib.Seq.{sets, length-sets}
use Rattle.definitions.specs.Shrink.{Shrink, shrink2, side_at, samples_at, level_of, halved_samples, pyramid}
use Rattle.laws.specs.images.Pyramids.{sets_there, side_none, side_more, side_le, samples_are, halved_one, halved_more, halved_le, level_one, level_more, pyramid_none, pyramid_one}
use Rattle.laws.specs.images.Pyramids.{pyramid_length, pyramid_more}
use Rattle.laws.specs.general.Writes.{sets_append}
use Rattle.mtb_align.specs.Answers.{mode_of}
use Rattle.mtb_align.proofs.Halves.{shrink2_length}
use Rattle.mtb_align.proofs.Parts.{sets_behind, sets_from, tail_of}
use Rattle.mtb_align.proofs.levels.fill.Invariants.{Filled}
use Rattle.mtb_align.proofs.levels.fill.Goals.{After-side_at-height}
use Rattle.mtb_align.proofs.levels.fill.Goals as goal

module _ {mode : Shrink} {w h : ℕ} {s : List ℕ} {at : ℕ} {base : List ℕ} where
  one-level : (old : List ℕ) → base ≡ sets old at (shrink2 mode w h s) → at + w / 2 * (h / 2) ≤ length old → Filled mode w h s at base base at 1
  one-level old e r =
      let level = samples_are w h 1 (side_more 0 w (sym (side_none w))) (side_more 0 h (sym (side_none h))) in
      record {
        long = refl;
        place = omega (arith, level, halved_one w h);
        level =
            ap (λ (l : List ℕ). take (samples_at 1 w h) (drop at l)) e
            ∙ sets_there old (shrink2 mode w h s) at (samples_at 1 w h) (shrink2_length mode w h s ∙ level) (omega (arith, level))
            ∙ sym (level_one mode w h s);
        are = λ old q. q;
      }

  module _ {mid : List ℕ} {a b from k : ℕ} (q : Filled mode w h s at base mid from k) (wide : a ≡ side_at k w) (high : b ≡ side_at k h) where
    -- the next level ends where the levels up to it do
    next-end : from + a * b + a / 2 * (b / 2) ≡ at + halved_samples w h (k + 1)
    next-end = omega (arith, q.place, halved_more w h k, samples_are w h k wide high, samples_are w h (k + 1) (side_more k w wide) (side_more k h high))

    next_level : {source new : List ℕ} → source ≡ take (a * b) (drop from mid) → new ≡ sets mid (from + a * b) (shrink2 mode a b source)
        → from + a * b + a / 2 * (b / 2) ≤ length mid → Filled mode w h s at base new (from + a * b) (k + 1)
    next_level {source} {new} m e r =
        let next = from + a * b in
        let p = pyramid mode w h s k in
        let here = samples_are w h k wide high in
        let level = samples_are w h (k + 1) (side_more k w wide) (side_more k h high) in
        let read : source ≡ level_of mode w h s k = m ∙ ap (λ (n : ℕ). take n (drop from mid)) here ∙ q.level in
        let stored : shrink2 mode a b source ≡ level_of mode w h s (k + 1) = cc (level_more mode w h s k) in
        let end : next ≡ at + length p = omega (arith, q.place, here, pyramid_length mode w h s k) in
        record {
          long = ap length e ∙ length-sets mid next (shrink2 mode a b source) ∙ q.long;
          place = omega (arith, next-end, level);
          level =
              ap (λ (l : List ℕ). take (samples_at (k + 1) w h) (drop next l)) e
              ∙ sets_there mid (shrink2 mode a b source) next (samples_at (k + 1) w h) (shrink2_length mode a b source ∙ level) (omega (arith, level))
              ∙ stored;
          are = λ old start.
              e ∙ ap₂ (λ (l v : List ℕ). sets l next v) (q.are old start) stored
              ∙ ap (λ (i : ℕ). sets (sets old at p) i (level_of mode w h s (k + 1))) end
              ∙ sym (ap (sets old at) (pyramid_more mode w h s k) ∙ sets_append old at p (level_of mode w h s (k + 1)));
        }

  all-levels : (old : List ℕ) {new : List ℕ} {from k n : ℕ} → Filled mode w h s at base new from k → base ≡ sets old at (shrink2 mode w h s) → k ≡ n
      → new ≡ sets old at (pyramid mode w h s n)
  all-levels old q e d =
      q.are old (e ∙ ap (sets old at) (sym (pyramid_one mode w h s))) ∙ ap (λ (m : ℕ). sets old at (pyramid mode w h s m)) d

-- the next level has its room
room : (c : After-side_at-height) → c.loop-k.from + c.side_at-width.result * c.side_at-height.result + c.side_at-width.result / 2 * (c.side_at-height.result / 2) ≤ length c.loop-k.scratch
room c =
    let l = c.loop-k in
    omega (arith, next-end l.invariant c.side_at-width.ensures c.side_at-height.ensures, halved_le c.args.frame.now.width c.args.frame.now.height (l.k + 1) c.args.count (omega arith), c.requires.1)

-- level 1 has its room
first-room : (w h at count n : ℕ) → 0 < count → at + halved_samples w h count ≤ n → at + w / 2 * (h / 2) ≤ n
first-room w h at count n p r = omega (arith, halved_one w h, halved_le w h 1 count (omega arith))

pub returns-then-count-eq0 : goal.returns-then-count-eq0
returns-then-count-eq0 c = sym (ap (sets _ _) (ap (pyramid _ _ _ _) c.if-count-eq0.true ∙ pyramid_none _ _ _ _))

pub halve-requires : goal.halve-requires
halve-requires c =
    let a = c.args in
    let f = a.frame.now in
    let p = c.requires in
    let r = first-room f.width f.height a.at a.count (length a.scratch.now) (omega arith) p.1 in
    omega (arith, r, length-take (length a.scratch.now - a.at) (drop a.at a.scratch.now), length-drop a.at a.scratch.now)

pub loop-k-init : goal.loop-k-init
loop-k-init c =
    let a = c.args in
    let f = a.frame.now in
    let r = first-room f.width f.height a.at a.count (length a.scratch.now) (omega arith) c.requires.1 in
    one-level _ (sets_from a.scratch.now (shrink2 (mode_of a.shrink) f.width f.height f.samples.now) a.at (omega (arith, r)) c.halve.ensures) r

pub overflow_mul-next : goal.overflow_mul-next
overflow_mul-next c = omega (arith, room (goal.at.overflow_mul-next c).After-side_at-height)

pub overflow_add-next : goal.overflow_add-next
overflow_add-next c = omega (arith, room (goal.at.overflow_add-next c).After-side_at-height)

pub split_at_mut-before-requires : goal.split_at_mut-before-requires
split_at_mut-before-requires c = omega (arith, room (goal.at.split_at_mut-before-requires c).After-side_at-height)

pub invariant_of-level : goal.invariant_of-level
invariant_of-level c =
    let f = c.args.frame.now in
    let l = c.loop-k in
    let cut = c.split_at_mut-before in
    let front = cut.result.0.now in
    record {
      wide = omega (arith, c.side_at-width.ensures, side_le l.k f.width, f.wide);
      high = omega (arith, c.side_at-height.ensures, side_le l.k f.height, f.high);
      whole = omega (arith, length-take (length front - l.from) (drop l.from front), length-drop l.from front, cut.ensures.front_len);
    }

pub halve-requires-in-loop-k : goal.halve-requires-in-loop-k
halve-requires-in-loop-k c = omega (arith, room (goal.at.halve-requires-in-loop-k c).After-side_at-height, c.split_at_mut-before.ensures.back_len)

pub loop-k-preserved : goal.loop-k-preserved
loop-k-preserved c =
    let l = c.loop-k in
    let cut = c.split_at_mut-before in
    let front = cut.result.0.now in
    let back = cut.result.1.now in
    let next = shrink2 (mode_of c.args.shrink) c.side_at-width.result c.side_at-height.result (take (length front - l.from) (drop l.from front)) in
    next_level l.invariant c.side_at-width.ensures c.side_at-height.ensures
    (tail_of front back l.from (c.side_at-width.result * c.side_at-height.result) cut.ensures.value cut.ensures.front_len)
    (sets_behind front back next cut.ensures.value cut.ensures.front_len c.halve-in-loop-k.ensures)
    (room (goal.at.loop-k-preserved c).After-side_at-height)

pub returns : goal.returns
returns c =
    let a = c.args in
    let f = a.frame.now in
    let r = first-room f.width f.height a.at a.count (length a.scratch.now) (omega arith) c.requires.1 in
    all-levels _ c.loop-k.invariant (sets_from a.scratch.now (shrink2 (mode_of a.shrink) f.width f.height f.samples.now) a.at (omega (arith, r)) c.halve.ensures) (omega arith)
