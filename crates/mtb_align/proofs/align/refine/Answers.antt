use mathlib.Core.Path.{refl, ap, ◌∙◌}
use Prim.Native.Nat.{ℕ, ◌<◌}
use native.Mathlib.Omega.{arith}
use Rattle.definitions.specs.Difference.{Counts}
use Rattle.definitions.specs.Geometry.{Shift, offset}
use Rattle.laws.specs.bitmaps.CountBounds.{counts_few}
use Rattle.laws.specs.images.Sizes.{area}
use Rattle.mtb_align.specs.declared.packed.Packed.{Packed}
use Rattle.mtb_align.specs.Answers.{shift_in}
use Rattle.mtb_align.specs.Layout.{map_at, pair_counts, cost_in}
use Rattle.mtb_align.specs.Packed.{cost_of}
use Rattle.mtb_align.proofs.Nine.{start, next, found_clean, found}
use Rattle.mtb_align.proofs.align.refine.Goals.{then-loop-i-test+then-counts-eq0, else-loop-i-test}
use Rattle.mtb_align.proofs.align.refine.Goals as goal

-- of the two counts the cost
abbrev errorOf : Counts → ℕ
errorOf k = k.disagreeing

-- no shift costs as much as the price that the search begins with
cheap : (p : Packed) (s : Shift) → cost_of p s < 18446744073709551615
unfolding cost_in pair_counts
cheap p s =
    let map = map_at p.words.now p.width p.height in
    omega (arith, (counts_few p.width p.height (map 0) (map 1) (map 2) (map 3) s).0, area p.height p.width p.high p.wide)

pub loop-i-init : goal.loop-i-init
loop-i-init c = (omega arith, refl, start _ _ (cheap c.args.packed.now))

pub loop-i-preserved : goal.loop-i-preserved
unfolding cost_in
loop-i-preserved c =
    let l = c.loop-i in (
      omega arith,
      omega arith,
      rw c.better-best.ensures (next _ _ l.invariant.2 (omega arith) _ _ (c.summed-candidate.ensures ∙ ap (offset (shift_in c.args.around)) c.offset_of.ensures)
          (ap errorOf c.counts_at-counts.ensures) c.if-counts-eq0.false),
    )

pub returns : goal.returns
unfolding cost_in
returns c =
    -- left after all nine, or at a clean match
    let l = c.loop-i in
    elim c.loop-i-test.branch [
      | else-loop-i-test w ↦ rw (w.best-is, w.made-is) (found _ _ l.invariant.2 (omega (arith, w.loop-i-test.false)) l.invariant.1)
      | then-loop-i-test+then-counts-eq0 w ↦
          rw (w.best-is, w.made-is, w.better-best.ensures)
          (found_clean _ _ l.invariant.2 w.loop-i-test.true _ _ (w.summed-candidate.ensures ∙ ap (offset (shift_in c.args.around)) w.offset_of.ensures)
          (ap errorOf w.counts_at-counts.ensures) w.if-counts-eq0.true (omega (arith, l.invariant.1)))
    ]
