use mathlib.Core.Path.{◌≡◌, ap, ap₂, ◌∙◌}
use Prim.Native.Nat.{ℕ, ◌+◌, ◌-◌, ◌/◌}
use borrow.Author.Rules.{rules}
use native.Mathlib.Omega.{arith}
use mir.Facts.{to_z-of_z}
use mir.Syntax.{w32}
use mir.Val.{SFits}
use lib.IntN.{ℤ, pos}
use Rattle.definitions.specs.Difference.{bitmaps_in, counts}
use Rattle.definitions.specs.Geometry.{ahead, behind}
use Rattle.laws.specs.bitmaps.Bands.{band, band_none, band_disagreeing}
use Rattle.mtb_align.specs.Answers.{shift_in}
use Rattle.mtb_align.specs.declared.packed.Packed.{Packed}
use Rattle.mtb_align.specs.Packed.{map_of}
use Rattle.mtb_align.specs.Survey.{sample_of}
use Rattle.mtb_align.proofs.survey.sampled.Goals.{After-above-up, After-below-down}
use Rattle.mtb_align.proofs.survey.sampled.Goals as goal

-- the disagreement of an eighth of the rows, from row u of the reference and row d of the target on
abbrev bands : Packed → ℤ → ℕ → ℕ → ℕ
bands p x u d =
    let w = p.width in
    let rows = (p.height - (u + d)) / 8 in
    (counts w rows (bitmaps_in w (band w (map_of p 0) u rows) (band w (map_of p 1) u rows)) (bitmaps_in w (band w (map_of p 2) d rows) (band w (map_of p 3) d rows))
    (record { x = x; y = pos 0 })).disagreeing

up_is : (c : After-above-up) → c.above-up.result ≡ ahead c.args.shift.y
up_is c = let fits : SFits w32 c.args.shift.y = search rules in c.above-up.ensures ∙ ap ahead (to_z-of_z fits)

down_is : (c : After-below-down) → c.below-down.result ≡ behind c.args.shift.y
down_is c = let fits : SFits w32 c.args.shift.y = search rules in c.below-down.ensures ∙ ap behind (to_z-of_z fits)

pub returns-then-height-up : goal.returns-then-height-up
unfolding sample_of
returns-then-height-up c =
    let a = c.args in
    let l = c.if-height-up.true in
    band_none a.packed.now.width (map_of a.packed.now 0) (map_of a.packed.now 1) (map_of a.packed.now 2)
    (map_of a.packed.now 3) (shift_in a.shift) _
    (omega (arith, l, up_is (goal.at.returns-then-height-up c).After-above-up, down_is (goal.at.returns-then-height-up c).After-below-down))

pub returns : goal.returns
unfolding sample_of band_disagreeing
returns c =
    let a = c.args in
    let w = goal.at.returns c in
    let fits : SFits w32 c.args.shift.x = search rules in
    let x = to_z-of_z fits in
    c.band_disagreeing.ensures
    ∙ ap (λ (z : ℤ). bands a.packed.now z c.above-up.result c.below-down.result) x
    ∙ ap₂ (bands a.packed.now a.shift.x) (up_is w.After-above-up) (down_is w.After-below-down)
