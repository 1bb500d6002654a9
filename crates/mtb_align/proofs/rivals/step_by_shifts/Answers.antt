use mathlib.Core.Path.{◌≡◌, sym, ap₂, ◌∙◌, subst}
use Prim.Native.Nat.{◌≤◌}
use native.Mathlib.Omega.{arith}
use lib.IntN.{ℤ, nat_abs, ◌-ℤ◌}
use mir.Facts.{to_z-of_z}
use mir.Syntax.{w32}
use mir.Val.{SFits, to_z, of_z}
use Rattle.definitions.specs.Geometry.{Shift}
use Rattle.laws.specs.general.Machine.{fits32, read}
use Rattle.laws.specs.search.ShiftLists.{less}
use Rattle.laws.specs.search.StepBounds.{Within, abs_parts}
use Rattle.laws.specs.general.Whole.{alone, minus}
use Rattle.mtb_align.specs.Answers.{shift_in}
use Rattle.mtb_align.proofs.rivals.step_by_shifts.Goals.{After-shift_at-from}
use Rattle.mtb_align.proofs.rivals.step_by_shifts.Goals as goal

-- ---- one axis: a coordinate less another

near_fits : (z : ℤ) → nat_abs z ≤ 1048576 → SFits w32 z
near_fits z h = fits32 z (omega (arith, h, abs_parts z)) (omega (arith, h, abs_parts z))

module _ (a b : ℤ) (p : nat_abs a ≤ 1048576) (q : nat_abs b ≤ 1048576) where
  less_fits : SFits w32 (a -ℤ b)
  less_fits =
      fits32 (a -ℤ b)
      (omega (arith, p, q, abs_parts a, abs_parts b, minus a b, alone (a -ℤ b)))
      (omega (arith, p, q, abs_parts a, abs_parts b, minus a b, alone (a -ℤ b)))

  -- as the code has it
  less-is : to_z w32 (of_z w32 a) -ℤ to_z w32 (of_z w32 b) ≡ a -ℤ b
  less-is = ap₂ ◌-ℤ◌ (to_z-of_z (near_fits a p)) (to_z-of_z (near_fits b q))

  less-read : to_z w32 (of_z w32 (to_z w32 (of_z w32 a) -ℤ to_z w32 (of_z w32 b))) ≡ a -ℤ b
  less-read = read less-is less_fits

-- ---- both shifts lie near, as those of the list do

module _ (c : After-shift_at-from) where
  to-near : Within 1048576 (shift_in c.shift_at-to.result)
  to-near = subst (Within 1048576) (sym c.shift_at-to.ensures) c.requires.within.1

  from-near : Within 1048576 (shift_in c.shift_at-from.result)
  from-near = subst (Within 1048576) (sym c.shift_at-from.ensures) c.requires.within.0

pub returns : goal.returns
returns c =
    let to = c.shift_at-to.result in
    let from = c.shift_at-from.result in
    let across = less-read to.x from.x (to-near (goal.at.returns c).After-shift_at-from).across (from-near (goal.at.returns c).After-shift_at-from).across in
    let down = less-read to.y from.y (to-near (goal.at.returns c).After-shift_at-from).down (from-near (goal.at.returns c).After-shift_at-from).down in
    (λ i. record { x = across i; y = down i }) ∙ ap₂ (λ (s t : Shift). less s t) c.shift_at-to.ensures c.shift_at-from.ensures
