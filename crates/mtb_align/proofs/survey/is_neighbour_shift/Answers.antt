use mathlib.Core.Path.{◌≡◌, sym, ap₂, ◌∙◌}
use Prim.Native.Nat.{ℕ, ◌+◌}
use borrow.Author.Rules.{rules}
use native.Mathlib.Omega.{arith}
use lib.Dec.{ltb}
use lib.IntN.{ℤ, nat_abs, ◌-ℤ◌}
use mir.Facts.{to_z-of_z}
use mir.Syntax.{w32}
use mir.Val.{SFits, to_z, of_z}
use Rattle.laws.specs.report.Neighbours.{far_down, far_across, near_both}
use Rattle.mtb_align.specs.Answers.{shift_in}
use Rattle.mtb_align.proofs.survey.is_neighbour_shift.Goals.{After-abs_diff-across, After-abs_diff-down}
use Rattle.mtb_align.proofs.survey.is_neighbour_shift.Goals as goal

-- signed arguments are passed by their bits
passed : {n : ℕ} (a b : ℤ) → SFits w32 a → SFits w32 b → n ≡ nat_abs (to_z w32 (of_z w32 a) -ℤ to_z w32 (of_z w32 b)) → n ≡ nat_abs (a -ℤ b)
passed a b f g e = e ∙ ap₂ (λ (u v : ℤ). nat_abs (u -ℤ v)) (to_z-of_z f) (to_z-of_z g)

down_is : (c : After-abs_diff-down) → let x = c.args in c.abs_diff-down.result ≡ nat_abs (x.shift.y -ℤ x.centre.y)
down_is c =
    let x = c.args in
    passed x.shift.y x.centre.y (search rules) (search rules) c.abs_diff-down.ensures

across-is : (c : After-abs_diff-across) →
    let x = c.args in
    c.abs_diff-across.result ≡ nat_abs (x.shift.x -ℤ x.centre.x)
across-is c =
    let x = c.args in
    passed x.shift.x x.centre.x (search rules) (search rules) c.abs_diff-across.ensures

pub returns-then-down-gt1 : goal.returns-then-down-gt1
returns-then-down-gt1 c =
    let x = c.args in
    sym (far_down (shift_in x.centre) (shift_in x.shift) (omega (arith, c.if-down-gt1.true, down_is (goal.at.returns-then-down-gt1 c).After-abs_diff-down)))

pub returns-then-across-gt1 : goal.returns-then-across-gt1
returns-then-across-gt1 c =
    let x = c.args in
    sym (far_across (shift_in x.centre) (shift_in x.shift) (omega (arith, c.if-across-gt1.true, across-is (goal.at.returns-then-across-gt1 c).After-abs_diff-across)))

pub returns : goal.returns
returns c =
    let x = c.args in
    let across = across-is (goal.at.returns c).After-abs_diff-across in
    let down = down_is (goal.at.returns c).After-abs_diff-down in
    ap₂ (λ (u v : ℕ). ltb 0 (u + v)) across down
    ∙ near_both (shift_in x.centre) (shift_in x.shift) (omega (arith, c.if-across-gt1.false, across)) (omega (arith, c.if-down-gt1.false, down))
