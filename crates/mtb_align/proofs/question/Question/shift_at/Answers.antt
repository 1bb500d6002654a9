use mathlib.Core.Path.{◌≡◌}
use Prim.Native.Nat.{ℕ, ◌≤◌}
use native.Mathlib.Omega.{arith}
use lib.IntN.{ℤ, pos, negsuc, nat_abs, ◌+ℤ◌, ◌-ℤ◌}
use mir.Syntax.{w32}
use mir.Val.{to_z, of_z}
use Rattle.std.proofs.lemmas.Int.{ints}
use Rattle.laws.specs.report.Windows.{window_at}
use Rattle.mtb_align.proofs.question.Question.shift_at.Goals as goal

-- one axis: a coordinate less the reach, and then a column or row up
coordinate : (z : ℤ) (r i : ℕ) → nat_abs z ≤ 65536 → r ≤ 64 → i ≤ 128
    → to_z w32 (of_z w32 (to_z w32 (of_z w32 (to_z w32 (of_z w32 z) -ℤ to_z w32 r)) +ℤ to_z w32 i)) ≡ (z -ℤ pos r) +ℤ pos i
coordinate (pos n) r i near short few = omega (arith, ints)
coordinate (negsuc n) r i near short few = omega (arith, ints)

pub returns : goal.returns
unfolding window_at
returns c =
    let u = c.args.self in
    let across = coordinate u.centre.x _ _ u.near.across u.short c.requires.0 in
    let down = coordinate u.centre.y _ _ u.near.down u.short c.requires.1 in
    λ k. record { x = across k; y = down k }
