-- A frame with a side of 0 has no level to halve; of any other the least of three is taken.
use mathlib.Core.Path.{◌≡◌, sym}
use Prim.Native.Nat.{ℕ, ◌-◌, ◌≤◌, min, max}
use native.Mathlib.Omega.{arith}
use Rattle.definitions.specs.Align.{log2}
use Rattle.laws.specs.images.Levels.{levels_some, levels_none}
use Rattle.mtb_align.proofs.levels.shrinks.Goals.{After-max, then-sides-eq0-via-then-sides-eq0, then-sides-eq0-via-else-sides-eq0+then-sides-eq0-2}
use Rattle.mtb_align.proofs.levels.shrinks.Goals as goal

-- the code's order of the three, and the definition's
least : (a b c : ℕ) → min (min a b) c ≡ min a (min b c)
least a b c = omega arith

-- both sides are at least 1
some : (c : After-max) → let s = c.args.sides in 1 ≤ min s.width s.height
some c = omega (arith, c.if-sides-eq0.false, c.if-sides-eq0-2.false)

pub returns-then-sides-eq0 : goal.returns-then-sides-eq0
returns-then-sides-eq0 c = elim c.then-sides-eq0.branch [
  | then-sides-eq0-via-then-sides-eq0 w ↦ sym (levels_none _ _ _ (omega (arith, w.if-sides-eq0.true)))
  | then-sides-eq0-via-else-sides-eq0+then-sides-eq0-2 w ↦ sym (levels_none _ _ _ (omega (arith, w.if-sides-eq0-2.true)))
]

pub returns : goal.returns
returns c =
    let a = c.args in
    let w = a.sides.width in
    let h = a.sides.height in
    let turned = least (a.bits - 1) (log2 (max w h) - 1) (log2 (min w h)) in
    cc (levels_some w h a.bits (some (goal.at.returns c).After-max), turned)
