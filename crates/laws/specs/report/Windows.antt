-- The shifts within a reach: the window has all of them and no other, and they rise.
use Rattle.std.specs.Prelude.{◌≡◌, refl, true, ℕ, suc, ◌*◌, ◌≤◌, ◌<◌, T, ℤ, pos, nat_abs, ◌+ℤ◌, ◌-ℤ◌, ◌<ℤ◌}
use Rattle.std.proofs.Common.{sym, subst, arith}
use mathlib.Core.List.{Memᴰ}
use Rattle.std.specs.Int.Signed.{lt_z, <ℤ_irrefl}
use Rattle.definitions.specs.Geometry.{Shift, ahead, behind}
use Rattle.definitions.specs.Report.{window}
use Rattle.laws.specs.general.Members.{in_image, of_image, Ordered, ordered_image}
use Rattle.laws.specs.search.StepBounds.{abs_parts}
use Rattle.laws.specs.general.Whole.{alone, add, minus, equal, true_lt}

-- ---- one axis: the coordinates c - r, c - r + 1, .. c + r

-- the first 2 r + 1 coordinates from c - r on are within r of c
axis_within : (c : ℤ) (r i : ℕ) → i < suc (2 * r) → nat_abs (((c -ℤ pos r) +ℤ pos i) -ℤ c) ≤ r
axis_within c r i l =
    let low : ℤ = c -ℤ pos r in
    let z : ℤ = low +ℤ pos i in
    omega (arith, abs_parts (z -ℤ c), minus z c, add low (pos i), minus c (pos r), alone (z -ℤ c), alone z, alone low, alone c)

-- how far a coordinate within r of c lies from c - r: not below it, and at most 2 r above
axis_from_low : (c z : ℤ) (r : ℕ) → nat_abs (z -ℤ c) ≤ r → (behind (z -ℤ (c -ℤ pos r)) ≡ 0) × (ahead (z -ℤ (c -ℤ pos r)) < suc (2 * r))
axis_from_low c z r l =
    let low : ℤ = c -ℤ pos r in
    omega (arith, abs_parts (z -ℤ c), minus z c, minus z low, minus c (pos r), alone (z -ℤ c), alone (z -ℤ low), alone z, alone low, alone c)

-- so it is one of them
axis_place : (c z : ℤ) (r : ℕ) → nat_abs (z -ℤ c) ≤ r → (i : ℕ) × (i < suc (2 * r)) × (z ≡ (c -ℤ pos r) +ℤ pos i)
axis_place c z r l =
    let low : ℤ = c -ℤ pos r in
    let i : ℕ = ahead (z -ℤ low) in
    let t = axis_from_low c z r l in
    (i, t.1, equal z (low +ℤ pos i) (omega (arith, minus z low, add low (pos i))))

-- they rise
axis_rises : (low : ℤ) (i j : ℕ) → i < j → (low +ℤ pos i) <ℤ (low +ℤ pos j)
axis_rises low i j l =
    let e : lt_z (low +ℤ pos i) (low +ℤ pos j) ≡ true
    = true_lt (low +ℤ pos i) (low +ℤ pos j) (omega (arith, add low (pos i), add low (pos j), alone low)) in
    record { lt = subst T (sym e) tt }

-- ---- the window

-- The shift in column i and row j of the window around a centre.
unfoldable pub window_at : Shift → ℕ → ℕ → ℕ → Shift
window_at c reach i j = record { x = (c.x -ℤ pos reach) +ℤ pos i; y = (c.y -ℤ pos reach) +ℤ pos j }

-- it has the shifts within the reach on both axes, and no other
pub window_within : (c : Shift) (r : ℕ) (s : Shift) → Memᴰ s (window c r) → (nat_abs (s.x -ℤ c.x) ≤ r) × (nat_abs (s.y -ℤ c.y) ≤ r)
unfolding window window_at
window_within c r s m =
    let t = of_image (suc (2 * r)) (suc (2 * r)) (window_at c r) m in (
      subst (λ (u : Shift). nat_abs (u.x -ℤ c.x) ≤ r) (sym t.4) (axis_within c.x r t.0 t.2),
      subst (λ (u : Shift). nat_abs (u.y -ℤ c.y) ≤ r) (sym t.4) (axis_within c.y r t.1 t.3),
    )

pub within_window : (c : Shift) (r : ℕ) (s : Shift) → (nat_abs (s.x -ℤ c.x) ≤ r) × (nat_abs (s.y -ℤ c.y) ≤ r) → Memᴰ s (window c r)
unfolding window window_at
within_window c r s l =
    let across = axis_place c.x s.x r l.0 in
    let down = axis_place c.y s.y r l.1 in
    in_image (suc (2 * r)) (suc (2 * r)) (window_at c r) across.0 down.0 across.1 down.1
    (λ i. record { x = across.2 i; y = down.2 i })

-- a shift stands before another: y rises, then x
pub data Earlier (s t : Shift) : Type 0 where
  above : s.y <ℤ t.y → Earlier s t
  left : s.y ≡ t.y → s.x <ℤ t.x → Earlier s t

-- none stands before itself
pub earlier_not_self : (s : Shift) → Earlier s s → ⊥
earlier_not_self s (above h) = <ℤ_irrefl h
earlier_not_self s (left e h) = <ℤ_irrefl h

-- the window's shifts rise
pub window_in_order : (c : Shift) (r : ℕ) → Ordered Earlier (window c r)
unfolding window window_at
window_in_order c r = ordered_image (suc (2 * r)) (suc (2 * r)) (window_at c r)
    (λ i i' j l u v. left refl (axis_rises (c.x -ℤ pos r) i i' l))
    (λ i i' j j' l u v w. above (axis_rises (c.y -ℤ pos r) j j' l))
