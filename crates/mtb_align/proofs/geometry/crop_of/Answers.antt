use mathlib.Core.Path.{◌≡◌, refl, ap, ◌∙◌}
use mathlib.Core.Bool.{Bool, true, false, cond}
use mathlib.Core.List.{List}
use Prim.Native.Nat.{ℕ, ◌+◌, ◌-◌, ◌*◌, ◌/◌, max}
use native.Mathlib.Omega.{arith}
use borrow.Author.Rules.{rules}
use lib.IntN.{ℤ, pos}
use lib.ListN.{length, get_or}
use mir.Syntax.{w32}
use mir.Val.{SFits}
use Rattle.std.specs.Prelude.{int_lt}
use Rattle.std.specs.Int.{int_max, int_min}
use Rattle.laws.specs.general.Machine.{in_order, not_in_order}
use mir.Facts.{to_z-of_z}
use Rattle.definitions.specs.Build.{build}
use Rattle.definitions.specs.Geometry.{ahead, behind, largest, crop_start, crop_width}
use Rattle.laws.specs.images.Axis.{axis_of, largest_none, largest_more, crop_of_axes}
use Rattle.mtb_align.proofs.geometry.crop_of.Invariants.{coordinate_of, Reach}
use Rattle.mtb_align.proofs.geometry.crop_of.Goals as goal

pub loop-k-init : goal.loop-k-init
loop-k-init c = (omega arith, (largest_none ahead _, largest_none behind _), (largest_none ahead _, largest_none behind _))

-- the larger of two coordinates lies as far ahead as the one that does so more, the smaller as far behind
ahead_max : (x y : ℤ) → ahead (int_max x y) ≡ max (ahead x) (ahead y)
ahead_max x y = on (int_lt y x) refl
  where
    on : (t : Bool) → int_lt y x ≡ t → ahead (cond t x y) ≡ max (ahead x) (ahead y)
    on true e = omega (arith, (in_order {x = y} {y = x} refl refl e).high_ahead)
    on false e = omega (arith, (not_in_order {x = y} {y = x} refl refl e).high_ahead)

behind_min : (x y : ℤ) → behind (int_min x y) ≡ max (behind x) (behind y)
behind_min x y = on (int_lt y x) refl
  where
    on : (t : Bool) → int_lt y x ≡ t → behind (cond t y x) ≡ max (behind x) (behind y)
    on true e = omega (arith, (in_order {x = y} {y = x} refl refl e).low_behind)
    on false e = omega (arith, (not_in_order {x = y} {y = x} refl refl e).low_behind)

-- one coordinate more of an axis
reach_more : (axis : ℕ) (l : List ℤ) (k : ℕ) (most least : ℤ) {z higher lower : ℤ} → z ≡ coordinate_of axis l k → Reach axis l k most least
    → higher ≡ int_max most z → lower ≡ int_min least z → Reach axis l (k + 1) higher lower
reach_more axis l k most least {z} e r p q = (
  ap ahead p ∙ ahead_max most z ∙ ap (λ (x : ℤ). max (ahead most) (ahead x)) e ∙ largest_more ahead (coordinate_of axis l) k r.0,
  ap behind q ∙ behind_min least z ∙ ap (λ (x : ℤ). max (behind least) (behind x)) e ∙ largest_more behind (coordinate_of axis l) k r.1,
)

pub loop-k-preserved : goal.loop-k-preserved
loop-k-preserved c =
    let l = c.loop-k in
    let s = c.args.shifts.now in
    let x : SFits w32 (get_or s (2 * l.k) (pos 0)) = search rules in
    let y : SFits w32 (coordinate_of 1 s l.k) = search rules in
    let first : 2 * l.k ≡ 2 * l.k + 0 = omega arith in
    let right : SFits w32 c.max-right.result = search rules in
    let left : SFits w32 c.min-left.result = search rules in
    let down : SFits w32 c.max-down.result = search rules in
    let up : SFits w32 c.min-up.result = search rules in (
      omega arith,
      reach_more 0 s l.k _ _ (to_z-of_z x ∙ ap (λ (n : ℕ). get_or s n (pos 0)) first) l.invariant.1
          (to_z-of_z right ∙ c.max-right.ensures.value) (to_z-of_z left ∙ c.min-left.ensures.value),
      reach_more 1 s l.k _ _ (to_z-of_z y) l.invariant.2
          (to_z-of_z down ∙ c.max-down.ensures.value) (to_z-of_z up ∙ c.min-up.ensures.value),
    )

-- the whole of an axis, at the end of the loop
crop_reached : (axis : ℕ) (l : List ℤ) (k extent : ℕ) {ahead_most behind_least start width : ℕ} → k ≡ length l / 2
    → (ahead_most ≡ largest ahead (build k (coordinate_of axis l))) × (behind_least ≡ largest behind (build k (coordinate_of axis l)))
    → (start ≡ ahead_most) × (width ≡ extent - behind_least - ahead_most)
    → (start ≡ crop_start (axis_of axis l)) × (width ≡ crop_width extent (axis_of axis l))
unfolding axis_of
crop_reached axis l k extent e r s =
    let whole : (f : ℤ → ℕ) → largest f (build k (coordinate_of axis l)) ≡ largest f (axis_of axis l) =
    λ f. ap (λ (n : ℕ). largest f (build n (coordinate_of axis l))) e in
    let start = s.0 ∙ r.0 ∙ whole ahead in
    (start, omega (arith, s.0, s.1, start, r.1 ∙ whole behind))

pub returns : goal.returns
returns c =
    let l = c.loop-k in
    let a = c.args in
    let e : l.k ≡ length a.shifts.now / 2 = omega arith in
    let columns = crop_reached 0 a.shifts.now l.k a.width e l.invariant.1 c.span-columns.ensures in
    let rows = crop_reached 1 a.shifts.now l.k a.height e l.invariant.2 c.span-rows.ensures in
    crop_of_axes _ _ _ columns.0 rows.0 columns.1 rows.1
