-- What a goal asks of a signed local, from an equation that says which whole number its chain of readings is. A signed local holds bits,
-- so each operation reads `to_z w (of_z w y)`: `read` takes one such reading off, and they nest as the code does.
--     read            to_z w (of_z w y) is z, where y is z and z fits
--     fit             the goal of a signed operation or cast: y fits, where y is z and z fits
--     to_nat, nat     the goal of a cast to an unsigned type, and its value, where y is `pos n`
--     both            the sum of two readings
--     fits32, fits64  that z fits, by its two parts (`Whole.antt`), which `omega` bounds;  part32    and back
--     widen, sum_fits     that an i64 holds what an i32 holds, and the sum of two such
--     negated_fits, negated_nat, negated_read     0 less an i32 below 0, made in 64 bits: the goals of the operation and of its cast, and its value
--     negative, not_negative, under, not_under, held     what the code's tests of a coordinate say;  not_outside    held's converse
--     in_order, not_in_order     what a test of two coordinates says
use Rattle.std.specs.Prelude.{◌≡◌, refl, Bool, true, false, ◌&&◌, ℕ, ◌+◌, ◌<◌, ◌≤◌, ◌^◌, min, max, T, ℤ, pos, negsuc, nat_abs, ◌+ℤ◌, ◌-ℤ◌}
use Rattle.std.proofs.Math.Path.{sym, ap}
use Rattle.std.proofs.Common.{ap₂, ◌∙◌, subst, arith, to_z-of_z}
use Rattle.std.proofs.Math.Bool.{not}
use Rattle.std.specs.Int.Signed.{mag, non_neg, lt_z, le_z}
use Rattle.std.specs.Int.{Width, w32, w64}
use mir.Val.{Fits, SFits, bits, to_z, of_z}
use Rattle.definitions.specs.Geometry.{ahead, behind, in_i32}
use Rattle.laws.specs.general.Cases.{clash}
use Rattle.laws.specs.general.Whole.{alone, add, minus, equal, parts_of, lt_true, lt_false, le_true, le_false, true_lt, false_lt, true_le, false_le}

pub read : {w : Width} {y z : ℤ} → y ≡ z → SFits w z → to_z w (of_z w y) ≡ z
read {w} e f = ap (λ (x : ℤ). to_z w (of_z w x)) e ∙ to_z-of_z f

pub fit : {w : Width} {y z : ℤ} → y ≡ z → SFits w z → SFits w y
fit {w} e f = subst (λ (x : ℤ). SFits w x) (sym e) f

pub to_nat : {w : Width} {y : ℤ} {n : ℕ} → y ≡ pos n → n < 2 ^ bits w → T (non_neg y) × Fits w (nat_abs y)
to_nat {w} e h = subst (λ (x : ℤ). T (non_neg x) × Fits w (nat_abs x)) (sym e) (tt, record { fits = h })

pub nat : {y : ℤ} {n : ℕ} → y ≡ pos n → nat_abs y ≡ n
nat e = ap nat_abs e

pub both : {a b c d : ℤ} → a ≡ c → b ≡ d → a +ℤ b ≡ c +ℤ d
both p q = ap₂ (λ (x y : ℤ). x +ℤ y) p q

mag_of : (z : ℤ) (n : ℕ) → ahead z < n → behind z ≤ n → mag z < n
mag_of (pos k) n p q = p
mag_of (negsuc k) n p q = q

pub fits32 : (z : ℤ) → ahead z < 2147483648 → behind z ≤ 2147483648 → SFits w32 z
fits32 z p q = record { sfits = mag_of z 2147483648 p q }

pub fits64 : (z : ℤ) → ahead z < 9223372036854775808 → behind z ≤ 9223372036854775808 → SFits w64 z
fits64 z p q = record { sfits = mag_of z 9223372036854775808 p q }

pub part32 : (z : ℤ) → SFits w32 z → (ahead z < 2147483648) × (behind z ≤ 2147483648)
part32 (pos n) f = (f.sfits, omega arith)
part32 (negsuc n) f = (omega arith, f.sfits)

-- what an i32 holds an i64 holds
pub widen : {z : ℤ} → SFits w32 z → SFits w64 z
widen f = record { sfits = omega (arith, f.sfits) }

-- an i64 holds the sum of two i32
pub sum_fits : {a b : ℤ} → SFits w32 a → SFits w32 b → SFits w64 (a +ℤ b)
sum_fits {a} {b} f g =
    let p = part32 a f in
    let q = part32 b g in
    fits64 (a +ℤ b) (omega (arith, add a b, alone (a +ℤ b))) (omega (arith, add a b, alone (a +ℤ b)))

-- less is not at least
less : (a b : ℤ) → lt_z a b ≡ not (le_z b a)
less a b = on (le_z b a) refl
  where
    on : (t : Bool) → le_z b a ≡ t → lt_z a b ≡ not t
    on true e = false_lt a b (le_true b a e)
    on false e = true_lt a b (le_false b a e)

module _ {y z : ℤ} (e : y ≡ z) where
  -- ---- the sign of z, by a test of y, which is z
  pub negative : lt_z y (pos 0) ≡ true → ahead z ≡ 0
  negative t = omega (arith, lt_true y (pos 0) t, alone z, ap ahead e, ap behind e)

  pub not_negative : lt_z y (pos 0) ≡ false → y ≡ pos (ahead z)
  not_negative t = equal y (pos (ahead z)) (omega (arith, lt_false y (pos 0) t, alone z, ap ahead e, ap behind e))

  -- ---- whether an i32 holds z, by two tests of y
  pub under : lt_z y (negsuc 2147483647) ≡ true → true ≡ not (in_i32 z)
  unfolding in_i32
  under t =
      sym (ap (λ (b : Bool). not (b && le_z y (pos 2147483647))) (false_le (negsuc 2147483647) y (lt_true y (negsuc 2147483647) t)))
      ∙ ap (λ (x : ℤ). not (in_i32 x)) e

  pub not_under : lt_z y (negsuc 2147483647) ≡ false → lt_z (pos 2147483647) y ≡ not (in_i32 z)
  unfolding in_i32
  not_under t =
      less (pos 2147483647) y
      ∙ sym (ap (λ (b : Bool). not (b && le_z y (pos 2147483647))) (true_le (negsuc 2147483647) y (lt_false y (negsuc 2147483647) t)))
      ∙ ap (λ (x : ℤ). not (in_i32 x)) e

-- ---- 0 less an i32 below 0, as it is made in 64 bits

abbrev negated_of : ℤ → ℤ
negated_of x = pos 0 -ℤ to_z w64 (of_z w64 (to_z w32 (of_z w32 x)))

module _ {x : ℤ} (f : SFits w32 x) (t : lt_z (to_z w32 (of_z w32 x)) (pos 0) ≡ true) where
  negated : negated_of x ≡ pos (behind x)
  negated =
      ap (λ (z : ℤ). pos 0 -ℤ z) (read (to_z-of_z f) (widen f))
      ∙ equal (pos 0 -ℤ x) (pos (behind x)) (omega (arith, minus (pos 0) x, negative (to_z-of_z f) t, alone (pos 0 -ℤ x)))

  positive_fits : SFits w64 (pos (behind x))
  positive_fits = fits64 (pos (behind x)) (omega (arith, (part32 x f).1)) (omega arith)

  pub negated_fits : SFits w64 (negated_of x)
  negated_fits = fit negated positive_fits

  pub negated_read : to_z w64 (of_z w64 (negated_of x)) ≡ pos (behind x)
  negated_read = read negated positive_fits

  pub negated_nat : T (non_neg (to_z w64 (of_z w64 (negated_of x)))) × Fits w64 (nat_abs (to_z w64 (of_z w64 (negated_of x))))
  negated_nat = to_nat negated_read (omega (arith, (part32 x f).1))

-- and back: what is not outside fits
both_true : (a b : Bool) → not (a && b) ≡ false → (a ≡ true) × (b ≡ true)
both_true true true e = (refl, refl)
both_true true false e = clash e
both_true false b e = clash e

pub held : (z : ℤ) → not (in_i32 z) ≡ false → SFits w32 z
unfolding in_i32
held z e =
    let t = both_true (le_z (negsuc 2147483647) z) (le_z z (pos 2147483647)) e in
    let low = le_true (negsuc 2147483647) z t.0 in
    let high = le_true z (pos 2147483647) t.1 in
    fits32 z (omega (arith, alone z)) (omega (arith, alone z))

pub not_outside : (z : ℤ) → ahead z < 2147483648 → behind z ≤ 2147483648 → not (in_i32 z) ≡ false
unfolding in_i32
not_outside z p q =
    ap₂ (λ (a b : Bool). not (a && b)) (true_le (negsuc 2147483647) z (omega arith)) (true_le z (pos 2147483647) (omega arith))

-- ---- the lower and the higher of a and b, by their parts

pub record Ordered (low high a b : ℤ) : Type 0 where
  pub high_ahead : ahead high ≡ max (ahead a) (ahead b)
  pub high_behind : behind high ≡ min (behind a) (behind b)
  pub low_ahead : ahead low ≡ min (ahead a) (ahead b)
  pub low_behind : behind low ≡ max (behind a) (behind b)

ordered : (low high a b : ℤ) → (ahead low ≡ ahead a) × (behind low ≡ behind a) → (ahead high ≡ ahead b) × (behind high ≡ behind b)
    → ahead low + behind high ≤ ahead high + behind low → Ordered low high a b
ordered low high a b p q h = record {
  high_ahead = omega (arith, alone low, alone high);
  high_behind = omega (arith, alone low, alone high);
  low_ahead = omega (arith, alone low, alone high);
  low_behind = omega (arith, alone low, alone high);
}

-- a test of x and y, which are a and b, tells which is which
module _ {x y a b : ℤ} (p : x ≡ a) (q : y ≡ b) where
  pub in_order : lt_z x y ≡ true → Ordered x y a b
  in_order t = ordered x y a b (parts_of p) (parts_of q) (omega (arith, lt_true x y t))

  pub not_in_order : lt_z x y ≡ false → Ordered y x b a
  not_in_order t = ordered y x b a (parts_of q) (parts_of p) (lt_false x y t)
