-- Cases by an order or an equation of numbers, and what a test that is known decides.
use Rattle.std.specs.Prelude.{Bool, true, false, cond, ◌&&◌, ◌⊎◌, ◌≡◌, refl, ℕ, zero, suc, ◌≤◌, ◌<◌}
use Rattle.std.proofs.Common.{inl, inr, ⊎_elim, ap, ap₂, arith, zero-le, suc-le-suc}
use Rattle.definitions.specs.Sum.{bit}

pub lt_or_le : (a b : ℕ) → (a < b) ⊎ (b ≤ a)
lt_or_le a zero = inr zero-le
lt_or_le zero (suc b) = inl (suc-le-suc zero-le)
lt_or_le (suc a) (suc b) = ⊎_elim (λ p. inl (suc-le-suc p)) (λ q. inr (suc-le-suc q)) (lt_or_le a b)

pub eq_or_ne : (a b : ℕ) → (a ≡ b) ⊎ (a ≡ b → ⊥)
eq_or_ne a b = ⊎_elim
    (λ (p : a < b). inr (λ e. omega arith))
    (λ (p : b ≤ a). ⊎_elim (λ (q : b < a). inr (λ e. omega arith)) (λ (q : a ≤ b). inl (omega arith)) (lt_or_le b a))
    (lt_or_le a b)

-- a test is a bit
pub bit_le : (b : Bool) → bit b ≤ 1
bit_le true = omega arith
bit_le false = omega arith

-- true is not false
pub clash : {X : Type 0} → true ≡ false → X
clash e = let z : ◌≡◌ {A = ℕ} 0 1 = cc in absurd (none z)
  where
    none : ◌≡◌ {A = ℕ} 0 1 → ⊥
    none h = omega arith

-- a choice by a test that is known
pub cond_true : {A : Type 0} {b : Bool} (x y : A) → b ≡ true → cond b x y ≡ x
cond_true x y e = ap (λ (t : Bool). cond t x y) e

pub cond_false : {A : Type 0} {b : Bool} (x y : A) → b ≡ false → cond b x y ≡ y
cond_false x y e = ap (λ (t : Bool). cond t x y) e

-- two tests
pub and_yes : {a b : Bool} → a ≡ true → b ≡ true → a && b ≡ true
and_yes {a} {b} e f = ap₂ (λ (s t : Bool). s && t) e f

pub and_no : {b : Bool} (a : Bool) → b ≡ false → a && b ≡ false
and_no true e = e
and_no false e = refl
