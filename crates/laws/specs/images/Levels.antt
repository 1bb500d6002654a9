-- The base-two logarithm, and how many levels a frame has.
use Rattle.std.specs.Prelude.{◌≡◌, refl, Bool, true, false, cond, ℕ, zero, suc, ◌-◌, ◌^◌, ◌<◌, ◌≤◌, min, max, leb}
use Rattle.std.proofs.Common.{ap, arith, ⊎_elim, pow_mono, leb-true, leb-false, eq-eqb, ne_eqb}
use Rattle.definitions.specs.Align.{log_up_to, log2, levels}
use Rattle.laws.specs.general.Cases.{lt_or_le}

-- the larger power has the larger exponent
pub pow_reflects : (j k : ℕ) → 2 ^ j < 2 ^ k → j < k
pow_reflects j k h = ⊎_elim (λ (l : j < k). l) (λ (l : k ≤ j). absurd (never (pow_mono l) h)) (lt_or_le j k)
  where
    never : {a b : ℕ} → a ≤ b → b < a → ⊥
    never p q = omega arith

-- n is below its own power
pub below_power : (n : ℕ) → n < 2 ^ n
below_power zero = omega arith
below_power (suc n) = omega (arith, below_power n)

-- ---- the search for the logarithm

log_high : (k n : ℕ) → n < 2 ^ suc k → n < 2 ^ suc (log_up_to k n)
unfolding log_up_to
log_high zero n h = h
log_high (suc k) n h = on (leb (2 ^ suc k) n) refl (log_high k n)
  where
    on : (t : Bool) → leb (2 ^ suc k) n ≡ t → (n < 2 ^ suc k → n < 2 ^ suc (log_up_to k n)) → n < 2 ^ suc (elim t [ true ↦ suc k | false ↦ log_up_to k n ])
    on true e ih = h
    on false e ih = ih (leb-false (2 ^ suc k) n e)

log_low : (k n : ℕ) → 1 ≤ n → 2 ^ log_up_to k n ≤ n
unfolding log_up_to
log_low zero n h = h
log_low (suc k) n h = on (leb (2 ^ suc k) n) refl (log_low k n h)
  where
    on : (t : Bool) → leb (2 ^ suc k) n ≡ t → 2 ^ log_up_to k n ≤ n → 2 ^ (elim t [ true ↦ suc k | false ↦ log_up_to k n ]) ≤ n
    on true e ih = leb-true (2 ^ suc k) n e
    on false e ih = ih

pub log2_high : (n : ℕ) → n < 2 ^ suc (log2 n)
unfolding log2
log2_high n = log_high n n (omega (arith, below_power n))

pub log2_low : (n : ℕ) → 1 ≤ n → 2 ^ log2 n ≤ n
unfolding log2
log2_low n h = log_low n n h

-- no other number has these bounds
pub log2_is : (n k : ℕ) → 2 ^ k ≤ n → n < 2 ^ suc k → log2 n ≡ k
log2_is n k p q =
    let some : 1 ≤ n = omega (arith, below_power k) in
    let a : k < suc (log2 n) = pow_reflects k (suc (log2 n)) (omega (arith, log2_high n)) in
    let b : log2 n < suc k = pow_reflects (log2 n) (suc k) (omega (arith, log2_low n some)) in
    omega arith

pub log2_below : (n k : ℕ) → 1 ≤ n → n < 2 ^ k → log2 n < k
log2_below n k h l = pow_reflects (log2 n) k (omega (arith, log2_low n h))

-- ---- levels

pub levels_none : (w h bits : ℕ) → min w h ≡ 0 → levels w h bits ≡ 0
unfolding levels
levels_none w h bits e = ap (λ (t : Bool). cond t 0 (min (bits - 1) (min (log2 (max w h) - 1) (log2 (min w h))))) (eq-eqb (min w h) 0 e)

pub levels_some : (w h bits : ℕ) → 1 ≤ min w h → levels w h bits ≡ min (bits - 1) (min (log2 (max w h) - 1) (log2 (min w h)))
unfolding levels
levels_some w h bits l = ap (λ (t : Bool). cond t 0 (min (bits - 1) (min (log2 (max w h) - 1) (log2 (min w h))))) (ne_eqb (min w h) 0 (λ e. omega arith))

-- at most 12, since a side is at most 8,192
pub levels_most : (w h bits : ℕ) → w ≤ 8192 → h ≤ 8192 → levels w h bits ≤ 12
levels_most w h bits p q = ⊎_elim
    (λ (l : min w h < 1). omega (arith, levels_none w h bits (omega arith)))
    (λ (l : 1 ≤ min w h). omega (arith, levels_some w h bits l, log2_below (max w h) 14 (omega arith) (omega arith)))
    (lt_or_le (min w h) 1)
