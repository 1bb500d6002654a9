-- Bit i of a number, and the bits of what the word operations give. In the logic, on u64, `a & b`, `a | b`, `a ^ b` are
-- `bit_and a b`, `bit_or a b`, `bit_xor a b` of `Rattle.std.specs.Int.Bits`, `a >> k` is `a / 2 ^ k` and `a << k` is `(a * 2 ^ k) % 2 ^ 64`, k < 64.
use Rattle.std.specs.Prelude.{◌≡◌, ℕ, zero, suc, ◌+◌, ◌-◌, ◌*◌, ◌/◌, ◌%◌, ◌^◌, ◌≤◌, ◌<◌, min, max}
use Rattle.std.proofs.Common.{sym, ap, ap₂, ◌∙◌, mod-lt, div-one, zero-lt-suc, mul_assoc, lt_of_lt_of_le, le_refl, one-add, arith, pow-add, pow_mono, shr-shr, ⊎_elim}
use Rattle.std.proofs.Math.Nat.{div-eq_of_lt, sub_self}
use Rattle.std.proofs.Math.Arith.{digits_mod}
use Rattle.std.proofs.lemmas.Nat.{shl-shr, and_shr, or_shr, xor_shr}
use Rattle.std.proofs.Math.Pow.{field, mod-mod-pow}
use Rattle.std.specs.Int.Bits.{bit_and, bit_or, bit_xor, differ, and_step, or_step, xor_step, shifted_even}
use Rattle.std.specs.Int.Count.{ones, ones_step}
use Rattle.laws.specs.general.Cases.{lt_or_le}
use Rattle.definitions.specs.Sum.{sum}
use Rattle.definitions.specs.Bitmap.{bit_of}
use Rattle.laws.specs.general.Sums.{sum_ext, sum_first}

pub bit_lt : (w i : ℕ) → bit_of w i < 2
unfolding bit_of
bit_lt w i = mod-lt (w / 2 ^ i) (zero-lt-suc 1)

-- a number of k bits has none at k and past it
pub bit_past : (k w i : ℕ) → w < 2 ^ k → k ≤ i → bit_of w i ≡ 0
unfolding bit_of
bit_past k w i h l = ap (λ (x : ℕ). x % 2) (div-eq_of_lt (lt_of_lt_of_le h (pow_mono l)))

pub bit_zero : (i : ℕ) → bit_of 0 i ≡ 0
bit_zero i = bit_past 0 0 i (omega arith) (omega arith)

pub bit_first : (w : ℕ) → bit_of w 0 ≡ w % 2
unfolding bit_of
bit_first w = ap (λ (x : ℕ). x % 2) (div-one w)

-- ---- shifts

pub bit_shr : (w k i : ℕ) → bit_of (w / 2 ^ k) i ≡ bit_of w (k + i)
unfolding bit_of
bit_shr w k i = ap (λ (x : ℕ). x % 2) (shr-shr w k i)

pub bit_suc : (w i : ℕ) → bit_of w (suc i) ≡ bit_of (w / 2) i
bit_suc w i = ap (bit_of w) (sym (one-add i)) ∙ sym (bit_shr w 1 i)

-- dropping the bits at k and past it keeps those below
pub bit_mod : (w k i : ℕ) → i < k → bit_of (w % 2 ^ k) i ≡ bit_of w i
unfolding bit_of
bit_mod w k i h =
    let j : ℕ = k - suc i in
    let e : k ≡ (j + 1) + i = omega arith in
    ap (λ (n : ℕ). (w % 2 ^ n / 2 ^ i) % 2) e ∙ ap (λ (x : ℕ). x % 2) (field w (j + 1) i) ∙ mod-mod-pow (w / 2 ^ i) j 1

pub bit_mul_low : (w k i : ℕ) → i < k → bit_of (w * 2 ^ k) i ≡ 0
unfolding bit_of
bit_mul_low w k i h =
    let j : ℕ = k - suc i in
    let e : k ≡ suc j + i = omega arith in
    ap (λ (n : ℕ). (w * 2 ^ n / 2 ^ i) % 2) e
    ∙ ap (λ (x : ℕ). (x / 2 ^ i) % 2) (ap (λ (x : ℕ). w * x) (pow-add 2 (suc j) i) ∙ sym (mul_assoc w (2 ^ suc j) (2 ^ i)))
    ∙ ap (λ (x : ℕ). x % 2) (shl-shr (w * 2 ^ suc j) i)
    ∙ shifted_even w j

pub bit_mul_high : (w k i : ℕ) → bit_of (w * 2 ^ k) (k + i) ≡ bit_of w i
unfolding bit_of
bit_mul_high w k i = ap (λ (x : ℕ). x % 2) (sym (shr-shr (w * 2 ^ k) k i) ∙ ap (λ (x : ℕ). x / 2 ^ i) (shl-shr w k))

-- `w << k` of a word of n bits: below k nothing, from k on the bits of w
pub bit_shl_low : (n w k i : ℕ) → i < n → i < k → bit_of ((w * 2 ^ k) % 2 ^ n) i ≡ 0
bit_shl_low n w k i h l = bit_mod (w * 2 ^ k) n i h ∙ bit_mul_low w k i l

pub bit_shl_high : (n w k i : ℕ) → i < n → k ≤ i → bit_of ((w * 2 ^ k) % 2 ^ n) i ≡ bit_of w (i - k)
bit_shl_high n w k i h l =
    let e : i ≡ k + (i - k) = omega arith in
    bit_mod (w * 2 ^ k) n i h ∙ ap (bit_of (w * 2 ^ k)) e ∙ bit_mul_high w k (i - k)

-- ---- and, or, exclusive or: bit by bit

min_lt : (a b : ℕ) → a < 2 → min a b < 2
min_lt a b h = omega arith

max_lt : (a b : ℕ) → a < 2 → b < 2 → max a b < 2
max_lt a b h k = omega arith

differ_lt : (a b : ℕ) → a < 2 → b < 2 → differ a b < 2
differ_lt zero b h k = k
differ_lt (suc a) zero h k = h
differ_lt (suc a) (suc b) h k = differ_lt a b (omega arith) (omega arith)

pub bit_and_lem : (a b i : ℕ) → bit_of (bit_and a b) i ≡ min (bit_of a i) (bit_of b i)
unfolding bit_of
bit_and_lem a b i =
    ap (λ (x : ℕ). x % 2) (and_shr a b i ∙ and_step (a / 2 ^ i) (b / 2 ^ i))
    ∙ digits_mod (bit_and (a / 2 ^ i / 2) (b / 2 ^ i / 2)) (min_lt (bit_of a i) (bit_of b i) (bit_lt a i))

pub bit_or_lem : (a b i : ℕ) → bit_of (bit_or a b) i ≡ max (bit_of a i) (bit_of b i)
unfolding bit_of
bit_or_lem a b i =
    ap (λ (x : ℕ). x % 2) (or_shr a b i ∙ or_step (a / 2 ^ i) (b / 2 ^ i))
    ∙ digits_mod (bit_or (a / 2 ^ i / 2) (b / 2 ^ i / 2)) (max_lt (bit_of a i) (bit_of b i) (bit_lt a i) (bit_lt b i))

pub bit_xor_lem : (a b i : ℕ) → bit_of (bit_xor a b) i ≡ differ (bit_of a i) (bit_of b i)
unfolding bit_of
bit_xor_lem a b i =
    ap (λ (x : ℕ). x % 2) (xor_shr a b i ∙ xor_step (a / 2 ^ i) (b / 2 ^ i))
    ∙ digits_mod (bit_xor (a / 2 ^ i / 2) (b / 2 ^ i / 2)) (differ_lt (bit_of a i) (bit_of b i) (bit_lt a i) (bit_lt b i))

-- ---- the count of ones, `u64::count_ones`, is the sum of the bits

half_below : (k w : ℕ) → w < 2 ^ suc k → w / 2 < 2 ^ k
half_below k w h = omega arith

pub ones_sum : (k w : ℕ) → w < 2 ^ k → ones w ≡ sum k (bit_of w)
unfolding sum ones
ones_sum zero w h = let e : w ≡ 0 = omega arith in ap ones e
ones_sum (suc k) w h =
    ones_step w
    ∙ ap₂ (λ (a b : ℕ). a + b) (sym (bit_first w))
    (ones_sum k (w / 2) (half_below k w h) ∙ sum_ext k (bit_of (w / 2)) (λ i. bit_of w (suc i)) (λ i l. sym (bit_suc w i)))
    ∙ sym (sum_first k (bit_of w))

-- ---- one bit: `1 << k`, and a bit flipped by `w ^ (1 << k)`

pub bit_one_at : (n k : ℕ) → k < n → bit_of ((1 * 2 ^ k) % 2 ^ n) k ≡ 1
unfolding bit_of
bit_one_at n k l = bit_shl_high n 1 k k l (le_refl k) ∙ ap (bit_of 1) (sub_self k)

pub bit_one_off : (n k i : ℕ) → i < n → (i ≡ k → ⊥) → bit_of ((1 * 2 ^ k) % 2 ^ n) i ≡ 0
bit_one_off n k i l ne = ⊎_elim
    (λ (h : i < k). bit_shl_low n 1 k i l h)
    (λ (h : k ≤ i). bit_shl_high n 1 k i l h ∙ bit_past 1 1 (i - k) (omega arith) (omega arith))
    (lt_or_le i k)
