-- A number made from its bits: one bit more, the same bits, none set, below a power of two, in two parts, and cut off where all
-- are clear; and its bits read back, one by one and all together.
use Rattle.std.specs.Prelude.{◌≡◌, refl, ℕ, zero, suc, ◌+◌, ◌-◌, ◌*◌, ◌%◌, ◌^◌, ◌≤◌, ◌<◌}
use Rattle.std.proofs.Common.{sym, ap, ap₂, ◌∙◌, ⊎_elim, mod-eq_of_lt, eq-or-lt_of_le, le_of_suc-le-suc, add-mul, mul_assoc, mul_comm, add-zero, add-suc, zero-mul, add-one, one-add, arith, pow-add}
use Rattle.std.proofs.Math.Nat.{mod-one}
use Rattle.std.proofs.Math.Arith.{digits_lt}
use Rattle.std.proofs.Math.Pow.{high, low}
use Rattle.std.proofs.lemmas.Nat.{mod-pow-add}
use Rattle.definitions.specs.Bitmap.{bit_of, word_of}
use Rattle.laws.specs.bitmaps.Bits.{bit_mod}

pub word_none : (f : ℕ → ℕ) → word_of 0 f ≡ 0
unfolding word_of
word_none f = refl

-- one more, as a loop counts
pub word_more : (n : ℕ) (f : ℕ → ℕ) → word_of (n + 1) f ≡ f n * 2 ^ n + word_of n f
unfolding word_of
word_more n f = ap (λ (k : ℕ). word_of k f) (add-one n)

pub word_ext : (n : ℕ) (f g : ℕ → ℕ) → ((i : ℕ) → i < n → f i ≡ g i) → word_of n f ≡ word_of n g
unfolding word_of
word_ext zero f g h = refl
word_ext (suc n) f g h = ap₂ (λ (a b : ℕ). a * 2 ^ n + b) (h n (omega arith)) (word_ext n f g (λ i l. h i (omega arith)))

pub word_zero : (n : ℕ) → word_of n (λ i. 0) ≡ 0
unfolding word_of
word_zero zero = refl
word_zero (suc n) = omega (arith, word_zero n)

pub word_lt : (n : ℕ) (f : ℕ → ℕ) → ((i : ℕ) → i < n → f i < 2) → word_of n f < 2 ^ n
unfolding word_of
word_lt zero f h = omega arith
word_lt (suc n) f h = omega (arith, digits_lt {q = f n} {m = 2} {r = word_of n f} {c = 2 ^ n} (h n (omega arith)) (word_lt n f (λ i l. h i (omega arith))))

-- below k the bits of the low part, and at k the lowest of the high part
pub bit_join_low : (a k r i : ℕ) → r < 2 ^ k → i < k → bit_of (a * 2 ^ k + r) i ≡ bit_of r i
bit_join_low a k r i h l = sym (bit_mod (a * 2 ^ k + r) k i l) ∙ ap (λ (x : ℕ). bit_of x i) (low a k h)

pub bit_join_at : (a k r : ℕ) → r < 2 ^ k → bit_of (a * 2 ^ k + r) k ≡ a % 2
unfolding bit_of
bit_join_at a k r h = ap (λ (x : ℕ). x % 2) (high a k h)

pub bit_word : (n : ℕ) (f : ℕ → ℕ) → ((i : ℕ) → i < n → f i < 2) → (i : ℕ) → i < n → bit_of (word_of n f) i ≡ f i
unfolding word_of
bit_word zero f h i l = absurd (omega arith)
bit_word (suc n) f h i l =
    let r = word_lt n f (λ j k. h j (omega arith)) in
    ⊎_elim
    (λ (e : i ≡ n). ap (bit_of (f n * 2 ^ n + word_of n f)) e ∙ bit_join_at (f n) n (word_of n f) r ∙ mod-eq_of_lt (h n (omega arith)) ∙ ap f (sym e))
    (λ (k : i < n). bit_join_low (f n) n (word_of n f) i r k ∙ bit_word n f (λ j m. h j (omega arith)) i k)
    (eq-or-lt_of_le (le_of_suc-le-suc l))

-- a number is made of its bits
pub word_bits : (n w : ℕ) → word_of n (bit_of w) ≡ w % 2 ^ n
unfolding word_of bit_of
word_bits zero w = sym (mod-one w)
word_bits (suc n) w =
    ap (λ (x : ℕ). bit_of w n * 2 ^ n + x) (word_bits n w) ∙ sym (mod-pow-add w 1 n) ∙ ap (λ (k : ℕ). w % 2 ^ k) (one-add n)

-- so two numbers of n bits with the same bits are one
pub bits_same : (n a b : ℕ) → a < 2 ^ n → b < 2 ^ n → ((i : ℕ) → i < n → bit_of a i ≡ bit_of b i) → a ≡ b
bits_same n a b ha hb h =
    sym (mod-eq_of_lt ha) ∙ sym (word_bits n a) ∙ word_ext n (bit_of a) (bit_of b) h ∙ word_bits n b ∙ mod-eq_of_lt hb

-- in two parts
pub word_split : (m n : ℕ) (f : ℕ → ℕ) → word_of (m + n) f ≡ word_of n (λ i. f (m + i)) * 2 ^ m + word_of m f
unfolding word_of
word_split m zero f = ap (λ (k : ℕ). word_of k f) (add-zero m) ∙ omega arith
word_split m (suc n) f =
    let p : 2 ^ (m + n) ≡ 2 ^ m * 2 ^ n = pow-add 2 m n in
    let q : f (m + n) * 2 ^ (m + n) ≡ f (m + n) * 2 ^ n * 2 ^ m =
    ap (λ (x : ℕ). f (m + n) * x) (p ∙ mul_comm (2 ^ m) (2 ^ n)) ∙ sym (mul_assoc (f (m + n)) (2 ^ n) (2 ^ m)) in
    ap (λ (k : ℕ). word_of k f) (add-suc m n)
    ∙ omega (arith, q, word_split m n f, add-mul (f (m + n) * 2 ^ n) (word_of n (λ i. f (m + i))) (2 ^ m))

-- bits that are clear from m on may be left out
pub word_upto : (m n : ℕ) (f : ℕ → ℕ) → m ≤ n → ((i : ℕ) → m ≤ i → i < n → f i ≡ 0) → word_of n f ≡ word_of m f
word_upto m n f l h =
    let e : n ≡ m + (n - m) = omega arith in
    let z : word_of (n - m) (λ i. f (m + i)) ≡ 0 = word_ext (n - m) (λ i. f (m + i)) (λ i. 0) (λ i k. h (m + i) (omega arith) (omega arith)) ∙ word_zero (n - m) in
    ap (λ (k : ℕ). word_of k f) e ∙ word_split m (n - m) f ∙ ap (λ (x : ℕ). x * 2 ^ m + word_of m f) z ∙ omega (arith, zero-mul (2 ^ m))
