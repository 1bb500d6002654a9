-- Words added up bit by bit: the carry-save adder of three, words that stand apart taken together, and their set bits counted once they are
-- added up.
use Rattle.std.specs.Prelude.{◌≡◌, List, get_or}
use Rattle.std.proofs.Math.Path.{refl}
use Rattle.std.proofs.Common.{sym, ap, ap₂, ◌∙◌, add-mul, zero-add, arith}
use Prim.Native.Nat.{ℕ, zero, suc, ◌+◌, ◌*◌, ◌<◌, min, max}
use Rattle.std.specs.Int.Bits.{bit_and, bit_or, bit_xor, differ}
use Rattle.definitions.specs.Sum.{sum}
use Rattle.definitions.specs.Bitmap.{bit_of}
use Rattle.laws.specs.bitmaps.Bits.{bit_lt, bit_and_lem, bit_or_lem, bit_xor_lem}
use Rattle.laws.specs.general.Grids.{sum_swap}
use Rattle.laws.specs.general.Sums.{sum_ext, sum_split, sum_rows}

-- ---- the adder

two_bits : (a b : ℕ) → a < 2 → b < 2 → (differ a b + 2 * min a b ≡ a + b) × (differ a b < 2)
two_bits (suc (suc a)) b ha hb = absurd (omega arith)
two_bits zero (suc (suc b)) ha hb = absurd (omega arith)
two_bits (suc zero) (suc (suc b)) ha hb = absurd (omega arith)
two_bits zero zero ha hb = (refl, omega arith)
two_bits zero (suc zero) ha hb = (refl, omega arith)
two_bits (suc zero) zero ha hb = (refl, omega arith)
two_bits (suc zero) (suc zero) ha hb = (refl, omega arith)

three_bits : (a b c : ℕ) → a < 2 → b < 2 → c < 2 → 2 * max (min a b) (min (differ a b) c) + differ (differ a b) c ≡ a + b + c
three_bits a b c ha hb hc =
    let u = two_bits a b ha hb in
    let v = two_bits (differ a b) c u.1 hc in
    omega (arith, u.0, v.0)

pub carry_save_law : (a b c i : ℕ)
    → 2 * bit_of (bit_or (bit_and a b) (bit_and (bit_xor a b) c)) i + bit_of (bit_xor (bit_xor a b) c) i ≡ bit_of a i + bit_of b i + bit_of c i
carry_save_law a b c i =
    let carry = bit_or_lem (bit_and a b) (bit_and (bit_xor a b) c) i
    ∙ ap₂ max (bit_and_lem a b i) (bit_and_lem (bit_xor a b) c i ∙ ap (λ (k : ℕ). min k (bit_of c i)) (bit_xor_lem a b i)) in
    let odd = bit_xor_lem (bit_xor a b) c i ∙ ap (λ (k : ℕ). differ k (bit_of c i)) (bit_xor_lem a b i) in
    ap₂ (λ (x y : ℕ). 2 * x + y) carry odd ∙ three_bits (bit_of a i) (bit_of b i) (bit_of c i) (bit_lt a i) (bit_lt b i) (bit_lt c i)

-- ---- words apart

-- How many of n words, `step` apart from `at` on, have bit i set.
abbrev pub bits_apart : ℕ → List ℕ → ℕ → ℕ → ℕ → ℕ
bits_apart n words at step i = sum n (λ (j : ℕ). bit_of (get_or words (j * step + at) 0) i)

pub one_apart : (words : List ℕ) (at step i : ℕ) → bits_apart 1 words at step i ≡ bit_of (get_or words at 0) i
unfolding sum
one_apart words at step i =
    let e : 0 * step + at ≡ at = omega arith in
    zero-add _ ∙ ap (λ (k : ℕ). bit_of (get_or words k 0) i) e

-- n more, past the first m
pub more_apart : (m n : ℕ) (words : List ℕ) (at step i : ℕ) → bits_apart (m + n) words at step i ≡ bits_apart m words at step i + bits_apart n words (at + m * step) step i
more_apart m n words at step i =
    sum_split m n (λ (j : ℕ). bit_of (get_or words (j * step + at) 0) i)
    ∙ ap (λ (k : ℕ). bits_apart m words at step i + k)
    (sum_ext n (λ (j : ℕ). bit_of (get_or words ((m + j) * step + at) 0) i) (λ (j : ℕ). bit_of (get_or words (j * step + (at + m * step)) 0) i)
    (λ j l.
    let e : (m + j) * step + at ≡ j * step + (at + m * step) = omega (arith, add-mul m j step) in
    ap (λ (k : ℕ). bit_of (get_or words k 0) i) e))

next_apart : (n : ℕ) (words : List ℕ) (at step i : ℕ) → bits_apart (n + 1) words at step i ≡ bits_apart n words at step i + bit_of (get_or words (at + n * step) 0) i
next_apart n words at step i = more_apart n 1 words at step i ∙ ap (λ (k : ℕ). bits_apart n words at step i + k) (one_apart words (at + n * step) step i)

-- seven, by what each word has
pub seven_apart : (words : List ℕ) (at step i : ℕ)
    → bit_of (get_or words at 0) i
    + bit_of (get_or words (at + step) 0) i
    + bit_of (get_or words (at + 2 * step) 0) i
    + bit_of (get_or words (at + 3 * step) 0) i
    + bit_of (get_or words (at + 4 * step) 0) i
    + bit_of (get_or words (at + 5 * step) 0) i
    + bit_of (get_or words (at + 6 * step) 0) i
    ≡ bits_apart 7 words at step i
seven_apart words at step i =
    let second : at + step ≡ at + 1 * step = omega arith in
    let e = ap (λ (k : ℕ). bit_of (get_or words k 0) i) second in
    omega (
      arith,
      e,
      one_apart words at step i,
      next_apart 1 words at step i,
      next_apart 2 words at step i,
      next_apart 3 words at step i,
      next_apart 4 words at step i,
      next_apart 5 words at step i,
      next_apart 6 words at step i,
    )

-- ---- set bits

-- of seven words, by what they add up to
module _ (p q r a b c d e f g : ℕ)
    (h : (i : ℕ) → 4 * bit_of p i + 2 * bit_of q i + bit_of r i ≡ bit_of a i + bit_of b i + bit_of c i + bit_of d i + bit_of e i + bit_of f i + bit_of g i) where
  pub seven_set : (n : ℕ)
      → 4 * sum n (bit_of p) + 2 * sum n (bit_of q) + sum n (bit_of r)
      ≡ sum n (bit_of a) + sum n (bit_of b) + sum n (bit_of c) + sum n (bit_of d) + sum n (bit_of e) + sum n (bit_of f) + sum n (bit_of g)
  unfolding sum
  seven_set zero = refl
  seven_set (suc n) = omega (arith, seven_set n, h n)

weighed : (n : ℕ) (a b c d : ℕ → ℕ) → sum n (λ (i : ℕ). 8 * a i + 4 * b i + 2 * c i + d i) ≡ 8 * sum n a + 4 * sum n b + 2 * sum n c + sum n d
unfolding sum
weighed zero a b c d = refl
weighed (suc n) a b c d = omega (arith, weighed n a b c d)

-- of fifteen words, by what they add up to
pub fifteen_set : (words : List ℕ) (at step a b c d : ℕ) → ((i : ℕ) → 8 * bit_of a i + 4 * bit_of b i + 2 * bit_of c i + bit_of d i ≡ bits_apart 15 words at step i)
    → 8 * sum 64 (bit_of a) + 4 * sum 64 (bit_of b) + 2 * sum 64 (bit_of c) + sum 64 (bit_of d) ≡ sum 15 (λ (j : ℕ). sum 64 (bit_of (get_or words (j * step + at) 0)))
fifteen_set words at step a b c d h =
    sym (weighed 64 (bit_of a) (bit_of b) (bit_of c) (bit_of d))
    ∙ sum_ext 64 (λ (i : ℕ). 8 * bit_of a i + 4 * bit_of b i + 2 * bit_of c i + bit_of d i) (bits_apart 15 words at step) (λ i _. h i)
    ∙ sum_swap 64 15 (λ (j i : ℕ). bit_of (get_or words (j * step + at) 0) i)

-- fifteen parts, taken side by side, are all their words
pub parts : (step : ℕ) (f : ℕ → ℕ) → sum step (λ (at : ℕ). sum 15 (λ (j : ℕ). f (j * step + at))) ≡ sum (15 * step) f
parts step f = sum_swap step 15 (λ (j at : ℕ). f (j * step + at)) ∙ sym (sum_rows 15 step f)
