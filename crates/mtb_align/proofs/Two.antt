-- Both bits of up to 32 samples in one number, and two such numbers as two words.
use mathlib.Core.Path.{◌≡◌, sym, ap, ap₂, ◌∙◌}
use mathlib.Core.List.{List}
use Prim.Native.Nat.{ℕ, ◌+◌, ◌-◌, ◌*◌, ◌/◌, ◌%◌, ◌^◌, ◌≤◌, ◌<◌}
use native.Mathlib.Nat.{add-zero, lt_of_lt_of_le}
use native.Mathlib.Omega.{arith}
use borrow.Author.Tests.{lt-ltb, le-ltb}
use lib.Dec.{ltb}
use lib.ListN.{get_or}
use lib.Pow.{pow_mono}
use Rattle.definitions.specs.Sum.{bit}
use Rattle.definitions.specs.Threshold.{threshold_bit, exclusion_bit, distance}
use Rattle.definitions.specs.Bitmap.{word_of}
use Rattle.laws.specs.general.Lists.{build_at}
use Rattle.laws.specs.bitmaps.Packed.{threshold_lt, exclusion_lt}
use Rattle.laws.specs.bitmaps.WordsOf.{word_none, word_more, word_ext, word_lt, word_split}
use Rattle.mtb_align.specs.Packing.{entry_of, table_of, bits_from, two_of}

-- ---- the bits of a sample

entry_is : (c t v a b : ℕ) → a ≡ bit (ltb c v) → b ≡ bit (ltb t (distance v c)) → a + b * 4294967296 ≡ entry_of c t v
unfolding entry_of threshold_bit exclusion_bit
entry_is c t v a b p q = ap₂ (λ (x y : ℕ). x + y * 4294967296) p q

-- the four runs of values: far below the cut, near it and not above, near it and above, far above
pub entry_far_below : (c t v : ℕ) → v < c - t → 4294967296 ≡ entry_of c t v
entry_far_below c t v h = entry_is c t v 0 1 (sym (ap bit (le-ltb c v (omega arith)))) (sym (ap bit (lt-ltb t (distance v c) (omega arith))))

pub entry_near_below : (c t v : ℕ) → c - t ≤ v → v < c + 1 → 0 ≡ entry_of c t v
entry_near_below c t v g h = entry_is c t v 0 0 (sym (ap bit (le-ltb c v (omega arith)))) (sym (ap bit (le-ltb t (distance v c) (omega arith))))

pub entry_near_above : (c t v : ℕ) → c + 1 ≤ v → v < c + 1 + t → 1 ≡ entry_of c t v
entry_near_above c t v g h = entry_is c t v 1 0 (sym (ap bit (lt-ltb c v (omega arith)))) (sym (ap bit (le-ltb t (distance v c) (omega arith))))

pub entry_far_above : (c t v : ℕ) → c + 1 + t ≤ v → 4294967297 ≡ entry_of c t v
entry_far_above c t v h = entry_is c t v 1 1 (sym (ap bit (lt-ltb c v (omega arith)))) (sym (ap bit (lt-ltb t (distance v c) (omega arith))))

pub table_at : (c t v : ℕ) → v < 256 → get_or (table_of c t) v 0 ≡ entry_of c t v
unfolding table_of
table_at c t v h = build_at 256 (entry_of c t) v 0 h

-- ---- up to 32 samples

module _ (s : List ℕ) (c t from : ℕ) where
  low_lt : (m n : ℕ) → n ≤ m → word_of n (bits_from s (threshold_bit c) from) < 2 ^ m
  low_lt m n l = lt_of_lt_of_le (word_lt n (bits_from s (threshold_bit c) from) (λ i _. threshold_lt c (get_or s (from + i) 0))) (pow_mono l)

  high_lt : (m n : ℕ) → n ≤ m → word_of n (bits_from s (exclusion_bit c t) from) < 2 ^ m
  high_lt m n l = lt_of_lt_of_le (word_lt n (bits_from s (exclusion_bit c t) from) (λ i _. exclusion_lt c t (get_or s (from + i) 0))) (pow_mono l)

  pub two_none : 0 ≡ two_of s c t from 0
  unfolding two_of
  two_none = omega (arith, word_none (bits_from s (threshold_bit c) from), word_none (bits_from s (exclusion_bit c t) from))

  pub two_lt : (n : ℕ) → n ≤ 32 → two_of s c t from n < 2 ^ 64
  unfolding two_of
  two_lt n l = omega (arith, low_lt 32 n l, high_lt 32 n l)

  -- there is room for one bit more
  pub two_room : (n : ℕ) → n ≤ 31 → two_of s c t from n * 2 < 2 ^ 64
  unfolding two_of
  two_room n l = omega (arith, low_lt 31 n l, high_lt 31 n l)

  pub two_low : (n : ℕ) → n ≤ 32 → two_of s c t from n % 4294967296 ≡ word_of n (bits_from s (threshold_bit c) from)
  unfolding two_of
  two_low n l = omega (arith, low_lt 32 n l, high_lt 32 n l)

  pub two_high : (n : ℕ) → n ≤ 32 → two_of s c t from n / 4294967296 ≡ word_of n (bits_from s (exclusion_bit c t) from)
  unfolding two_of
  two_high n l = omega (arith, low_lt 32 n l, high_lt 32 n l)

-- ---- one sample before others, and two halves joined, for either test

module _ (s : List ℕ) (test : ℕ → ℕ) (from n : ℕ) where
  -- the samples from m on
  later : (m : ℕ) → word_of n (λ i. bits_from s test from (m + i)) ≡ word_of n (bits_from s test (from + m))
  later m =
      word_ext n (λ i. bits_from s test from (m + i)) (bits_from s test (from + m))
      (λ i _. let e : from + (m + i) ≡ from + m + i = omega arith in ap (λ (k : ℕ). test (get_or s k 0)) e)

  first_law : word_of n (bits_from s test (from + 1)) * 2 + test (get_or s from 0) ≡ word_of (n + 1) (bits_from s test from)
  first_law =
      let f = bits_from s test from in
      let one : word_of 1 f ≡ test (get_or s from 0) = omega (arith, word_more 0 f, word_none f, ap (λ (k : ℕ). test (get_or s k 0)) (add-zero from)) in
      let e : n + 1 ≡ 1 + n = omega arith in
      omega (arith, one, later 1, word_split 1 n f, ap (λ (k : ℕ). word_of k f) e)

  join_law : (x y : ℕ) → x ≡ word_of 32 (bits_from s test from) → y ≡ word_of n (bits_from s test (from + 32)) → x + y * 4294967296 ≡ word_of (32 + n) (bits_from s test from)
  join_law x y p q = omega (arith, p, q, later 32, word_split 32 n (bits_from s test from))

pub two_first : (s : List ℕ) (c t from n r : ℕ) → r ≡ entry_of c t (get_or s from 0) → two_of s c t (from + 1) n * 2 + r ≡ two_of s c t from (n + 1)
unfolding two_of entry_of
two_first s c t from n r e = omega (arith, e, first_law s (threshold_bit c) from n, first_law s (exclusion_bit c t) from n)

module _ (s : List ℕ) (c t from n a b : ℕ) (l : n ≤ 32) (p : a ≡ two_of s c t from 32) (q : b ≡ two_of s c t (from + 32) n) where
  pub joined_low : a % 4294967296 + b % 4294967296 * 4294967296 ≡ word_of (32 + n) (bits_from s (threshold_bit c) from)
  joined_low = join_law s (threshold_bit c) from n (a % 4294967296) (b % 4294967296)
      (ap (λ (k : ℕ). k % 4294967296) p ∙ two_low s c t from 32 (omega arith))
      (ap (λ (k : ℕ). k % 4294967296) q ∙ two_low s c t (from + 32) n l)

  pub joined_high : a / 4294967296 + b / 4294967296 * 4294967296 ≡ word_of (32 + n) (bits_from s (exclusion_bit c t) from)
  joined_high = join_law s (exclusion_bit c t) from n (a / 4294967296) (b / 4294967296)
      (ap (λ (k : ℕ). k / 4294967296) p ∙ two_high s c t from 32 (omega arith))
      (ap (λ (k : ℕ). k / 4294967296) q ∙ two_high s c t (from + 32) n l)
