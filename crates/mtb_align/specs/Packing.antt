-- Both bitmaps in one pass: a sample's two bits in one number, those of up to 32 samples, and a row's words.
use Rattle.std.specs.Prelude.{ℕ, ◌+◌, ◌*◌, ◌^◌, cond, List, ltb, get_or}
use Rattle.definitions.specs.Build.{build}
use Rattle.definitions.specs.Threshold.{threshold_bit, exclusion_bit}
use Rattle.definitions.specs.Bitmap.{words_per_row, word_of}

-- The threshold bit lowest, the exclusion bit 32 up.
unfoldable pub entry_of : ℕ → ℕ → ℕ → ℕ
entry_of c tolerance v = threshold_bit c v + exclusion_bit c tolerance v * 2 ^ 32

-- The entry of every sample value.
unfoldable pub table_of : ℕ → ℕ → List ℕ
table_of c tolerance = build 256 (entry_of c tolerance)

-- The bits of the samples from one on, under a test of a sample.
abbrev pub bits_from : List ℕ → (ℕ → ℕ) → ℕ → ℕ → ℕ
bits_from s test from i = test (get_or s (from + i) 0)

-- Both bits of n samples, at most 32.
unfoldable pub two_of : List ℕ → ℕ → ℕ → ℕ → ℕ → ℕ
two_of s c tolerance from n = word_of n (bits_from s (threshold_bit c) from) + word_of n (bits_from s (exclusion_bit c tolerance) from) * 2 ^ 32

-- The words of a row of w pixels whose bits are f, padding clear.
unfoldable pub words_of_row : ℕ → (ℕ → ℕ) → List ℕ
words_of_row w f = build (words_per_row w) (λ (k : ℕ). word_of 64 (λ (i : ℕ). cond (ltb (k * 64 + i) w) (f (k * 64 + i)) 0))
