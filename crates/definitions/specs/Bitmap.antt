-- bitmap.rs: packed bitmaps. A row is ceil (width / 64) words of 64 bits, the lowest bit first, padding clear.
use Rattle.std.specs.Prelude.{ℕ, zero, suc, ◌+◌, ◌-◌, ◌*◌, ◌/◌, ◌%◌, ◌^◌, cond, List, ltb, eqb, get_or, set, take, drop}
use Rattle.definitions.specs.Sum.{sum}
use Rattle.definitions.specs.Build.{image}

-- The words of a row: none where the width is 0.
unfoldable pub words_per_row : ℕ → ℕ
words_per_row w = (w + 63) / 64

-- The words of a bitmap of w by h.
abbrev pub bitmap_words : ℕ → ℕ → ℕ
bitmap_words w h = h * words_per_row w

-- Bit i of a word, 0 or 1, the lowest first.
unfoldable pub bit_of : ℕ → ℕ → ℕ
bit_of word i = (word / 2 ^ i) % 2

-- The number whose bit i is f i, for each i below n, where f gives 0 or 1.
unfoldable pub word_of : ℕ → (ℕ → ℕ) → ℕ
word_of zero f = 0
word_of (suc n) f = f n * 2 ^ n + word_of n f

-- Where the word with column x of row y stands.
abbrev pub word_at : ℕ → ℕ → ℕ → ℕ
word_at w x y = y * words_per_row w + x / 64

-- The bit at column x and row y of a bitmap of width w. Columns from w on are its padding; past the last word it is 0.
unfoldable pub bit_at : List ℕ → ℕ → ℕ → ℕ → ℕ
bit_at words w x y = bit_of (get_or words (word_at w x y) 0) (x % 64)

-- The bitmap of w by h whose bit at each pixel is p column row, padding clear.
unfoldable pub packed : ℕ → ℕ → (ℕ → ℕ → ℕ) → List ℕ
packed w h p = image (words_per_row w) h (λ (k y : ℕ). word_of 64 (λ (i : ℕ). cond (ltb (k * 64 + i) w) (p (k * 64 + i) y) 0))

-- The bitmap with the bit at column x and row y set to b, 0 or 1, and every other bit as it was.
unfoldable pub with_bit : List ℕ → ℕ → ℕ → ℕ → ℕ → List ℕ
with_bit words w x y b =
    set words (word_at w x y) (word_of 64 (λ (i : ℕ). cond (eqb i (x % 64)) b (bit_of (get_or words (word_at w x y) 0) i)))

-- Ward's BitmapTotal: how many pixels are set.
unfoldable pub total : List ℕ → ℕ → ℕ → ℕ
total words w h = sum h (λ (y : ℕ). sum w (λ (x : ℕ). bit_at words w x y))

-- How many padding bits are set.
unfoldable pub padding_set : List ℕ → ℕ → ℕ → ℕ
padding_set words w h = sum h (λ (y : ℕ). sum (words_per_row w * 64 - w) (λ (i : ℕ). bit_at words w (w + i) y))

-- The words of row y.
unfoldable pub row_of : List ℕ → ℕ → ℕ → List ℕ
row_of words w y = take (words_per_row w) (drop (y * words_per_row w) words)
