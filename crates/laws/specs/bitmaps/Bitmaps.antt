-- Packed bitmaps: how many words a row has, the bits of a word by column, one bit of a word changed, the padding, and the set
-- bits of all words, which are the set pixels where the padding is clear.
use Rattle.std.specs.Prelude.{◌≡◌, refl, Bool, cond, List, ℕ, zero, suc, ◌+◌, ◌-◌, ◌*◌, ◌/◌, ◌%◌, ◌^◌, ◌≤◌, ◌<◌, max, eqb, ltb, length, get_or, drop}
use Rattle.std.proofs.Common.{sym, ap, ap₂, subst, ◌∙◌, ⊎_elim, le_trans, lt_of_le_of_lt, div-le_self, mul-le-mul_left, mul-le-mul_right, mod-lt}
use Rattle.std.proofs.Common.{mod-eq_of_lt, arith, eq-eqb, ne_eqb, lt-ltb, le-ltb, length-take, length-drop, pow_pos, get_or-take, get_or-drop}
use Rattle.std.specs.Int.Bits.{bit_and, bit_or, bit_xor, differ}
use Rattle.std.proofs.lemmas.Nat.{and_mask, or_lt, xor_lt}
use Rattle.std.proofs.Math.ListN.{get_or-eq_default}
use Rattle.definitions.specs.Sum.{sum}
use Rattle.definitions.specs.Bitmap.{words_per_row, bitmap_words, bit_of, word_of, word_at, bit_at, total, padding_set, row_of}
use Rattle.laws.specs.bitmaps.Bits.{bit_lt, bit_past, bit_zero, bit_shr, bit_or_lem, bit_xor_lem, bit_one_at, bit_one_off}
use Rattle.laws.specs.general.Cases.{lt_or_le, eq_or_ne}
use Rattle.laws.specs.images.Sizes.{row_inside}
use Rattle.laws.specs.general.Sums.{sum_none, sum_more, sum_ext, sum_upto, sum_zero, sum_rows, sum_none_in}
use Rattle.laws.specs.bitmaps.WordsOf.{word_ext, word_bits, bits_same}

-- ---- the words of a row

-- a row's words hold its columns
pub columns_fit : (w : ℕ) → w ≤ words_per_row w * 64
unfolding words_per_row
columns_fit w = omega arith

pub words_most : (w : ℕ) → w ≤ 8192 → words_per_row w ≤ 128
unfolding words_per_row
words_most w l = omega arith

pub bitmap_most : (w h : ℕ) → w ≤ 8192 → h ≤ 8192 → bitmap_words w h ≤ 1048576
bitmap_most w h p q = le_trans (mul-le-mul_left h (words_most w p)) (mul-le-mul_right 128 q)

-- the words of a bitmap as the code makes them of a row's, and that they are few
pub words_of_rows : (w h : ℕ) {n : ℕ} → w ≤ 8192 → h ≤ 8192 → n ≡ words_per_row w → (h * n ≡ bitmap_words w h) × (h * n ≤ 1048576)
words_of_rows w h {n} p q e = let m : h * n ≡ bitmap_words w h = ap (λ (k : ℕ). h * k) e in (m, omega (arith, bitmap_most w h p q))

-- the word of a pixel lies in its row
pub word_inside : (w x : ℕ) → x < w → x / 64 < words_per_row w
unfolding words_per_row
word_inside w x l = omega arith

-- and so does the word of a row's first padding bit, where it has one
pub last_inside : (w : ℕ) → (w % 64 ≡ 0 → ⊥) → w / 64 < words_per_row w
unfolding words_per_row
last_inside w ne = omega arith

-- ---- the bits of a word

-- `(v >> i) & 1`
pub bit_test : (v i : ℕ) → bit_and (v / 2 ^ i) 1 ≡ bit_of v i
unfolding bit_of
bit_test v i = and_mask (v / 2 ^ i) 1

-- column x of the words that f gives, 64 to a word, the lowest bit first
abbrev pub column : (ℕ → ℕ) → ℕ → ℕ
column f x = bit_of (f (x / 64)) (x % 64)

-- bit i of word k is a column
pub column_word : (f : ℕ → ℕ) (k i : ℕ) → i < 64 → bit_of (f k) i ≡ column f (k * 64 + i)
column_word f k i l =
    let a : k ≡ (k * 64 + i) / 64 = omega arith in
    let b : i ≡ (k * 64 + i) % 64 = omega arith in
    ap₂ (λ (p q : ℕ). bit_of (f p) q) a b

-- and of word k of row y it is the bitmap's
pub word_bit : (words : List ℕ) (w k y i : ℕ) → i < 64 → bit_of (get_or words (y * words_per_row w + k) 0) i ≡ bit_at words w (k * 64 + i) y
unfolding bit_at
word_bit words w k y i l = column_word (λ (p : ℕ). get_or words (y * words_per_row w + p) 0) k i l

-- ---- one bit changed

-- the word v with bit i set to b
abbrev pub with_one : ℕ → ℕ → ℕ → ℕ
with_one v i b = word_of 64 (λ (k : ℕ). cond (eqb k i) b (bit_of v k))

-- `1 << i`
abbrev pub one_at : ℕ → ℕ
one_at i = (1 * 2 ^ i) % 2 ^ 64

differ_none : (a : ℕ) → differ a 0 ≡ a
differ_none zero = refl
differ_none (suc a) = refl

-- a word is made of what its bits are
pub word_is : (n r : ℕ) (f : ℕ → ℕ) → r < 2 ^ n → ((k : ℕ) → k < n → bit_of r k ≡ f k) → r ≡ word_of n f
word_is n r f l h = sym (mod-eq_of_lt l) ∙ sym (word_bits n r) ∙ word_ext n (bit_of r) f h

module _ (v i : ℕ) (fits : v < 2 ^ 64) (l : i < 64) where
  -- a word r with bit b at i and v's bits elsewhere
  pub with_one_lem : (r b : ℕ) → r < 2 ^ 64 → bit_of r i ≡ b → ((k : ℕ) → k < 64 → (k ≡ i → ⊥) → bit_of r k ≡ bit_of v k) → r ≡ with_one v i b
  with_one_lem r b f at rest = word_is 64 r (λ (k : ℕ). cond (eqb k i) b (bit_of v k)) f (λ k m. ⊎_elim
      (λ (e : k ≡ i). ap (bit_of r) e ∙ at ∙ sym (ap (λ (t : Bool). cond t b (bit_of v k)) (eq-eqb k i e)))
      (λ (e : k ≡ i → ⊥). rest k m e ∙ sym (ap (λ (t : Bool). cond t b (bit_of v k)) (ne_eqb k i e)))
      (eq_or_ne k i))

  one_fits : one_at i < 2 ^ 64
  one_fits = mod-lt (1 * 2 ^ i) (pow_pos 64)

  -- `v | (1 << i)`
  set_at : bit_of (bit_or v (one_at i)) i ≡ 1
  set_at = bit_or_lem v (one_at i) i ∙ ap (max (bit_of v i)) (bit_one_at 64 i l) ∙ omega (arith, bit_lt v i)

  set_off : (k : ℕ) → k < 64 → (k ≡ i → ⊥) → bit_of (bit_or v (one_at i)) k ≡ bit_of v k
  set_off k m ne = bit_or_lem v (one_at i) k ∙ ap (max (bit_of v k)) (bit_one_off 64 i k m ne) ∙ omega arith

  pub with_set : bit_or v (one_at i) ≡ with_one v i 1
  with_set = with_one_lem (bit_or v (one_at i)) 1 (or_lt 64 v (one_at i) fits one_fits) set_at set_off

  -- and `(v | (1 << i)) ^ (1 << i)`
  pub with_cleared : bit_xor (bit_or v (one_at i)) (one_at i) ≡ with_one v i 0
  with_cleared =
      let o = bit_or v (one_at i) in
      with_one_lem (bit_xor o (one_at i)) 0 (xor_lt 64 o (one_at i) (or_lt 64 v (one_at i) fits one_fits) one_fits)
      (bit_xor_lem o (one_at i) i ∙ ap₂ differ set_at (bit_one_at 64 i l))
      (λ k m ne. bit_xor_lem o (one_at i) k ∙ ap (differ (bit_of o k)) (bit_one_off 64 i k m ne) ∙ differ_none (bit_of o k) ∙ set_off k m ne)

-- ---- padding

-- the padding bits of row y
abbrev pub padding_in : List ℕ → ℕ → ℕ → ℕ
padding_in words w y = sum (words_per_row w * 64 - w) (λ (i : ℕ). bit_at words w (w + i) y)

-- a row of whole words has none
pub padding_none : (words : List ℕ) (w h : ℕ) → w % 64 ≡ 0 → 0 ≡ padding_set words w h
unfolding padding_set words_per_row
padding_none words w h e =
    sym (sum_zero h (padding_in words w) (λ y _. sum_zero (words_per_row w * 64 - w) (λ (i : ℕ). bit_at words w (w + i) y) (λ i l. absurd (omega arith))))

-- the bits of a word v from s on are clear exactly if t is 0
pub record ClearFrom (s v t : ℕ) : Type 0 where
  pub fits : v < 2 ^ 64
  pub clear : t ≡ 0 → (i : ℕ) → s ≤ i → i < 64 → bit_of v i ≡ 0
  pub none : ((i : ℕ) → s ≤ i → i < 64 → bit_of v i ≡ 0) → t ≡ 0

clear_zero : (s : ℕ) → ClearFrom s 0 0
clear_zero s = record { fits = pow_pos 64; clear = λ _ i _ _. bit_zero i; none = λ _. refl }

pub clear_or : {s v t v' t' : ℕ} → ClearFrom s v t → ClearFrom s v' t' → ClearFrom s (bit_or v v') (t + t')
clear_or {s} {v} {t} {v'} {t'} p q = record {
  fits = or_lt 64 v v' p.fits q.fits;
  clear = λ e i g l. omega (arith, bit_or_lem v v' i, p.clear (omega arith) i g l, q.clear (omega arith) i g l);
  none = λ h.
      let a = p.none (λ i g l. omega (arith, bit_or_lem v v' i, h i g l)) in
      let b = q.none (λ i g l. omega (arith, bit_or_lem v v' i, h i g l)) in
      omega arith;
}

-- so are those of a row's last word past its pixels, by the row's padding
clear_row : (words : List ℕ) (w y : ℕ) → get_or words (word_at w w y) 0 < 2 ^ 64 → (w % 64 ≡ 0 → ⊥) → ClearFrom (w % 64) (get_or words (word_at w w y) 0) (padding_in words w y)
unfolding words_per_row
clear_row words w y f ne = record {
  fits = f;
  clear = λ e i g l.
      word_bit words w (w / 64) y i l
      ∙ ap (λ (x : ℕ). bit_at words w x y) (omega arith)
      ∙ sum_none_in (words_per_row w * 64 - w) (λ (i : ℕ). bit_at words w (w + i) y) e (i - w % 64) (omega arith);
  none = λ h.
      sum_zero (words_per_row w * 64 - w) (λ (i : ℕ). bit_at words w (w + i) y)
      (λ i l.
      let p : w + i ≡ w / 64 * 64 + (w % 64 + i) = omega arith in
      ap (λ (x : ℕ). bit_at words w x y) p ∙ sym (word_bit words w (w / 64) y (w % 64 + i) (omega arith)) ∙ h (w % 64 + i) (omega arith) (omega arith));
}

-- and those of the last words of the first rows, taken together
module _ (words : List ℕ) (w : ℕ) where
  pub clear_none : ClearFrom (w % 64) 0 (sum 0 (padding_in words w))
  clear_none = subst (ClearFrom (w % 64) 0) (sym (sum_none (padding_in words w))) (clear_zero (w % 64))

  pub clear_more : (w % 64 ≡ 0 → ⊥) → (y at v : ℕ) → at ≡ word_at w w y → get_or words at 0 < 2 ^ 64 → ClearFrom (w % 64) v (sum y (padding_in words w))
      → ClearFrom (w % 64) (bit_or v (get_or words at 0)) (sum (y + 1) (padding_in words w))
  clear_more ne y at v is f p =
      let row : ClearFrom (w % 64) (get_or words at 0) (padding_in words w y) =
      subst (λ (k : ℕ). get_or words k 0 < 2 ^ 64 → ClearFrom (w % 64) (get_or words k 0) (padding_in words w y)) (sym is) (λ g. clear_row words w y g ne) f in
      subst (ClearFrom (w % 64) (bit_or v (get_or words at 0))) (sym (sum_more y (padding_in words w))) (clear_or p row)

-- `v >> s > 0`
pub clear_test : {s v t : ℕ} → ClearFrom s v t → ltb 0 (v / 2 ^ s) ≡ ltb 0 t
clear_test {s} {v} {t} p = ⊎_elim
    (λ (h : 0 < t). lt-ltb 0 (v / 2 ^ s) (some h) ∙ sym (lt-ltb 0 t h))
    (λ (h : t ≤ 0). le-ltb 0 (v / 2 ^ s) (omega (arith, all h)) ∙ sym (le-ltb 0 t h))
    (lt_or_le 0 t)
  where
    all : t ≤ 0 → v / 2 ^ s ≡ 0
    all h = bits_same 64 (v / 2 ^ s) 0 (lt_of_le_of_lt (div-le_self v (2 ^ s)) p.fits) (pow_pos 64) (λ i l. bit_shr v s i ∙ ⊎_elim
        (λ (k : s + i < 64). p.clear (omega arith) (s + i) (omega arith) k)
        (λ (k : 64 ≤ s + i). bit_past 64 v (s + i) p.fits k)
        (lt_or_le (s + i) 64)
        ∙ sym (bit_zero i))

    some : 0 < t → 0 < v / 2 ^ s
    some h = ⊎_elim
        (λ (k : 0 < v / 2 ^ s). k)
        (λ (k : v / 2 ^ s ≤ 0).
        let z : v / 2 ^ s ≡ 0 = omega arith in
        let e : t ≡ 0 =
        p.none (λ i g l.
        let u : s + (i - s) ≡ i = omega arith in
        ap (bit_of v) (sym u) ∙ sym (bit_shr v s (i - s)) ∙ ap (λ (x : ℕ). bit_of x (i - s)) z ∙ bit_zero (i - s)) in
        absurd (omega arith))
        (lt_or_le 0 (v / 2 ^ s))

-- the words of a bitmap of w by h: as many as it has, with clear padding
pub record IsBitmap (words : List ℕ) (w h : ℕ) : Type 0 where
  pub long : length words ≡ bitmap_words w h
  pub clear : (x y : ℕ) → w ≤ x → x < words_per_row w * 64 → y < h → bit_at words w x y ≡ 0

-- what the checks 2 and 8 give
pub padding_clear : (words : List ℕ) (w h : ℕ) → length words ≡ bitmap_words w h → padding_set words w h ≡ 0 → IsBitmap words w h
unfolding padding_set
padding_clear words w h e z = record {
  long = e;
  clear = λ x y g l k.
      let p : x ≡ w + (x - w) = omega arith in
      ap (λ (u : ℕ). bit_at words w u y) p
      ∙ sum_none_in (words_per_row w * 64 - w) (λ (i : ℕ). bit_at words w (w + i) y) (sum_none_in h (padding_in words w) z y k) (x - w) (omega arith);
}

-- ---- the set bits of whole words

-- of the words of row y: its pixels, where the padding is clear
pub row_total : {words : List ℕ} {w h : ℕ} → IsBitmap words w h → (y : ℕ) → y < h
    → sum (words_per_row w) (λ (k : ℕ). sum 64 (bit_of (get_or words (y * words_per_row w + k) 0))) ≡ sum w (λ (x : ℕ). bit_at words w x y)
row_total {words} {w} {h} m y l =
    let n = words_per_row w in
    sum_ext n (λ (k : ℕ). sum 64 (bit_of (get_or words (y * n + k) 0))) (λ (k : ℕ). sum 64 (λ (i : ℕ). bit_at words w (k * 64 + i) y))
    (λ k _. sum_ext 64 (bit_of (get_or words (y * n + k) 0)) (λ (i : ℕ). bit_at words w (k * 64 + i) y) (λ i g. word_bit words w k y i g))
    ∙ sym (sum_rows n 64 (λ (x : ℕ). bit_at words w x y))
    ∙ sum_upto w (n * 64) (λ (x : ℕ). bit_at words w x y) (columns_fit w) (λ x g k. m.clear x y g k l)

-- of all words: the bitmap's total
pub all_total : {words : List ℕ} {w h : ℕ} → IsBitmap words w h → sum (length words) (λ (k : ℕ). sum 64 (bit_of (get_or words k 0))) ≡ total words w h
unfolding total
all_total {words} {w} {h} m =
    let f : ℕ → ℕ = λ k. sum 64 (bit_of (get_or words k 0)) in
    ap (λ (n : ℕ). sum n f) m.long
    ∙ sum_rows h (words_per_row w) f
    ∙ sum_ext h (λ (y : ℕ). sum (words_per_row w) (λ (k : ℕ). f (y * words_per_row w + k))) (λ (y : ℕ). sum w (λ (x : ℕ). bit_at words w x y)) (row_total m)

-- ---- a row as a part, by its columns

-- column x of a row of words: 0 past its last word
abbrev pub row_bit : List ℕ → ℕ → ℕ
row_bit row x = column (λ (k : ℕ). get_or row k 0) x

pub row_length : (words : List ℕ) (w h y : ℕ) → length words ≡ bitmap_words w h → y < h → length (row_of words w y) ≡ words_per_row w
unfolding row_of
row_length words w h y e l = rw (length-take, length-drop) (omega (arith, row_inside (words_per_row w) h y l))

-- the columns of row y are the bitmap's
pub row_bit_lem : (words : List ℕ) (w x y : ℕ) → x < words_per_row w * 64 → row_bit (row_of words w y) x ≡ bit_at words w x y
unfolding row_of bit_at
row_bit_lem words w x y l =
    ap (λ (v : ℕ). bit_of v (x % 64))
    (get_or-take (words_per_row w) (drop (y * words_per_row w) words) (x / 64) 0 (omega arith) ∙ get_or-drop (y * words_per_row w) words (x / 64) 0)

-- and none is set from w on
pub row_clear : {words : List ℕ} {w h : ℕ} → IsBitmap words w h → (y : ℕ) → y < h → (x : ℕ) → w ≤ x → row_bit (row_of words w y) x ≡ 0
row_clear {words} {w} {h} m y l x g = ⊎_elim
    (λ (k : x < words_per_row w * 64). row_bit_lem words w x y k ∙ m.clear x y g k l)
    (λ (k : words_per_row w * 64 ≤ x).
    let e = row_length words w h y m.long l in
    ap (λ (v : ℕ). bit_of v (x % 64)) (get_or-eq_default {A = ℕ} (row_of words w y) 0 {n = x / 64} (omega arith))
    ∙ bit_zero (x % 64))
    (lt_or_le x (words_per_row w * 64))
