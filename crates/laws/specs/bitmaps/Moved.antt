-- Words of a moved row. A row of n words that moves by whole words to the right, m, or to the left, q, and then by some bits to
-- the left, shows at word k two neighbours funnelled together, by each bit what stands at its source; and what four words give bit
-- by bit is what the pixels of a row and their sources give.
use Rattle.std.specs.Prelude.{◌≡◌, Bool, true, false, cond, ℕ, ◌+◌, ◌-◌, ◌*◌, ◌/◌, ◌%◌, ◌^◌, ◌≤◌, ◌<◌, max, ltb}
use Rattle.std.proofs.Common.{sym, ap, ap₂, ◌∙◌, ⊎_elim, div-one, zero-mul, div-le_self, arith, lt-ltb, le-ltb}
use Rattle.std.proofs.Math.Nat.{zero-div}
use Rattle.std.specs.Int.Bits.{bit_or, or_zero_r}
use Rattle.definitions.specs.Bitmap.{bit_of}
use Rattle.laws.specs.bitmaps.Bits.{bit_past, bit_zero, bit_shr, bit_shl_low, bit_shl_high, bit_or_lem}
use Rattle.laws.specs.bitmaps.Bitmaps.{column}
use Rattle.laws.specs.general.Cases.{lt_or_le}

-- ---- two neighbours

-- the word that starts s bits up in lo, s < 64, with hi the word after it: `(lo >> s) | (hi << (64 - s))`
abbrev pub funnel : ℕ → ℕ → ℕ → ℕ
funnel lo hi s = bit_or (lo / 2 ^ s) ((hi * 2 ^ (64 - s)) % 2 ^ 64)

funnel_low : (lo hi s i : ℕ) → s + i < 64 → bit_of (funnel lo hi s) i ≡ bit_of lo (s + i)
funnel_low lo hi s i h =
    bit_or_lem (lo / 2 ^ s) ((hi * 2 ^ (64 - s)) % 2 ^ 64) i
    ∙ ap₂ max (bit_shr lo s i) (bit_shl_low 64 hi (64 - s) i (omega arith) (omega arith))
    ∙ omega arith

funnel_high : (lo hi s i : ℕ) → lo < 2 ^ 64 → i < 64 → s < 64 → 64 ≤ s + i → bit_of (funnel lo hi s) i ≡ bit_of hi (s + i - 64)
funnel_high lo hi s i w l m h =
    let e : i - (64 - s) ≡ s + i - 64 = omega arith in
    bit_or_lem (lo / 2 ^ s) ((hi * 2 ^ (64 - s)) % 2 ^ 64) i
    ∙ ap₂ max (bit_shr lo s i ∙ bit_past 64 lo (s + i) w h) (bit_shl_high 64 hi (64 - s) i l (omega arith) ∙ ap (bit_of hi) e)
    ∙ omega arith

-- at no bits it is lo itself, whatever comes after it
pub funnel_none : (lo hi : ℕ) → funnel lo hi 0 ≡ lo
funnel_none lo hi =
    let e : hi * 2 ^ (64 - 0) % 2 ^ 64 ≡ 0 = omega arith in
    ap₂ bit_or (div-one lo) e ∙ or_zero_r lo

-- the word from column x on, of the words that f gives
column_funnel : (f : ℕ → ℕ) (x i : ℕ) → f (x / 64) < 2 ^ 64 → i < 64
    → bit_of (funnel (f (x / 64)) (f (x / 64 + 1)) (x % 64)) i ≡ column f (x + i)
column_funnel f x i h l = ⊎_elim
    (λ (k : x % 64 + i < 64).
    let w : x / 64 ≡ (x + i) / 64 = omega arith in
    let b : x % 64 + i ≡ (x + i) % 64 = omega arith in
    funnel_low (f (x / 64)) (f (x / 64 + 1)) (x % 64) i k ∙ ap₂ (λ (p q : ℕ). bit_of (f p) q) w b)
    (λ (k : 64 ≤ x % 64 + i).
    let w : x / 64 + 1 ≡ (x + i) / 64 = omega arith in
    let b : x % 64 + i - 64 ≡ (x + i) % 64 = omega arith in
    funnel_high (f (x / 64)) (f (x / 64 + 1)) (x % 64) i h l (omega arith) k ∙ ap₂ (λ (p q : ℕ). bit_of (f p) q) w b)
    (lt_or_le (x % 64 + i) 64)

-- nothing before hi, and nothing after lo: one word shifted down and up, `(v >> down) << up`
abbrev pub part : ℕ → ℕ → ℕ → ℕ
part v down up = (v / 2 ^ down * 2 ^ up) % 2 ^ 64

pub funnel_first : (hi s : ℕ) → funnel 0 hi s ≡ part hi 0 (64 - s)
funnel_first hi s =
    ap₂ bit_or (zero-div (2 ^ s)) (ap (λ (v : ℕ). (v * 2 ^ (64 - s)) % 2 ^ 64) (sym (div-one hi)))

no_high : (lo s : ℕ) → funnel lo 0 s ≡ lo / 2 ^ s
no_high lo s = ap (bit_or (lo / 2 ^ s)) (ap (λ (v : ℕ). v % 2 ^ 64) (zero-mul (2 ^ (64 - s)))) ∙ or_zero_r (lo / 2 ^ s)

pub funnel_last : (lo s : ℕ) → lo < 2 ^ 64 → funnel lo 0 s ≡ part lo s 0
funnel_last lo s f = no_high lo s ∙ omega (arith, div-le_self lo (2 ^ s))

-- nothing at all
pub funnel_zero : (s : ℕ) → funnel 0 0 s ≡ 0
funnel_zero s = no_high 0 s ∙ zero-div (2 ^ s)

-- ---- a row behind m words of zeros

-- word v of the line, where f gives the row's words
abbrev pub line_word : ℕ → (ℕ → ℕ) → ℕ → ℕ
line_word m f v = cond (ltb v m) 0 (f (v - m))

-- what g gives at column x of the line
abbrev pub lined : ℕ → (ℕ → ℕ) → ℕ → ℕ
lined m g x = cond (ltb x (m * 64)) 0 (g (x - m * 64))

pub line_before : (m : ℕ) (f : ℕ → ℕ) (v : ℕ) → v < m → line_word m f v ≡ 0
line_before m f v l = ap (λ (b : Bool). cond b 0 (f (v - m))) (lt-ltb v m l)

pub line_in : (m : ℕ) (f : ℕ → ℕ) (v j : ℕ) → m + j ≡ v → line_word m f v ≡ f j
line_in m f v j e =
    let p : v - m ≡ j = omega arith in
    ap (λ (b : Bool). cond b 0 (f (v - m))) (le-ltb v m (omega arith)) ∙ ap f p

pub lined_before : (m : ℕ) (g : ℕ → ℕ) (x : ℕ) → x < m * 64 → lined m g x ≡ 0
lined_before m g x l = ap (λ (b : Bool). cond b 0 (g (x - m * 64))) (lt-ltb x (m * 64) l)

pub lined_in : (m : ℕ) (g : ℕ → ℕ) (x u : ℕ) → m * 64 + u ≡ x → lined m g x ≡ g u
lined_in m g x u e =
    let p : x - m * 64 ≡ u = omega arith in
    ap (λ (b : Bool). cond b 0 (g (x - m * 64))) (le-ltb x (m * 64) (omega arith)) ∙ ap g p

-- the line's words hold its columns
line_column : (m : ℕ) (f : ℕ → ℕ) (x : ℕ) → column (line_word m f) x ≡ lined m (column f) x
line_column m f x = ⊎_elim
    (λ (h : x < m * 64).
    ap (λ (v : ℕ). bit_of v (x % 64)) (line_before m f (x / 64) (omega arith)) ∙ bit_zero (x % 64) ∙ sym (lined_before m (column f) x h))
    (λ (h : m * 64 ≤ x).
    let u = x - m * 64 in
    let b : x % 64 ≡ u % 64 = omega arith in
    ap₂ bit_of (line_in m f (x / 64) (u / 64) (omega arith)) b ∙ sym (lined_in m (column f) x u (omega arith)))
    (lt_or_le x (m * 64))

-- word k of the row f moved by m words to the right and q words and s bits to the left
abbrev pub moved_word : ℕ → ℕ → ℕ → (ℕ → ℕ) → ℕ → ℕ
moved_word m q s f k = funnel (line_word m f (k + q)) (line_word m f (k + q + 1)) s

-- and its bits
line_fits : (m : ℕ) (f : ℕ → ℕ) → ((j : ℕ) → f j < 2 ^ 64) → (v : ℕ) → line_word m f v < 2 ^ 64
line_fits m f fits v = on (ltb v m)
  where
    on : (b : Bool) → cond b 0 (f (v - m)) < 2 ^ 64
    on true = omega arith
    on false = fits (v - m)

pub moved_bit : (m q s : ℕ) (f : ℕ → ℕ) (k i : ℕ) → ((j : ℕ) → f j < 2 ^ 64) → s < 64 → i < 64
    → bit_of (moved_word m q s f k) i ≡ lined m (column f) (k * 64 + i + (q * 64 + s))
moved_bit m q s f k i fits l h =
    let x = k * 64 + (q * 64 + s) in
    let w : k + q ≡ x / 64 = omega arith in
    let b : s ≡ x % 64 = omega arith in
    let p : x + i ≡ k * 64 + i + (q * 64 + s) = omega arith in
    ap₂ (λ (v r : ℕ). bit_of (funnel (line_word m f v) (line_word m f (v + 1)) r) i) w b
    ∙ column_funnel (line_word m f) x i (line_fits m f fits (x / 64)) h
    ∙ ap (column (line_word m f)) p
    ∙ line_column m f (k * 64 + i + (q * 64 + s))
