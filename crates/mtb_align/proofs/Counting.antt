-- Runs of words and lines of them as loops count them, and that the words that are read lie inside.
use mathlib.Core.Path.{◌≡◌, refl, sym, ap, ap₂, subst, ◌∙◌}
use mathlib.Core.List.{List}
use Prim.Native.Nat.{ℕ, ◌+◌, ◌-◌, ◌*◌, ◌/◌, ◌%◌, ◌^◌, ◌≤◌, ◌<◌, min}
use native.Mathlib.Nat.{add-mul, mul-le-mul_right}
use native.Mathlib.Omega.{arith}
use lib.ListN.{get_or}
use Rattle.definitions.specs.Sum.{sum}
use Rattle.definitions.specs.Bitmap.{bit_of, words_per_row}
use Rattle.laws.specs.bitmaps.Bitmaps.{IsBitmap, bitmap_most}
use Rattle.laws.specs.bitmaps.Joints.{Alike, Reaches, LinesReach, Counted, Showing, shown_counted, counted_as, counted_is, counted_sum}
use Rattle.laws.specs.bitmaps.Joints.{spanned, edged, run_sum, lines_sum, run_none, run_more, run_split, lines_split, lines_swap, lines_flat}
use Rattle.laws.specs.bitmaps.MovedRows.{moved_rows, rows_flat, rows_whole, rows_right, rows_left}
use Rattle.laws.specs.images.Sizes.{area}

module _ (p : List ℕ → ℕ → ℕ) (rt re st se : List ℕ) (i j step : ℕ) where
  -- after k words of a run, one more, of which a and b ones were counted
  pub one_more : (k : ℕ) {at from c d a b x y : ℕ} → at ≡ i + k * step → from ≡ j + k * step → Counted (run_sum p rt re st se i j step k) (k * 64) c d
      → Showing p rt re st se at from x y → a ≡ sum 64 (bit_of x) → b ≡ sum 64 (bit_of y)
      → Counted (run_sum p rt re st se i j step (k + 1)) ((k + 1) * 64) (c + a) (d + b)
  one_more k {at} {from} ei ej q o ea eb =
      run_more p rt re st se i j step k _ _ q at from ei ej _ _ (counted_is (shown_counted p rt re st se at from _ _ o) (omega arith) ea eb)

  -- all of them
  pub run_ends : {k len c d : ℕ} → Counted (run_sum p rt re st se i j step k) (k * 64) c d → k ≡ len → Counted (run_sum p rt re st se i j step len) (len * 64) c d
  run_ends {k} {len} {c} {d} q e = subst (λ (n : ℕ). Counted (run_sum p rt re st se i j step n) (n * 64) c d) e q

-- where the next of them stands
pub next_at : (i k step : ℕ) {at : ℕ} → at ≡ i + k * step → at + step ≡ i + (k + 1) * step
next_at i k step e = omega (arith, e, add-mul k 1 step)

-- a line of those that lie inside, and a column of lines that do
pub line_in : {size more i j apart step lines len at from : ℕ} → LinesReach size more i j apart step lines len → (r : ℕ) → r < lines
    → at ≡ i + r * apart → from ≡ j + r * apart → Reaches size more at from step len
line_in inside r l ea ef = rw (ea, ef) (inside.line r l)

pub column_in : {size more i j apart lines len at from : ℕ} → LinesReach size more i j apart 1 lines len → (k : ℕ) → k < len
    → at ≡ i + k → from ≡ j + k → Reaches size more at from apart lines
column_in inside k l ea ef = record { each = λ r h. let o = (inside.line r h).each k l in (omega (arith, ea), omega (arith, ef)) }

-- counted by columns where by rows
pub by_columns : (p : List ℕ → ℕ → ℕ) (rt re st se : List ℕ) (i j n rows columns : ℕ) {most more c d : ℕ} → most ≤ more
    → Counted (lines_sum p rt re st se i j 1 n columns rows) most c d → Counted (lines_sum p rt re st se i j n 1 rows columns) more c d
by_columns p rt re st se i j n rows columns l q = counted_as q l (λ g _. lines_swap p rt re st se i j 1 n rows columns g)

-- ---- lines from some line on

module _ {size more i j apart step lines len at from : ℕ} (inside : LinesReach size more i j apart step lines len) where
  pub lines_inside : (line n : ℕ) → line + n ≤ lines → at ≡ i + line * apart → from ≡ j + line * apart → LinesReach size more at from apart step n len
  lines_inside line n l ea ef = record {
    line = λ r h. record {
      each = λ k m.
          let o = (inside.line (line + r) (omega arith)).each k m in
          let e = add-mul line r apart in
          (omega (arith, ea), omega (arith, ef));
    };
  }

module _ (p : List ℕ → ℕ → ℕ) (rt re st se : List ℕ) (i j apart step len most : ℕ) where
  -- some lines are counted, and then n more
  pub lines_counted : (line n : ℕ) {at from c d a b x y : ℕ} → at ≡ i + line * apart → from ≡ j + line * apart
      → Counted (lines_sum p rt re st se i j apart step line len) (line * most) c d
      → Counted (lines_sum p rt re st se at from apart step n len) (n * most) a b → (x ≡ c + a) × (y ≡ d + b)
      → Counted (lines_sum p rt re st se i j apart step (line + n) len) ((line + n) * most) x y
  lines_counted line n ea ef q o e = counted_sum q o e (omega (arith, add-mul line n most))
      (λ g _. lines_split p rt re st se i j apart step len line n g
      ∙ ap (λ (t : ℕ). lines_sum p rt re st se i j apart step line len g + t) (ap₂ (λ (u v : ℕ). lines_sum p rt re st se u v apart step n len g) (sym ea) (sym ef)))

  -- all of them
  pub lines_end : {k lines c d : ℕ} → Counted (lines_sum p rt re st se i j apart step k len) (k * most) c d → k ≡ lines
      → Counted (lines_sum p rt re st se i j apart step lines len) (lines * most) c d
  lines_end {k} {lines} {c} {d} q e = subst (λ (n : ℕ). Counted (lines_sum p rt re st se i j apart step n len) (n * most) c d) e q

-- ---- seven words

pub seven : (p : List ℕ → ℕ → ℕ) (rt re st se : List ℕ) (i j step : ℕ) {a₀ b₀ a₁ b₁ a₂ b₂ a₃ b₃ a₄ b₄ a₅ b₅ a₆ b₆ x y : ℕ}
    → Showing p rt re st se i j a₀ b₀
    → Showing p rt re st se (i + step) (j + step) a₁ b₁
    → Showing p rt re st se (i + 2 * step) (j + 2 * step) a₂ b₂
    → Showing p rt re st se (i + 3 * step) (j + 3 * step) a₃ b₃
    → Showing p rt re st se (i + 4 * step) (j + 4 * step) a₄ b₄
    → Showing p rt re st se (i + 5 * step) (j + 5 * step) a₅ b₅
    → Showing p rt re st se (i + 6 * step) (j + 6 * step) a₆ b₆
    → x ≡ sum 64 (bit_of a₀) + sum 64 (bit_of a₁) + sum 64 (bit_of a₂) + sum 64 (bit_of a₃) + sum 64 (bit_of a₄) + sum 64 (bit_of a₅) + sum 64 (bit_of a₆)
    → y ≡ sum 64 (bit_of b₀) + sum 64 (bit_of b₁) + sum 64 (bit_of b₂) + sum 64 (bit_of b₃) + sum 64 (bit_of b₄) + sum 64 (bit_of b₅) + sum 64 (bit_of b₆)
    → Counted (run_sum p rt re st se i j step 7) 448 x y
seven p rt re st se i j step o₀ o₁ o₂ o₃ o₄ o₅ o₆ ex ey =
    let q = next 0 (run_none p rt re st se i j step) (omega arith) (omega arith) o₀ in
    let q = next 1 q (omega arith) (omega arith) o₁ in
    let q = next 6 (next 5 (next 4 (next 3 (next 2 q refl refl o₂) refl refl o₃) refl refl o₄) refl refl o₅) refl refl o₆ in
    counted_is q (omega arith) (omega arith) (omega arith)
  where
    next : (k : ℕ) {at from c d a b : ℕ} → Counted (run_sum p rt re st se i j step k) (k * 64) c d → at ≡ i + k * step → from ≡ j + k * step
        → Showing p rt re st se at from a b → Counted (run_sum p rt re st se i j step (k + 1)) ((k + 1) * 64) (c + sum 64 (bit_of a)) (d + sum 64 (bit_of b))
    next k q ei ej o = one_more p rt re st se i j step k ei ej q o refl refl

-- words that follow each other: seven runs of a seventh, and what is left
pub sevenths_counted : (p : List ℕ → ℕ → ℕ) (rt re st se : List ℕ) (i j seventh len : ℕ) → seventh ≡ len / 7 → {a b c d x y : ℕ}
    → Counted (lines_sum p rt re st se i j seventh 1 7 seventh) (seventh * 448) a b → Counted (run_sum p rt re st se (i + 7 * seventh) (j + 7 * seventh) 1 (len % 7)) (len % 7 * 64) c d
    → (x ≡ a + c) × (y ≡ b + d) → Counted (run_sum p rt re st se i j 1 len) (len * 64) x y
sevenths_counted p rt re st se i j seventh len is o q e =
    let n : 7 * seventh + len % 7 ≡ len = omega arith in
    counted_sum o q e (omega arith) (λ g _.
    ap (λ (k : ℕ). run_sum p rt re st se i j 1 k g) (sym n)
    ∙ run_split p rt re st se i j 1 (7 * seventh) (len % 7) g
    ∙ ap₂ (λ (u v : ℕ). u + v) (sym (lines_flat p rt re st se i j seventh 7 g)) (ap₂ (λ (u v : ℕ). run_sum p rt re st se u v 1 (len % 7) g) (omega arith) (omega arith)))

-- ---- moved rows by a rectangle, and a column at its edge

module _ (rt re st se : List ℕ) (n rows i j m q : ℕ) where
  pub moved_flat : m + q ≡ 0 → n ≤ 128 → rows ≤ 8192 → {c d : ℕ} → Counted (run_sum (spanned 0) rt re st se i j 1 (rows * n)) (rows * n * 64) c d
      → Counted (moved_rows rt re st se n rows i j m q 0) 8589934592 c d
  moved_flat o l k a = counted_as a (omega (arith, area rows n k (omega arith))) (λ g is. sym (rows_flat rt re st se n rows i j m q 0 g is refl o))

  pub moved_whole : min m q ≡ 0 → m ≤ n → q < n → {c d : ℕ} → Counted (lines_sum (spanned 0) rt re st se (i + m) (j + q) n 1 rows (n - m - q)) 4294967296 c d
      → Counted (moved_rows rt re st se n rows i j m q 0) 8589934592 c d
  moved_whole o l k a = counted_as a (omega arith) (λ g is. sym (rows_whole rt re st se n rows i j m q 0 g is refl o (omega arith)))

  module _ (s : ℕ) (high : rows ≤ 8192) {c d a b x y : ℕ} (e : (x ≡ c + a) × (y ≡ d + b)) where
    pub moved_right : 0 < m → min m q ≡ 0 → m ≤ n → 0 < s → Counted (lines_sum (spanned s) rt re st se (i + m) (j + q) n 1 rows (n - m)) 4294967296 c d
        → Counted (run_sum (edged 0 (64 - s)) rt re st se (i + (m - 1)) j n rows) (rows * 64) a b → Counted (moved_rows rt re st se n rows i j m q s) 8589934592 x y
    moved_right z o l k f g = counted_sum f g e (omega arith) (λ h is. rows_right rt re st se n rows i j m q s h is (m - 1) (omega arith) (omega arith) l k)

    pub moved_left : m ≤ 0 → q < n → ((v : ℕ) → get_or st v 0 < 2 ^ 64) → ((v : ℕ) → get_or se v 0 < 2 ^ 64)
        → Counted (lines_sum (spanned s) rt re st se (i + m) (j + q) n 1 rows (n - 1 - q)) 4294967296 c d
        → Counted (run_sum (edged s 0) rt re st se (i + (n - 1 - q)) (j + (n - 1)) n rows) (rows * 64) a b → Counted (moved_rows rt re st se n rows i j m q s) 8589934592 x y
    moved_left z l ft fe f g = counted_sum f g e (omega arith) (λ h is. rows_left rt re st se n rows i j m q s h is (n - 1) (n - 1 - q) (omega arith) (omega arith) (omega arith) ft fe)

-- ---- a shift along a row, in words to the right or to the left, and in columns to the left

pub record Split (n right left m q s : ℕ) : Type 0 where
  pub alone_is : min m q ≡ 0
  pub right_in : m ≤ n
  pub left_in : q < n
  pub bit_in : s < 64
  pub lag : right + (q * 64 + s) ≡ left + m * 64

pub split : (w n right left : ℕ) → n ≡ words_per_row w → min right left ≡ 0 → right + left < w
    → let m = (right + 63) / 64 in
    let rest = m * 64 - right + left in
    Split n right left m (rest / 64) (rest % 64)
unfolding words_per_row
split w n right left e o l = record { alone_is = omega arith; right_in = omega arith; left_in = omega arith; bit_in = omega arith; lag = omega arith }

-- so many rows from row a on lie inside
pub rows_fit : (n h a rows size : ℕ) → size ≡ h * n → a + rows ≤ h → a * n + rows * n ≤ size
rows_fit n h a rows size e l = omega (arith, add-mul a rows n, mul-le-mul_right n l)

-- four bitmaps of one size
pub alike : {rt re st se : List ℕ} {w h : ℕ} → (IsBitmap rt w h × IsBitmap re w h × IsBitmap st w h × IsBitmap se w h) → w ≤ 8192 → h ≤ 8192 → Alike rt re st se
alike {rt} {re} {st} {se} {w} {h} m p q = record {
  rt_long = m.0.long ∙ sym m.1.long;
  st_long = m.2.long ∙ sym m.1.long;
  se_long = m.3.long ∙ sym m.1.long;
  small = omega (arith, m.1.long, bitmap_most w h p q);
}
