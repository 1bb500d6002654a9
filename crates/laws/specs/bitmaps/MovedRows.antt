-- Rows of words against moved rows: which words show something, and so which runs of words count all of it.
use Rattle.std.specs.Prelude.{◌≡◌, List, ℕ, ◌+◌, ◌-◌, ◌*◌, ◌^◌, ◌≤◌, ◌<◌, min, get_or, take, drop}
use Rattle.std.proofs.Math.Path.{refl, ap, ap₂}
use Rattle.std.proofs.Common.{sym, ◌∙◌, ⊎_elim, length-take, get_or-take, get_or-drop}
use native.Mathlib.Omega.{arith}
use Rattle.std.proofs.Math.ListN.{get_or-eq_default}
use Rattle.definitions.specs.Sum.{sum}
use Rattle.laws.specs.general.Cases.{lt_or_le, eq_or_ne}
use Rattle.laws.specs.general.Grids.{sum_add, sum_strip, sum_before, sum_after}
use Rattle.laws.specs.bitmaps.Joints.{Joint, IsJoint, of_words, words_none, spanned, edged, pair_at, run_sum, lines_sum, lines_flat}
use Rattle.laws.specs.bitmaps.Moved.{funnel, funnel_none, funnel_first, funnel_last, funnel_zero, line_word, line_before, line_in, moved_word}
use Rattle.laws.specs.general.Sums.{sum_ext}

-- word k of the n words from base on: 0 past them
abbrev pub row_from : List ℕ → ℕ → ℕ → ℕ → ℕ
row_from words n base k = get_or (take n (drop base words)) k 0

pub row_from_in : (words : List ℕ) (n base k : ℕ) → k < n → row_from words n base k ≡ get_or words (base + k) 0
row_from_in words n base k l = get_or-take n (drop base words) k 0 l ∙ get_or-drop base words k 0

pub row_from_past : (words : List ℕ) (n base k : ℕ) → n ≤ k → row_from words n base k ≡ 0
row_from_past words n base k l =
    get_or-eq_default {A = ℕ} (take n (drop base words)) 0 {n = k} (omega (arith, length-take n (drop base words)))

pub row_from_fits : (words : List ℕ) → ((j : ℕ) → get_or words j 0 < 2 ^ 64) → (n base k : ℕ) → row_from words n base k < 2 ^ 64
row_from_fits words fits n base k = ⊎_elim
    (λ (l : k < n). omega (arith, row_from_in words n base k l, fits (base + k)))
    (λ (l : n ≤ k). omega (arith, row_from_past words n base k l))
    (lt_or_le k n)

-- word k of the moved row that starts at base
abbrev pub moved_from : ℕ → ℕ → ℕ → ℕ → List ℕ → ℕ → ℕ → ℕ
moved_from n m q s words base k = moved_word m q s (row_from words n base) k

-- one row of the reference, from i on, against one of the target, from j on, moved
unfoldable pub moved_row : (rt re st se : List ℕ) → (n i j m q s : ℕ) → Joint → ℕ → ℕ
moved_row rt re st se n i j m q s g k = of_words g (get_or rt (i + k) 0) (get_or re (i + k) 0) (moved_from n m q s st j k) (moved_from n m q s se j k)

-- and some rows
unfoldable pub moved_rows : (rt re st se : List ℕ) → (n rows i j m q s : ℕ) → Joint → ℕ
moved_rows rt re st se n rows i j m q s g = sum rows (λ (r : ℕ). sum n (moved_row rt re st se n (i + r * n) (j + r * n) m q s g))

-- ---- what a moved row shows

module _ (n m q s : ℕ) (words : List ℕ) (base k : ℕ) where
  -- the two words that it takes
  abbrev lo : ℕ
  lo = line_word m (row_from words n base) (k + q)

  abbrev hi : ℕ
  hi = line_word m (row_from words n base) (k + q + 1)

  none : lo ≡ 0 → hi ≡ 0 → funnel lo hi s ≡ 0
  none el eh = ap₂ (λ (u v : ℕ). funnel u v s) el eh ∙ funnel_zero s

  whole : s ≡ 0 → funnel lo hi s ≡ lo
  whole e = ap (funnel lo hi) e ∙ funnel_none lo hi

  -- a word of the row
  at : (v c : ℕ) → m + c ≡ v → c < n → line_word m (row_from words n base) v ≡ get_or words (base + c) 0
  at v c e l = line_in m (row_from words n base) v c e ∙ row_from_in words n base c l

  past : (v : ℕ) → m + n ≤ v → line_word m (row_from words n base) v ≡ 0
  past v l = line_in m (row_from words n base) v (v - m) (omega arith) ∙ row_from_past words n base (v - m) (omega arith)

  -- before the row nothing
  pub shows_before : k + q + min s 1 < m → moved_from n m q s words base k ≡ 0
  shows_before l = ⊎_elim
      (λ (e : s ≡ 0). whole e ∙ line_before m (row_from words n base) (k + q) (omega arith))
      (λ (ne : s ≡ 0 → ⊥). none (line_before m (row_from words n base) (k + q) (omega arith)) (line_before m (row_from words n base) (k + q + 1) (omega arith)))
      (eq_or_ne s 0)

  -- nor past it
  pub shows_past : m + n ≤ k + q → moved_from n m q s words base k ≡ 0
  shows_past l = none (past (k + q) l) (past (k + q + 1) (omega arith))

  -- inside it two neighbours, or one word
  pub shows_inside : (c : ℕ) → k ≡ m + c → q + c + min s 1 < n → moved_from n m q s words base k ≡ spanned s words (base + (q + c))
  shows_inside c e l = ⊎_elim
      (λ (z : s ≡ 0).
      whole z ∙ at (k + q) (q + c) (omega arith) (omega arith)
      ∙ sym (ap (funnel (get_or words (base + (q + c)) 0) (get_or words (base + (q + c) + 1) 0)) z ∙ funnel_none (get_or words (base + (q + c)) 0) (get_or words (base + (q + c) + 1) 0)))
      (λ (ne : s ≡ 0 → ⊥).
      let p : base + (q + c + 1) ≡ base + (q + c) + 1 = omega arith in
      ap₂ (λ (u v : ℕ). funnel u v s) (at (k + q) (q + c) (omega arith) (omega arith))
      (at (k + q + 1) (q + c + 1) (omega arith) (omega arith) ∙ ap (λ (v : ℕ). get_or words v 0) p))
      (eq_or_ne s 0)

  -- at its edges a part of one word
  pub shows_first : k + q + 1 ≡ m → 0 < n → moved_from n m q s words base k ≡ edged 0 (64 - s) words base
  shows_first e l =
      let p : base + 0 ≡ base = omega arith in
      ap₂ (λ (u v : ℕ). funnel u v s) (line_before m (row_from words n base) (k + q) (omega arith))
      (at (k + q + 1) 0 (omega arith) l ∙ ap (λ (v : ℕ). get_or words v 0) p)
      ∙ funnel_first (get_or words base 0) s

  pub shows_last : (c : ℕ) → k + q ≡ m + c → c + 1 ≡ n → get_or words (base + c) 0 < 2 ^ 64 → moved_from n m q s words base k ≡ edged s 0 words (base + c)
  shows_last c e l f =
      ap₂ (λ (u v : ℕ). funnel u v s) (at (k + q) c (omega arith) (omega arith)) (past (k + q + 1) (omega arith))
      ∙ funnel_last (get_or words (base + c) 0) s f

-- ---- so all of it is counted by runs of words

module _ (rt re st se : List ℕ) (n rows i j m q s : ℕ) (g : Joint) (is : IsJoint g) where
  -- row r of the reference against row r of the target
  abbrev in_row : ℕ → ℕ → ℕ
  in_row r = moved_row rt re st se n (i + r * n) (j + r * n) m q s g

  blank : (r k : ℕ) → moved_from n m q s se (j + r * n) k ≡ 0 → in_row r k ≡ 0
  unfolding moved_row
  blank r k z = words_none is (get_or rt (i + r * n + k) 0) (get_or re (i + r * n + k) 0) (moved_from n m q s st (j + r * n) k) (moved_from n m q s se (j + r * n) k) z

  blank_before : (r k : ℕ) → k + q + min s 1 < m → in_row r k ≡ 0
  blank_before r k l = blank r k (shows_before n m q s se (j + r * n) k l)

  blank_past : (r k : ℕ) → m + n ≤ k + q → in_row r k ≡ 0
  blank_past r k l = blank r k (shows_past n m q s se (j + r * n) k l)

  -- the words inside
  inner : (c r : ℕ) → ((k : ℕ) → k < c → q + k + min s 1 < n) → sum c (λ (k : ℕ). in_row r (m + k)) ≡ run_sum (spanned s) rt re st se (i + m + r * n) (j + q + r * n) 1 c g
  unfolding moved_row run_sum pair_at
  inner c r l = sum_ext c (λ (k : ℕ). in_row r (m + k)) (λ (k : ℕ). pair_at (spanned s) rt re st se (i + m + r * n + k * 1) (j + q + r * n + k * 1) g)
      (λ k h.
      let a : i + r * n + (m + k) ≡ i + m + r * n + k * 1 = omega arith in
      let b : j + r * n + (q + k) ≡ j + q + r * n + k * 1 = omega arith in
      ap₂ (of_words g (get_or rt (i + r * n + (m + k)) 0) (get_or re (i + r * n + (m + k)) 0))
      (shows_inside n m q s st (j + r * n) (m + k) k refl (l k h)) (shows_inside n m q s se (j + r * n) (m + k) k refl (l k h))
      ∙ ap₂ (λ (u v : ℕ). pair_at (spanned s) rt re st se u v g) a b)

  -- whole words
  pub rows_whole : s ≡ 0 → min m q ≡ 0 → m + q ≤ n → moved_rows rt re st se n rows i j m q s g ≡ lines_sum (spanned s) rt re st se (i + m) (j + q) n 1 rows (n - m - q) g
  unfolding moved_rows lines_sum
  rows_whole z o l =
      let c = n - m - q in
      sum_ext rows (λ (r : ℕ). sum n (in_row r)) (λ (r : ℕ). run_sum (spanned s) rt re st se (i + m + r * n) (j + q + r * n) 1 c g)
      (λ r _.
      sum_strip m c n (in_row r) (omega arith) (λ k h. blank_before r k (omega arith)) (λ k h p. blank_past r k (omega arith))
      ∙ inner c r (λ k h. omega arith))

  -- rows that do not move are one run
  pub rows_flat : s ≡ 0 → m + q ≡ 0 → moved_rows rt re st se n rows i j m q s g ≡ run_sum (spanned s) rt re st se i j 1 (rows * n) g
  rows_flat z o =
      let c : n - m - q ≡ n = omega arith in
      let a : i + m ≡ i = omega arith in
      let b : j + q ≡ j = omega arith in
      rows_whole z (omega arith) (omega arith)
      ∙ ap (λ (k : ℕ). lines_sum (spanned s) rt re st se (i + m) (j + q) n 1 rows k g) c
      ∙ ap₂ (λ (u v : ℕ). lines_sum (spanned s) rt re st se u v n 1 rows n g) a b
      ∙ lines_flat (spanned s) rt re st se i j n rows g

  -- to the right, and the word a before the first
  pub rows_right : (a : ℕ) → a + 1 ≡ m → q ≡ 0 → m ≤ n → 0 < s
      → moved_rows rt re st se n rows i j m q s g ≡ lines_sum (spanned s) rt re st se (i + m) (j + q) n 1 rows (n - m) g + run_sum (edged 0 (64 - s)) rt re st se (i + a) j n rows g
  unfolding moved_rows lines_sum run_sum pair_at moved_row
  rows_right a e z l p =
      let c = n - m in
      sum_ext rows (λ (r : ℕ). sum n (in_row r))
      (λ (r : ℕ). run_sum (spanned s) rt re st se (i + m + r * n) (j + q + r * n) 1 c g + pair_at (edged 0 (64 - s)) rt re st se (i + a + r * n) (j + r * n) g)
      (λ r _.
      let x : i + r * n + a ≡ i + a + r * n = omega arith in
      sum_before a m c n (in_row r) e (omega arith) (λ k h. blank_before r k (omega arith)) (λ k h t. blank_past r k (omega arith))
      ∙ ap₂ (λ (u v : ℕ). u + v) (inner c r (λ k h. omega arith))
      (ap₂ (of_words g (get_or rt (i + r * n + a) 0) (get_or re (i + r * n + a) 0))
      (shows_first n m q s st (j + r * n) a (omega arith) (omega arith)) (shows_first n m q s se (j + r * n) a (omega arith) (omega arith))
      ∙ ap (λ (u : ℕ). pair_at (edged 0 (64 - s)) rt re st se u (j + r * n) g) x))
      ∙ sum_add rows (λ (r : ℕ). run_sum (spanned s) rt re st se (i + m + r * n) (j + q + r * n) 1 c g) (λ (r : ℕ). pair_at (edged 0 (64 - s)) rt re st se (i + a + r * n) (j + r * n) g)

  -- to the left, and the word c after the last, which shows the row's last word, b
  pub rows_left : (b c : ℕ) → b + 1 ≡ n → m ≡ 0 → c + q ≡ b → ((v : ℕ) → get_or st v 0 < 2 ^ 64) → ((v : ℕ) → get_or se v 0 < 2 ^ 64)
      → moved_rows rt re st se n rows i j m q s g ≡ lines_sum (spanned s) rt re st se (i + m) (j + q) n 1 rows c g + run_sum (edged s 0) rt re st se (i + c) (j + b) n rows g
  unfolding moved_rows lines_sum run_sum pair_at moved_row
  rows_left b c e z l ft fe =
      sum_ext rows (λ (r : ℕ). sum n (in_row r)) (λ (r : ℕ). run_sum (spanned s) rt re st se (i + m + r * n) (j + q + r * n) 1 c g + pair_at (edged s 0) rt re st se (i + c + r * n) (j + b + r * n) g)
      (λ r _.
      let x : i + r * n + c ≡ i + c + r * n = omega arith in
      let y : j + r * n + b ≡ j + b + r * n = omega arith in
      sum_after m c n (in_row r) z (omega arith) (λ k h t. blank_past r k (omega arith))
      ∙ ap₂ (λ (u v : ℕ). u + v) (inner c r (λ k h. omega arith))
      (ap₂ (of_words g (get_or rt (i + r * n + c) 0) (get_or re (i + r * n + c) 0))
      (shows_last n m q s st (j + r * n) c b (omega arith) e (ft (j + r * n + b))) (shows_last n m q s se (j + r * n) c b (omega arith) e (fe (j + r * n + b)))
      ∙ ap₂ (λ (u v : ℕ). pair_at (edged s 0) rt re st se u v g) x y))
      ∙ sum_add rows (λ (r : ℕ). run_sum (spanned s) rt re st se (i + m + r * n) (j + q + r * n) 1 c g) (λ (r : ℕ). pair_at (edged s 0) rt re st se (i + c + r * n) (j + b + r * n) g)
