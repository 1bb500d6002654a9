-- What is counted of four bits, of four words bit by bit, and of runs of words: both counts are instances of one law, whatever is
-- counted of four bits, as long as it is 0 where an exclusion bit is clear.
use Rattle.std.specs.Prelude.{◌≡◌, refl, List, ℕ, ◌+◌, ◌*◌, ◌≤◌, ◌<◌, min, length}
use Rattle.std.proofs.Math.Path.{sym, ap, ap₂}
use Rattle.std.proofs.Common.{subst, ◌∙◌}
use Rattle.std.proofs.Math.Nat.{add-mul}
use native.Mathlib.Omega.{arith}
use Rattle.std.specs.Int.Bits.{bit_and, bit_xor, differ}
use Rattle.std.proofs.Math.ListN.{get_or}
use Rattle.definitions.specs.Sum.{sum}
use Rattle.definitions.specs.Bitmap.{bit_of}
use Rattle.laws.specs.bitmaps.Bits.{bit_lt, bit_zero, bit_and_lem, bit_xor_lem}
use Rattle.laws.specs.general.Grids.{sum_swap}
use Rattle.laws.specs.bitmaps.Moved.{funnel, part}
use Rattle.laws.specs.general.Sums.{sum_ext, sum_zero, sum_none, sum_more, sum_split, sum_rows, sum_le_one}

-- of the threshold and the exclusion bit of the reference, and those of the target
abbrev pub Joint : Type 0
Joint = ℕ → ℕ → ℕ → ℕ → ℕ

pub record IsJoint (g : Joint) : Type 0 where
  pub no_reference_lem : (t s x : ℕ) → g t 0 s x ≡ 0
  pub no_target : (t e s : ℕ) → g t e s 0 ≡ 0

-- compared: both exclusion bits are set
abbrev pub both : Joint
both t e s x = min e x

-- disagreeing: and the threshold bits differ
abbrev pub odd : Joint
odd t e s x = min (differ t s) (min e x)

pub both_joint : IsJoint both
both_joint = record { no_reference_lem = λ t s x. omega arith; no_target = λ t e s. omega arith }

pub odd_joint : IsJoint odd
odd_joint = record { no_reference_lem = λ t s x. none (differ t s) 0 x (omega arith); no_target = λ t e s. none (differ t s) e 0 (omega arith) }
  where
    none : (d e x : ℕ) → min e x ≡ 0 → min d (min e x) ≡ 0
    none d e x h = omega arith

-- ---- of four words

unfoldable pub of_words : Joint → ℕ → ℕ → ℕ → ℕ → ℕ
of_words g t e s x = sum 64 (λ (i : ℕ). g (bit_of t i) (bit_of e i) (bit_of s i) (bit_of x i))

-- `e & x`, and `(t ^ s) & (e & x)`
pub words_both : (t e s x : ℕ) → sum 64 (bit_of (bit_and e x)) ≡ of_words both t e s x
unfolding of_words
words_both t e s x = sum_ext 64 (bit_of (bit_and e x)) (λ (i : ℕ). both (bit_of t i) (bit_of e i) (bit_of s i) (bit_of x i)) (λ i _. bit_and_lem e x i)

pub words_odd : (t e s x : ℕ) → sum 64 (bit_of (bit_and (bit_xor t s) (bit_and e x))) ≡ of_words odd t e s x
unfolding of_words
words_odd t e s x =
    sum_ext 64 (bit_of (bit_and (bit_xor t s) (bit_and e x))) (λ (i : ℕ). odd (bit_of t i) (bit_of e i) (bit_of s i) (bit_of x i))
    (λ i _. bit_and_lem (bit_xor t s) (bit_and e x) i ∙ ap₂ min (bit_xor_lem t s i) (bit_and_lem e x i))

-- nothing of a target word with no bit
pub words_none : {g : Joint} → IsJoint g → (t e s x : ℕ) → x ≡ 0 → of_words g t e s x ≡ 0
unfolding of_words
words_none {g} j t e s x z =
    sum_zero 64 (λ (i : ℕ). g (bit_of t i) (bit_of e i) (bit_of s i) (bit_of x i))
    (λ i _. ap (g (bit_of t i) (bit_of e i) (bit_of s i)) (ap (λ (v : ℕ). bit_of v i) z ∙ bit_zero i) ∙ j.no_target (bit_of t i) (bit_of e i) (bit_of s i))

-- ---- of words of four bitmaps, by what the target shows of its words from j on

-- words j and j + 1 funnelled together
abbrev pub spanned : ℕ → List ℕ → ℕ → ℕ
spanned bit words j = funnel (get_or words j 0) (get_or words (j + 1) 0) bit

-- a part of word j
abbrev pub edged : ℕ → ℕ → List ℕ → ℕ → ℕ
edged down up words j = part (get_or words j 0) down up

-- of word i of the reference and what the target shows from word j on
unfoldable pub pair_at : (List ℕ → ℕ → ℕ) → (rt re st se : List ℕ) → (i j : ℕ) → Joint → ℕ
pair_at p rt re st se i j g = of_words g (get_or rt i 0) (get_or re i 0) (p st j) (p se j)

-- len words, step apart
unfoldable pub run_sum : (List ℕ → ℕ → ℕ) → (rt re st se : List ℕ) → (i j step len : ℕ) → Joint → ℕ
run_sum p rt re st se i j step len g = sum len (λ (k : ℕ). pair_at p rt re st se (i + k * step) (j + k * step) g)

-- some lines of such words, each `apart` words after the one before it
unfoldable pub lines_sum : (List ℕ → ℕ → ℕ) → (rt re st se : List ℕ) → (i j apart step lines len : ℕ) → Joint → ℕ
lines_sum p rt re st se i j apart step lines len g =
    sum lines (λ (r : ℕ). run_sum p rt re st se (i + r * apart) (j + r * apart) step len g)

-- where such words may be read: four bitmaps of one length, which is small
pub record Alike (rt re st se : List ℕ) : Type 0 where
  pub rt_long : length rt ≡ length re
  pub st_long : length st ≡ length re
  pub se_long : length se ≡ length re
  pub small : length re ≤ 1048576

-- the words of a run, and of some lines, lie inside: of the target so many more after each
pub record Reaches (size more i j step len : ℕ) : Type 0 where
  pub each : (k : ℕ) → k < len → (i + k * step < size) × (j + k * step + more < size)

pub record LinesReach (size more i j apart step lines len : ℕ) : Type 0 where
  pub line : (r : ℕ) → r < lines → Reaches size more (i + r * apart) (j + r * apart) step len

-- both counts of what F gives for a joint, at most so many
pub record Counted (F : Joint → ℕ) (most compared disagreeing : ℕ) : Type 0 where
  pub compared_is : compared ≡ F both
  pub disagreeing_is : disagreeing ≡ F odd
  pub compared_few : compared ≤ most
  pub disagreeing_few : disagreeing ≤ most

-- the same counts of what G gives, which is as much
pub counted_as : {F G : Joint → ℕ} {most more c d : ℕ} → Counted F most c d → most ≤ more → ((g : Joint) → IsJoint g → F g ≡ G g) → Counted G more c d
counted_as {F} {G} {most} {more} {c} {d} q l e = record {
  compared_is = q.compared_is ∙ e both both_joint;
  disagreeing_is = q.disagreeing_is ∙ e odd odd_joint;
  compared_few = omega (arith, q.compared_few);
  disagreeing_few = omega (arith, q.disagreeing_few);
}

-- of equal numbers
pub counted_is : {F : Joint → ℕ} {most more c d x y : ℕ} → Counted F most c d → most ≤ more → x ≡ c → y ≡ d → Counted F more x y
counted_is q l ex ey = record {
  compared_is = ex ∙ q.compared_is;
  disagreeing_is = ey ∙ q.disagreeing_is;
  compared_few = omega (arith, q.compared_few);
  disagreeing_few = omega (arith, q.disagreeing_few);
}

-- a word has at most 64 bits set
ones_few : (w : ℕ) → sum 64 (bit_of w) ≤ 64
ones_few w = sum_le_one 64 (bit_of w) (λ i _. omega (arith, bit_lt w i))

-- with a larger bound, and at an equal number
pub counted_most : {F : Joint → ℕ} {most more c d : ℕ} → Counted F most c d → most ≤ more → Counted F more c d
counted_most q l = counted_as q l (λ g _. refl)

pub counted_at : (F : ℕ → Joint → ℕ) {a b most c d : ℕ} → Counted (F a) most c d → a ≡ b → Counted (F b) most c d
counted_at F {a} {b} {most} {c} {d} q e = subst (λ (k : ℕ). Counted (F k) most c d) e q

-- ---- as loops count: none, and one more

-- the pixels of word i of the reference that are compared with what the target shows from word j on, and those of them that disagree
pub record Showing (p : List ℕ → ℕ → ℕ) (rt re st se : List ℕ) (i j b o : ℕ) : Type 0 where
  pub both_is : b ≡ bit_and (get_or re i 0) (p se j)
  pub odd_is : o ≡ bit_and (bit_xor (get_or rt i 0) (p st j)) b

module _ (p : List ℕ → ℕ → ℕ) (rt re st se : List ℕ) (i j : ℕ) where
  pub shows : (s x : ℕ) → s ≡ p st j → x ≡ p se j → let b = bit_and (get_or re i 0) x in Showing p rt re st se i j b (bit_and (bit_xor (get_or rt i 0) s) b)
  shows s x es ex = record { both_is = ap (bit_and (get_or re i 0)) ex; odd_is = ap (λ (v : ℕ). bit_and (bit_xor (get_or rt i 0) v) (bit_and (get_or re i 0) x)) es }

  pub shown_counted : (b o : ℕ) → Showing p rt re st se i j b o → Counted (pair_at p rt re st se i j) 64 (sum 64 (bit_of b)) (sum 64 (bit_of o))
  unfolding pair_at
  shown_counted b o q =
      let t = get_or rt i 0 in
      let e = get_or re i 0 in
      record {
        compared_is = ap (λ (v : ℕ). sum 64 (bit_of v)) q.both_is ∙ words_both t e (p st j) (p se j);
        disagreeing_is = ap (λ (v : ℕ). sum 64 (bit_of v)) (q.odd_is ∙ ap (bit_and (bit_xor t (p st j))) q.both_is) ∙ words_odd t e (p st j) (p se j);
        compared_few = ones_few b;
        disagreeing_few = ones_few o;
      }

-- the place k steps after a places are passed
on : (u a step k : ℕ) → u + (a + k) * step ≡ u + a * step + k * step
on u a step k = omega (arith, add-mul a k step)

module _ (p : List ℕ → ℕ → ℕ) (rt re st se : List ℕ) (i j step : ℕ) where
  pub run_none : Counted (run_sum p rt re st se i j step 0) 0 0 0
  unfolding run_sum
  run_none = record {
    compared_is = sym (sum_none (λ (k : ℕ). pair_at p rt re st se (i + k * step) (j + k * step) both));
    disagreeing_is = sym (sum_none (λ (k : ℕ). pair_at p rt re st se (i + k * step) (j + k * step) odd));
    compared_few = omega arith;
    disagreeing_few = omega arith;
  }

  -- the word at i', against the target from j' on
  pub run_more : (k c d : ℕ) → Counted (run_sum p rt re st se i j step k) (k * 64) c d → (i' j' : ℕ) → i' ≡ i + k * step → j' ≡ j + k * step
      → (a b : ℕ) → Counted (pair_at p rt re st se i' j') 64 a b → Counted (run_sum p rt re st se i j step (k + 1)) ((k + 1) * 64) (c + a) (d + b)
  unfolding run_sum
  run_more k c d q i' j' ei ej a b o =
      let at : (g : Joint) → pair_at p rt re st se i' j' g ≡ pair_at p rt re st se (i + k * step) (j + k * step) g =
      λ g. ap₂ (λ (u v : ℕ). pair_at p rt re st se u v g) ei ej in
      record {
        compared_is = ap₂ (λ (u v : ℕ). u + v) q.compared_is (o.compared_is ∙ at both)
            ∙ sym (sum_more k (λ (m : ℕ). pair_at p rt re st se (i + m * step) (j + m * step) both));
        disagreeing_is = ap₂ (λ (u v : ℕ). u + v) q.disagreeing_is (o.disagreeing_is ∙ at odd)
            ∙ sym (sum_more k (λ (m : ℕ). pair_at p rt re st se (i + m * step) (j + m * step) odd));
        compared_few = omega (arith, q.compared_few, o.compared_few);
        disagreeing_few = omega (arith, q.disagreeing_few, o.disagreeing_few);
      }

  -- some words, and those after them
  pub run_split : (a b : ℕ) (g : Joint) → run_sum p rt re st se i j step (a + b) g ≡ run_sum p rt re st se i j step a g + run_sum p rt re st se (i + a * step) (j + a * step) step b g
  unfolding run_sum
  run_split a b g =
      sum_split a b (λ (k : ℕ). pair_at p rt re st se (i + k * step) (j + k * step) g)
      ∙ ap (λ (t : ℕ). sum a (λ (k : ℕ). pair_at p rt re st se (i + k * step) (j + k * step) g) + t)
      (sum_ext b (λ (k : ℕ). pair_at p rt re st se (i + (a + k) * step) (j + (a + k) * step) g) (λ (k : ℕ). pair_at p rt re st se (i + a * step + k * step) (j + a * step + k * step) g)
      (λ k _. ap₂ (λ (u v : ℕ). pair_at p rt re st se u v g) (on i a step k) (on j a step k)))

module _ (p : List ℕ → ℕ → ℕ) (rt re st se : List ℕ) (i j apart step len : ℕ) where
  pub lines_none : Counted (lines_sum p rt re st se i j apart step 0 len) 0 0 0
  unfolding lines_sum
  lines_none = record {
    compared_is = sym (sum_none (λ (r : ℕ). run_sum p rt re st se (i + r * apart) (j + r * apart) step len both));
    disagreeing_is = sym (sum_none (λ (r : ℕ). run_sum p rt re st se (i + r * apart) (j + r * apart) step len odd));
    compared_few = omega arith;
    disagreeing_few = omega arith;
  }

  -- the line from i' and j' on
  pub lines_more : (most r c d : ℕ) → Counted (lines_sum p rt re st se i j apart step r len) (r * most) c d
      → (i' j' : ℕ) → i' ≡ i + r * apart → j' ≡ j + r * apart → (a b : ℕ) → Counted (run_sum p rt re st se i' j' step len) most a b
      → Counted (lines_sum p rt re st se i j apart step (r + 1) len) ((r + 1) * most) (c + a) (d + b)
  unfolding lines_sum
  lines_more most r c d q i' j' ei ej a b o =
      let at : (g : Joint) → run_sum p rt re st se i' j' step len g ≡ run_sum p rt re st se (i + r * apart) (j + r * apart) step len g =
      λ g. ap₂ (λ (u v : ℕ). run_sum p rt re st se u v step len g) ei ej in
      record {
        compared_is = ap₂ (λ (u v : ℕ). u + v) q.compared_is (o.compared_is ∙ at both)
            ∙ sym (sum_more r (λ (m : ℕ). run_sum p rt re st se (i + m * apart) (j + m * apart) step len both));
        disagreeing_is = ap₂ (λ (u v : ℕ). u + v) q.disagreeing_is (o.disagreeing_is ∙ at odd)
            ∙ sym (sum_more r (λ (m : ℕ). run_sum p rt re st se (i + m * apart) (j + m * apart) step len odd));
        compared_few = omega (arith, q.compared_few, o.compared_few, add-mul r 1 most);
        disagreeing_few = omega (arith, q.disagreeing_few, o.disagreeing_few, add-mul r 1 most);
      }

  -- some lines, and those after them
  pub lines_split : (a b : ℕ) (g : Joint)
      → lines_sum p rt re st se i j apart step (a + b) len g ≡ lines_sum p rt re st se i j apart step a len g + lines_sum p rt re st se (i + a * apart) (j + a * apart) apart step b len g
  unfolding lines_sum
  lines_split a b g =
      sum_split a b (λ (r : ℕ). run_sum p rt re st se (i + r * apart) (j + r * apart) step len g)
      ∙ ap (λ (t : ℕ). sum a (λ (r : ℕ). run_sum p rt re st se (i + r * apart) (j + r * apart) step len g) + t)
      (sum_ext b (λ (r : ℕ). run_sum p rt re st se (i + (a + r) * apart) (j + (a + r) * apart) step len g)
      (λ (r : ℕ). run_sum p rt re st se (i + a * apart + r * apart) (j + a * apart + r * apart) step len g)
      (λ r _. ap₂ (λ (u v : ℕ). run_sum p rt re st se u v step len g) (on i a apart r) (on j a apart r)))

  -- by columns or by rows
  pub lines_swap : (lines : ℕ) (g : Joint) → lines_sum p rt re st se i j apart step lines len g ≡ lines_sum p rt re st se i j step apart len lines g
  unfolding lines_sum run_sum
  lines_swap lines g =
      sum_swap lines len (λ (k r : ℕ). pair_at p rt re st se (i + r * apart + k * step) (j + r * apart + k * step) g)
      ∙ sum_ext len (λ (k : ℕ). sum lines (λ (r : ℕ). pair_at p rt re st se (i + r * apart + k * step) (j + r * apart + k * step) g))
      (λ (k : ℕ). run_sum p rt re st se (i + k * step) (j + k * step) apart lines g)
      (λ k _. sum_ext lines (λ (r : ℕ). pair_at p rt re st se (i + r * apart + k * step) (j + r * apart + k * step) g)
      (λ (r : ℕ). pair_at p rt re st se (i + k * step + r * apart) (j + k * step + r * apart) g)
      (λ r _. ap₂ (λ (u v : ℕ). pair_at p rt re st se u v g) (turn i r k) (turn j r k)))
    where
      turn : (u r k : ℕ) → u + r * apart + k * step ≡ u + k * step + r * apart
      turn u r k = omega arith

-- lines that follow each other are one run
pub lines_flat : (p : List ℕ → ℕ → ℕ) (rt re st se : List ℕ) (i j n lines : ℕ) (g : Joint) → lines_sum p rt re st se i j n 1 lines n g ≡ run_sum p rt re st se i j 1 (lines * n) g
unfolding lines_sum run_sum
lines_flat p rt re st se i j n lines g =
    sum_ext lines (λ (r : ℕ). run_sum p rt re st se (i + r * n) (j + r * n) 1 n g) (λ (r : ℕ). sum n (λ (k : ℕ). pair_at p rt re st se (i + (r * n + k) * 1) (j + (r * n + k) * 1) g))
    (λ r _. sum_ext n (λ (k : ℕ). pair_at p rt re st se (i + r * n + k * 1) (j + r * n + k * 1) g) (λ (k : ℕ). pair_at p rt re st se (i + (r * n + k) * 1) (j + (r * n + k) * 1) g)
    (λ k _. ap₂ (λ (u v : ℕ). pair_at p rt re st se u v g) (next i r k) (next j r k)))
    ∙ sym (sum_rows lines n (λ (k : ℕ). pair_at p rt re st se (i + k * 1) (j + k * 1) g))
  where
    next : (u r k : ℕ) → u + r * n + k * 1 ≡ u + (r * n + k) * 1
    next u r k = omega arith

-- two counts together
pub counted_sum : {F G H : Joint → ℕ} {most more all c d a b x y : ℕ} → Counted F most c d → Counted G more a b → (x ≡ c + a) × (y ≡ d + b) → most + more ≤ all
    → ((g : Joint) → IsJoint g → H g ≡ F g + G g) → Counted H all x y
counted_sum q o e l h = record {
  compared_is = e.0 ∙ ap₂ (λ (u v : ℕ). u + v) q.compared_is o.compared_is ∙ sym (h both both_joint);
  disagreeing_is = e.1 ∙ ap₂ (λ (u v : ℕ). u + v) q.disagreeing_is o.disagreeing_is ∙ sym (h odd odd_joint);
  compared_few = omega (arith, q.compared_few, o.compared_few);
  disagreeing_few = omega (arith, q.disagreeing_few, o.disagreeing_few);
}
