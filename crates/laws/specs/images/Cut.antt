-- Bins and the least cut: the first bins add up to the samples below a value, and the cut is the least value that has the target or more below it.
use Rattle.std.specs.Prelude.{◌≡◌, refl, Bool, true, false, List, [], ◌∷◌, ℕ, zero, suc, ◌+◌, ◌≤◌, ◌<◌, ltb, eqb, length, get_or, drop}
use Rattle.std.proofs.Common.{sym, ap, ◌∙◌, ⊎_elim, zero-le, zero-add, mul-le-mul_left, add-one, arith, lt-ltb, le-ltb, ltb-true, ltb-false, eqb-true, drop_of_length-le, drop-cons}
use Rattle.std.proofs.lemmas.Bool.{eqb-false}
use Rattle.definitions.specs.Sum.{bit, sum, count_if}
use Rattle.definitions.specs.Threshold.{bin_of, bins, target, bins_added, cut}
use Rattle.laws.specs.general.Cases.{lt_or_le}
use Rattle.laws.specs.general.Sums.{sum_none, sum_more, sum_ext, sum_first}
use Rattle.laws.specs.general.Lists.{build_length, build_at}

-- all samples are bytes
abbrev pub Bytes : List ℕ → Type 0
Bytes s = (i : ℕ) → i < length s → get_or s i 0 < 256

-- how many samples lie below v
abbrev pub below : List ℕ → ℕ → ℕ
below s v = count_if (λ (a : ℕ). ltb a v) s

-- ---- the bins
-- there are 256 of them
pub bins_length : (s : List ℕ) → length (bins s) ≡ 256
unfolding bins
bins_length s = build_length 256 (bin_of s)

-- bin v counts the samples of value v
pub bin_at : (s : List ℕ) (v : ℕ) → v < 256 → get_or (bins s) v 0 ≡ bin_of s v
unfolding bins
bin_at s v h = build_at 256 (bin_of s) v 0 h

-- a value lies below v + 1 where it lies below v or is v, and never both
bit_more : (a v : ℕ) → bit (ltb a (suc v)) ≡ bit (ltb a v) + bit (eqb a v)
bit_more a v = on (ltb a v) (eqb a v) refl refl
  where
    on : (t u : Bool) → ltb a v ≡ t → eqb a v ≡ u → bit (ltb a (suc v)) ≡ bit t + bit u
    on true true e f = absurd (omega (arith, ltb-true a v e, eqb-true a v f))
    on true false e f = rw (lt-ltb a (suc v) (omega (arith, ltb-true a v e)))
    on false true e f = rw (lt-ltb a (suc v) (omega (arith, eqb-true a v f)))
    on false false e f = let ne = eqb-false a v f in rw (le-ltb a (suc v) (omega (arith, ltb-false a v e, ne)))

-- nothing lies below 0
below_none : (s : List ℕ) → below s 0 ≡ 0
unfolding count_if
below_none [] = refl
below_none (a ∷ s) = rw (le-ltb a 0 zero-le) (omega (arith, below_none s))

-- one value more has one bin more below it
below_more : (s : List ℕ) (v : ℕ) → below s (suc v) ≡ below s v + bin_of s v
unfolding count_if
below_more [] v = refl
below_more (a ∷ s) v = omega (arith, bit_more a v, below_more s v)

-- a bound of all samples has them all below it
below_all : (s : List ℕ) (v : ℕ) → ((i : ℕ) → i < length s → get_or s i 0 < v) → below s v ≡ length s
unfolding count_if
below_all [] v h = refl
below_all (a ∷ s) v h = rw (lt-ltb a v (h 0 (omega arith))) (omega (arith, below_all s v (λ i l. h (suc i) (omega arith))))

-- the counts of the values below v add up to the samples below v
sum_below : (s : List ℕ) (v : ℕ) → sum v (bin_of s) ≡ below s v
unfolding sum
sum_below s zero = sym (below_none s)
sum_below s (suc v) = ap (λ (n : ℕ). n + bin_of s v) (sum_below s v) ∙ sym (below_more s v)

-- the first v bins hold the samples below v
pub bins_below : (s : List ℕ) (v : ℕ) → v ≤ 256 → sum v (λ i. get_or (bins s) i 0) ≡ below s v
bins_below s v h = sum_ext v (λ i. get_or (bins s) i 0) (bin_of s) (λ i l. bin_at s i (omega arith)) ∙ sum_below s v

-- the bins add up to the sample count
pub bins_sum : (s : List ℕ) → Bytes s → sum 256 (λ i. get_or (bins s) i 0) ≡ length s
bins_sum s b = bins_below s 256 (omega arith) ∙ below_all s 256 b

-- ---- a walk over the bins
-- no bin is left
pub cut_end : (goal added : ℕ) → bins_added [] goal added ≡ 0
unfolding bins_added
cut_end goal added = refl

pub cut_done : (l : List ℕ) (goal added k : ℕ) → length l ≤ k → bins_added (drop k l) goal added ≡ 0
cut_done l goal added k h = ap (λ (r : List ℕ). bins_added r goal added) (drop_of_length-le l {i = k} h) ∙ cut_end goal added

-- the goal is reached
pub cut_stop : (l : List ℕ) (goal added : ℕ) → goal ≤ added → bins_added l goal added ≡ 0
unfolding bins_added
cut_stop [] goal added h = refl
cut_stop (b ∷ l) goal added h = rw (le-ltb added goal h, bins_added)

-- the goal is not reached, so a bin is added
pub cut_turn : (b : ℕ) (l : List ℕ) (goal added : ℕ) → added < goal → bins_added (b ∷ l) goal added ≡ suc (bins_added l goal (added + b))
unfolding bins_added
cut_turn b l goal added h = rw (lt-ltb added goal h, bins_added)

-- while the first k bins do not reach the goal, the walk goes on behind them
pub cut_past : (l : List ℕ) (goal k : ℕ) → k ≤ length l → sum k (λ i. get_or l i 0) < goal → k + bins_added (drop k l) goal (sum k (λ i. get_or l i 0)) ≡ bins_added l goal 0
cut_past l goal zero h m = rw (sum_none (λ i. get_or l i 0)) (zero-add _)
cut_past l goal (suc k) h m =
    let f : ℕ → ℕ = λ (i : ℕ). get_or l i 0 in
    let more : sum (suc k) f ≡ sum k f + get_or l k 0 = ap (λ (n : ℕ). sum n f) (sym (add-one k)) ∙ sum_more k f in
    let turn = ap (λ (r : List ℕ). bins_added r goal (sum k f)) (drop-cons l k 0 h) ∙ cut_turn (get_or l k 0) (drop (suc k) l) goal (sum k f) (omega arith) in
    omega (arith, turn, ap (bins_added (drop (suc k) l) goal) more, cut_past l goal k (omega arith) (omega arith))

-- the sum of the first k bins
abbrev first : List ℕ → ℕ → ℕ
first l k = sum k (λ i. get_or l i 0)

-- the first bin, and those after it
first_cons : (b : ℕ) (l : List ℕ) (k : ℕ) → first (b ∷ l) (suc k) ≡ b + first l k
first_cons b l k = sum_first k (λ i. get_or (b ∷ l) i 0)

-- how many bins a walk adds, for any bins
module _ (goal : ℕ) where
  -- no more than there are
  added_le : (l : List ℕ) (added : ℕ) → bins_added l goal added ≤ length l
  added_le [] added = omega (arith, cut_end goal added)
  added_le (b ∷ l) added = ⊎_elim
      (λ (h : added < goal). omega (arith, cut_turn b l goal added h, added_le l (added + b)))
      (λ (h : goal ≤ added). omega (arith, cut_stop (b ∷ l) goal added h))
      (lt_or_le added goal)

  -- enough, where all of them are
  added_enough : (l : List ℕ) (added : ℕ) → goal ≤ added + first l (length l) → goal ≤ added + first l (bins_added l goal added)
  added_enough [] added r = rw (cut_end goal added) r
  added_enough (b ∷ l) added r = ⊎_elim
      (λ (h : added < goal).
      rw (cut_turn b l goal added h)
      (omega (arith, first_cons b l (bins_added l goal (added + b)), added_enough l (added + b) (omega (arith, first_cons b l (length l))))))
      (λ (h : goal ≤ added). omega arith)
      (lt_or_le added goal)

  -- and any fewer are not
  added_fewer : (l : List ℕ) (added k : ℕ) → k < bins_added l goal added → added + first l k < goal
  added_fewer [] added k h = absurd (omega (arith, cut_end goal added))
  added_fewer (b ∷ l) added zero h = ⊎_elim
      (λ (m : added < goal). omega (arith, sum_none (λ i. get_or (b ∷ l) i 0)))
      (λ (m : goal ≤ added). absurd (omega (arith, cut_stop (b ∷ l) goal added m)))
      (lt_or_le added goal)
  added_fewer (b ∷ l) added (suc k) h = ⊎_elim
      (λ (m : added < goal). omega (arith, first_cons b l k, added_fewer l (added + b) k (omega (arith, cut_turn b l goal added m))))
      (λ (m : goal ≤ added). absurd (omega (arith, cut_stop (b ∷ l) goal added m)))
      (lt_or_le added goal)

-- ---- the cut
-- a share of the samples is no more than all of them
pub target_le : (s : List ℕ) (p : ℕ) → p ≤ 100 → target s p ≤ length s
unfolding target
target_le s p h = omega (arith, mul-le-mul_left (length s) h)

-- no cut lies past the last bin
pub cut_le : (s : List ℕ) (p : ℕ) → cut s p ≤ 256
unfolding cut
cut_le s p = omega (arith, added_le (target s p) (bins s) 0, bins_length s)

-- at the cut the target is reached
pub cut_reaches : (s : List ℕ) (p : ℕ) → Bytes s → p ≤ 100 → target s p ≤ below s (cut s p)
unfolding cut
cut_reaches s p b h =
    let all : first (bins s) (length (bins s)) ≡ length s = ap (first (bins s)) (bins_length s) ∙ bins_sum s b in
    omega (arith, added_enough (target s p) (bins s) 0 (omega (arith, target_le s p h)), bins_below s (cut s p) (cut_le s p))

-- below the cut it is not
pub cut_least : (s : List ℕ) (p k : ℕ) → k < cut s p → below s k < target s p
unfolding cut
cut_least s p k h = omega (arith, added_fewer (target s p) (bins s) 0 k h, bins_below s k (omega (arith, cut_le s p)))

-- c is the least value that has the target or more below it
pub record LeastCut (s : List ℕ) (p c : ℕ) : Type 0 where
  pub within : c ≤ 256
  pub reaches : target s p ≤ below s c
  pub least : (k : ℕ) → k < c → below s k < target s p

-- the cut is that value
pub cut_is_least : (s : List ℕ) (p : ℕ) → Bytes s → p ≤ 100 → LeastCut s p (cut s p)
cut_is_least s p b h = record { within = cut_le s p; reaches = cut_reaches s p b h; least = cut_least s p }

-- and there is no other
pub least_unique : {s : List ℕ} {p c d : ℕ} → LeastCut s p c → LeastCut s p d → c ≡ d
least_unique {s} {p} {c} {d} x y = ⊎_elim
    (λ (h : c < d). absurd (omega (arith, y.least c h)))
    (λ (h : d ≤ c). ⊎_elim (λ (m : d < c). absurd (omega (arith, x.least d m))) (λ (m : c ≤ d). omega arith) (lt_or_le d c))
    (lt_or_le c d)
