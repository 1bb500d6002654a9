-- Samples counted into four lanes of 256 bins: the room of a count, none, one more, some more, all.
use mathlib.Core.Path.{◌≡◌, refl, sym, ap, ◌∙◌}
use mathlib.Core.Bool.{Bool, true, false}
use mathlib.Core.List.{List, [], ◌++◌}
use Prim.Native.Nat.{ℕ, ◌+◌, ◌≤◌, ◌<◌}
use native.Mathlib.Nat.{zero-add}
use native.Mathlib.Omega.{arith}
use borrow.Author.Tests.{eq-eqb, ne_eqb, eqb-true, eqb-false}
use lib.Dec.{eqb}
use lib.ListN.{length, get_or, set, take, drop, replicate, length-set, length-take, length-drop, length-replicate, get_or-replicate}
use lib.Seq.{get_or-set_same, get_or-set_other, get_or-drop}
use Rattle.definitions.specs.Sum.{bit}
use Rattle.definitions.specs.Build.{build}
use Rattle.definitions.specs.Threshold.{bin_of, bins}
use Rattle.laws.specs.general.Lists.{build_same}
use Rattle.laws.specs.general.Counts.{count_none, count_append, count_more, count_le}
use Rattle.laws.specs.images.Cut.{Bytes}
use Rattle.mtb_align.specs.Tally.{lane_total, Tally, More, Room}

-- where the lanes start
pub data Lane : ℕ → Type 0 where
  lane_0 : Lane 0
  lane_1 : Lane 256
  lane_2 : Lane 512
  lane_3 : Lane 768

lane_within : {k : ℕ} → Lane k → k ≤ 768
lane_within lane_0 = omega arith
lane_within lane_1 = omega arith
lane_within lane_2 = omega arith
lane_within lane_3 = omega arith

-- two tests of equality: of what cannot be equal, and of two sums that share a part
apart : (a b : ℕ) → (a ≡ b → ⊥) → bit (eqb a b) ≡ 0
apart a b h = ap bit (ne_eqb a b h)

shifted : (k a b : ℕ) → bit (eqb (k + a) (k + b)) ≡ bit (eqb a b)
shifted k a b = ap bit (on (eqb a b) refl)
  where
    on : (t : Bool) → eqb a b ≡ t → eqb (k + a) (k + b) ≡ t
    on true e = eq-eqb (k + a) (k + b) (omega (arith, eqb-true a b e))
    on false e = ne_eqb (k + a) (k + b) (λ q. eqb-false a b e (omega arith))

-- one more at k is read at k alone
one_more : (l : List ℕ) (k m : ℕ) → k < length l → get_or (set l k (get_or l k 0 + 1)) m 0 ≡ get_or l m 0 + bit (eqb k m)
one_more l k m h = on (eqb k m) refl
  where
    on : (t : Bool) → eqb k m ≡ t → get_or (set l k (get_or l k 0 + 1)) m 0 ≡ get_or l m 0 + bit t
    on true e = rw (← eqb-true k m e) (get_or-set_same l k (get_or l k 0 + 1) 0 h)
    on false e = get_or-set_other l k m (get_or l k 0 + 1) 0 (λ q. eqb-false k m e (sym q)) ∙ omega arith

-- a bin holds no more than its value's total
bin_le : (l : List ℕ) {k : ℕ} (s : ℕ) → Lane k → get_or l (k + s) 0 ≤ lane_total l s
unfolding lane_total
bin_le l s lane_0 = rw (zero-add s) (omega arith)
bin_le l s lane_1 = omega arith
bin_le l s lane_2 = omega arith
bin_le l s lane_3 = omega arith

-- a sample is counted at its value alone, whatever its lane
hit : {k : ℕ} (s v : ℕ) → Lane k → s < 256 → v < 256
    → bit (eqb (k + s) v) + bit (eqb (k + s) (256 + v)) + bit (eqb (k + s) (512 + v)) + bit (eqb (k + s) (768 + v)) ≡ bit (eqb s v)
hit s v lane_0 p q = rw (zero-add s) (omega (arith, apart s (256 + v) (λ e. omega arith), apart s (512 + v) (λ e. omega arith), apart s (768 + v) (λ e. omega arith)))
hit s v lane_1 p q = omega (arith, shifted 256 s v, apart (256 + s) v (λ e. omega arith), apart (256 + s) (512 + v) (λ e. omega arith), apart (256 + s) (768 + v) (λ e. omega arith))
hit s v lane_2 p q = omega (arith, shifted 512 s v, apart (512 + s) v (λ e. omega arith), apart (512 + s) (256 + v) (λ e. omega arith), apart (512 + s) (768 + v) (λ e. omega arith))
hit s v lane_3 p q = omega (arith, shifted 768 s v, apart (768 + s) v (λ e. omega arith), apart (768 + s) (256 + v) (λ e. omega arith), apart (768 + s) (512 + v) (λ e. omega arith))

-- a sample more is one more in the total of its value
total_more : (l : List ℕ) {k : ℕ} (s v : ℕ) → Lane k → length l ≡ 1024 → s < 256 → v < 256
    → lane_total (set l (k + s) (get_or l (k + s) 0 + 1)) v ≡ lane_total l v + bit (eqb s v)
unfolding lane_total
total_more l {k} s v n e p q =
    let h : k + s < length l = omega (arith, lane_within n) in
    omega (arith, hit s v n p q, one_more l (k + s) v h, one_more l (k + s) (256 + v) h, one_more l (k + s) (512 + v) h, one_more l (k + s) (768 + v) h)

-- ---- the lanes as a loop fills them
-- a bin counts no more than there are samples
bin_of_le : (s : List ℕ) (v : ℕ) → bin_of s v ≤ length s
bin_of_le s v = count_le (λ (a : ℕ). eqb a v) s

-- one list after another
bin_append : (a b : List ℕ) (v : ℕ) → bin_of (a ++ b) v ≡ bin_of a v + bin_of b v
bin_append a b v = count_append (λ (x : ℕ). eqb x v) a b

-- empty lanes count no sample
pub tally_none : {counted : List ℕ} → counted ≡ [] → Tally (replicate 1024 0) counted
unfolding lane_total
tally_none e = record {
  long = length-replicate {A = ℕ} 1024 0;
  counts = λ v h.
      omega (
        arith,
        get_or-replicate {A = ℕ} 1024 v 0 0 (omega arith),
        get_or-replicate {A = ℕ} 1024 (256 + v) 0 0 (omega arith),
        get_or-replicate {A = ℕ} 1024 (512 + v) 0 0 (omega arith),
        get_or-replicate {A = ℕ} 1024 (768 + v) 0 0 (omega arith),
        ap (λ (s : List ℕ). bin_of s v) e ∙ count_none (λ (a : ℕ). eqb a v),
      );
}

-- a total counts none but the samples
pub tally_le : {lanes counted : List ℕ} → Tally lanes counted → (v : ℕ) → v < 256 → lane_total lanes v ≤ length counted
tally_le {lanes} {counted} t v h = omega (arith, t.counts v h, bin_of_le counted v)

-- the totals of a frame's samples are its bins
pub tally_done : {lanes samples : List ℕ} → Tally lanes samples → build 256 (lane_total lanes) ≡ bins samples
unfolding bins
tally_done {lanes} {samples} t = build_same 256 (lane_total lanes) (bin_of samples) t.counts

-- samples more stand before those that were counted
pub tally_more : {before lanes counted more : List ℕ} → Tally before counted → More before lanes more → Tally lanes (more ++ counted)
tally_more {before} {lanes} {counted} {more} t m =
    record { long = m.long; counts = λ v h. omega (arith, m.counts v h, t.counts v h, bin_append more counted v) }

-- no sample more
pub more_none : {lanes : List ℕ} {n : ℕ} → Room lanes n → More lanes lanes []
more_none {lanes} r = record { long = r.long; counts = λ v h. omega (arith, count_none (λ (a : ℕ). eqb a v)) }

-- some, and then others, which stand before them in the list
pub more_before : {before between lanes rest front : List ℕ} → More before between rest → More between lanes front → More before lanes (front ++ rest)
more_before {rest = rest} {front = front} m n =
    record { long = n.long; counts = λ v h. omega (arith, m.counts v h, n.counts v h, bin_append front rest v) }

-- what room is left
pub more_room : {before lanes counted : List ℕ} {n m : ℕ} → Room before n → More before lanes counted → length counted + m ≤ n → Room lanes m
more_room {before} {lanes} {counted} r t l =
    record { long = t.long; fits = λ v h. omega (arith, r.fits v h, t.counts v h, bin_of_le counted v) }

-- of the samples from `at` on i are counted, and the next, at p, is a byte: there is room for it, and then one more is counted
module _ (s : List ℕ) (at : ℕ) {i p : ℕ} {before lanes : List ℕ} {n k : ℕ} (t : More before lanes (take i (drop at s))) (r : Room before n) (l : Lane k)
    (bytes : Bytes s) (e : at + i ≡ p) (h : p < length s) (m : i < n) where
  pub next_fits : (length lanes ≡ 1024) × (k ≤ 768) × (get_or lanes (k + get_or s p 0) 0 < 67108864)
  next_fits =
      let left : Room lanes 1 = more_room r t (omega (arith, length-take i (drop at s))) in
      (t.long, lane_within l, omega (arith, bin_le lanes (get_or s p 0) l, left.fits (get_or s p 0) (bytes p h)))

  pub next_more : {j : ℕ} {new : List ℕ} → i + 1 ≡ j → new ≡ set lanes (k + get_or s p 0) (get_or lanes (k + get_or s p 0) 0 + 1) → More before new (take j (drop at s))
  next_more {j} {new} d q =
      let here : get_or (drop at s) i 0 ≡ get_or s p 0 = get_or-drop at s i 0 ∙ ap (λ (x : ℕ). get_or s x 0) e in
      record {
        long = ap length q ∙ length-set lanes _ _ ∙ t.long;
        counts = λ v g.
            ap (λ (x : List ℕ). lane_total x v) q ∙ total_more lanes (get_or s p 0) v l t.long (bytes p h) g
            ∙ omega (
              arith,
              t.counts v g,
              count_more (λ (a : ℕ). eqb a v) (drop at s) i (simp length-drop (omega arith)),
              ap (λ (a : ℕ). bit (eqb a v)) here,
              ap (λ (x : ℕ). bin_of (take x (drop at s)) v) d,
            );
      }
