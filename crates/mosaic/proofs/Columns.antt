-- What the loops over a row's columns have stored: a row taken apart into two runs, and one put together out of two.
use Prim.Native.Nat.{ℕ, ◌+◌, ◌*◌, ◌/◌, ◌%◌, ◌<◌}
use native.Mathlib.Omega.{arith}
use mathlib.Core.Path.{◌≡◌, refl, sym, ap, ap₂, subst, ◌∙◌}
use mathlib.Core.List.{List}
use lib.ListN.{length, get_or, set, length-set}
use lib.Seq.{sets}
use borrow.Author.Tests.{eq-eqb, ne_eqb}
use Rattle.definitions.specs.Build.{build}
use Rattle.laws.specs.general.Cases.{cond_true, cond_false}
use Rattle.laws.specs.general.Writes.{store_more, set_before, Stored, stored_none, stored_more, stored_all}
use Rattle.laws.specs.general.Beside.{both, both_none, both_more}
use Rattle.mosaic.specs.Rows.{every_second, woven}

-- ---- taken apart: k even columns from i on, and k odd ones from j on

abbrev second : List ℕ → ℕ → ℕ → ℕ
second s from k = get_or s (from + 2 * k) 0

pub record Taken (s : List ℕ) (from i j : ℕ) (old new : List ℕ) (k : ℕ) : Type 0 where
  pub long : length new ≡ length old
  pub are : new ≡ both old i j (every_second s k from) (every_second s k (from + 1))

pub taken_none : (s : List ℕ) (from i j : ℕ) (old : List ℕ) → Taken s from i j old old 0
taken_none s from i j old = record { long = refl; are = both_none old i j (second s from) (second s (from + 1)) }

module _ {s old new : List ℕ} {from i j k : ℕ} (q : Taken s from i j old new k) where
  pub taken_more : {v u : ℕ} → i + k < j → v ≡ get_or s (from + 2 * k) 0 → u ≡ get_or s (from + 2 * k + 1) 0
      → Taken s from i j old (set (set new (i + k) v) (j + k) u) (k + 1)
  taken_more {v} {u} l a b =
      let right : from + 2 * k + 1 ≡ from + 1 + 2 * k = omega arith in record {
        long = length-set (set new (i + k) v) (j + k) u ∙ length-set new (i + k) v ∙ q.long;
        are = both_more old i j (second s from) (second s (from + 1)) k l q.are a (b ∙ ap (λ (m : ℕ). get_or s m 0) right);
      }

  -- a row of odd width ends with one even column more
  pub taken_odd : (width : ℕ) {v : ℕ} → width % 2 ≡ 1 → k ≡ width / 2 → i + width / 2 < j → v ≡ get_or s (from + 2 * (width / 2)) 0
      → set new (i + width / 2) v ≡ both old i j (every_second s ((width + 1) / 2) from) (every_second s (width / 2) (from + 1))
  taken_odd width {v} e p l a =
      let left : width / 2 + 1 ≡ (width + 1) / 2 = omega arith in
      let pairs = width / 2 in
      let are = subst (λ (m : ℕ). new ≡ both old i j (every_second s m from) (every_second s m (from + 1))) p q.are in
      ap (λ (m : List ℕ). set m (i + pairs) v) are
      ∙ set_before (sets old i (every_second s pairs from)) (every_second s pairs (from + 1)) (i + pairs) j v l
      ∙ ap (λ (m : List ℕ). sets m j (every_second s pairs (from + 1))) (store_more old i pairs (second s from) refl a)
      ∙ ap (λ (m : ℕ). both old i j (every_second s m from) (every_second s pairs (from + 1))) left

-- ---- put together: 2 k columns, of two runs in turn

module _ (s : List ℕ) (i j : ℕ) where
  pub woven_even : (k : ℕ) → get_or s (i + k) 0 ≡ woven s i j (2 * k)
  woven_even k =
      let e : 2 * k / 2 ≡ k = omega arith in
      ap₂ (λ (m n : ℕ). get_or s (m + n) 0) (sym (cond_true i j (eq-eqb (2 * k % 2) 0 (omega arith)))) (sym e)

  pub woven_odd : (k : ℕ) → get_or s (j + k) 0 ≡ woven s i j (2 * k + 1)
  woven_odd k =
      let e : (2 * k + 1) / 2 ≡ k = omega arith in
      ap₂ (λ (m n : ℕ). get_or s (m + n) 0) (sym (cond_false i j (ne_eqb ((2 * k + 1) % 2) 0 (λ p. omega arith)))) (sym e)

  pub put_more : {at : ℕ} {old new : List ℕ} {v u : ℕ} (k : ℕ) → Stored (woven s i j) at old new (2 * k) → v ≡ get_or s (i + k) 0 → u ≡ get_or s (j + k) 0
      → Stored (woven s i j) at old (set (set new (at + 2 * k) v) (at + 2 * k + 1) u) (2 * (k + 1))
  put_more {at} {old} {new} {v} {u} k q a b =
      let place : at + (2 * k + 1) ≡ at + 2 * k + 1 = omega arith in
      let next : 2 * k + 1 + 1 ≡ 2 * (k + 1) = omega arith in
      let both : Stored (woven s i j) at old (set (set new (at + 2 * k) v) (at + (2 * k + 1)) u) (2 * k + 1 + 1) =
      stored_more (stored_more q (a ∙ woven_even k)) (b ∙ woven_odd k) in
      subst (λ (m : ℕ). Stored (woven s i j) at old (set (set new (at + 2 * k) v) (at + 2 * k + 1) u) m) next
      (subst (λ (m : ℕ). Stored (woven s i j) at old (set (set new (at + 2 * k) v) m u) (2 * k + 1 + 1)) place both)

  pub put_odd : {at : ℕ} {old new : List ℕ} {v : ℕ} (k width : ℕ) → Stored (woven s i j) at old new (2 * k) → width % 2 ≡ 1 → k ≡ width / 2
      → v ≡ get_or s (i + width / 2) 0 → set new (at + 2 * (width / 2)) v ≡ sets old at (build width (woven s i j))
  put_odd {at} {old} {new} {v} k width q e p a =
      let here = subst (λ (m : ℕ). Stored (woven s i j) at old new (2 * m)) p q in
      stored_all (stored_more here (a ∙ woven_even (width / 2))) (omega arith)

pub ruleset taken = (taken_none, taken_odd)

pub ruleset put = (stored_none, put_odd)
