-- The source of a place by the two numbers of a shift: before the frame, inside it, past it, each with a premise that `omega` proves.
use Rattle.std.specs.Prelude.{◌≡◌, refl, Bool, true, false, ltb, ℤ, negsuc, ◌-ℤ◌}
use Rattle.std.proofs.Common.{sym, ◌∙◌, subst, ⊎_elim, arith, lt-ltb, le-ltb, ltb-true}
use Rattle.std.proofs.Math.Path.{ap}
use Rattle.std.proofs.Math.Bool.{cond}
use Prim.Native.Nat.{ℕ, suc, ◌+◌, ◌-◌, ◌<◌, ◌≤◌, min}
use Rattle.std.proofs.Math.Decide.{dec_lt}
use Rattle.std.proofs.Math.IntN.{pos, sub_ℕ}
use Rattle.definitions.specs.Geometry.{inside, outside, Inside, index_of, source, ahead, behind}
use Rattle.laws.specs.general.Cases.{lt_or_le}
use Rattle.laws.specs.general.Whole.{alone, gap, sub_yes, sub_no}

module _ (d : ℕ) (s : ℤ) (e : ℕ) where
  by : (z : ℤ) → sub_ℕ (d + behind s) (ahead s) ≡ z → source d s e ≡ index_of z e
  unfolding source
  by z p = ap (λ (y : ℤ). index_of y e) (gap d s ∙ p)

  pub source_before : d < ahead s → source d s e ≡ outside
  unfolding index_of
  source_before h = by (negsuc (ahead s - suc (d + behind s))) (sub_no (d + behind s) (ahead s) (omega (arith, alone s)))

  pub source_inside : (n : ℕ) → ahead s + n ≡ d + behind s → n < e → source d s e ≡ inside n
  unfolding index_of
  source_inside n q h =
      by (pos n) (sub_yes (d + behind s) (ahead s) (omega arith) ∙ ap pos (omega arith))
      ∙ ap (λ b. cond b (inside n) outside) (lt-ltb n e h)

  pub source_past : ahead s + e ≤ d + behind s → source d s e ≡ outside
  unfolding index_of
  source_past h =
      let n = d + behind s - ahead s in
      by (pos n) (sub_yes (d + behind s) (ahead s) (omega arith))
      ∙ ap (λ b. cond b (inside n) outside) (le-ltb n e (omega arith))

-- of a side that the shift passes every place has its source outside
pub outside_all : (side : ℕ) (s : ℤ) → side ≤ ahead s + behind s → (d : ℕ) → d < side → source d s side ≡ outside
outside_all side s l d h = ⊎_elim
    (λ (k : d < ahead s). source_before d s side k)
    (λ (k : ahead s ≤ d). source_past d s side (omega (arith, alone s)))
    (lt_or_le d (ahead s))

-- what is inside is below the side
index_lt : (z : ℤ) (e n : ℕ) → index_of z e ≡ inside n → n < e
unfolding index_of
index_lt (pos m) e n q = on (ltb m e) refl q
  where
    on : (t : Bool) → ltb m e ≡ t → cond t (inside m) outside ≡ inside n → n < e
    on true h q = let k : m ≡ n = cc in omega (arith, ltb-true m e h)
    on false h q = let k : ◌≡◌ {A = ℕ} 0 1 = cc in omega arith
index_lt (negsuc m) e n q = let k : ◌≡◌ {A = ℕ} 0 1 = cc in omega arith

pub inside_lt : (d : ℕ) (s : ℤ) (e n : ℕ) → source d s e ≡ inside n → n < e
unfolding source
inside_lt d s e n q = index_lt (pos d -ℤ s) e n q

-- ---- the first place that a moved side covers: its source is inside exactly if any is

pub record Covering (e : ℕ) (s : ℤ) (first n : ℕ) : Type 0 where
  pub first_is : first ≡ ahead s
  pub source_is : n ≡ behind s
  pub some : ahead s + behind s < e

module _ (e : ℕ) (s : ℤ) (first : ℕ) (is : first ≡ min (ahead s) (e - 1)) where
  covered : ahead s + behind s < e → source first s e ≡ inside (behind s)
  covered l = source_inside first s e (behind s) (omega arith) (omega arith)

  uncovered : e ≤ ahead s + behind s → source first s e ≡ outside
  uncovered l = ⊎_elim
      (λ (h : first < ahead s). source_before first s e h)
      (λ (h : ahead s ≤ first). source_past first s e (omega (arith, alone s)))
      (lt_or_le first (ahead s))

  pub first_inside : (n : ℕ) → source first s e ≡ inside n → Covering e s first n
  first_inside n q = ⊎_elim
      (λ (h : ahead s + behind s < e).
      let o = covered h in
      let k : n ≡ behind s = cc in
      record { first_is = omega arith; source_is = k; some = h })
      (λ (h : e ≤ ahead s + behind s).
      let o = uncovered h in
      let k : ◌≡◌ {A = ℕ} 0 1 = cc in
      absurd (omega arith))
      (lt_or_le (ahead s + behind s) e)

  pub first_outside : source first s e ≡ outside → e ≤ ahead s + behind s
  first_outside q = ⊎_elim
      (λ (h : ahead s + behind s < e).
      let o = covered h in
      let k : ◌≡◌ {A = ℕ} 0 1 = cc in
      absurd (omega arith))
      (λ (h : e ≤ ahead s + behind s). h)
      (lt_or_le (ahead s + behind s) e)

-- ---- a place of the frame has its source inside exactly if it lies so far from both ends

pub record Keeps (d e : ℕ) (s : ℤ) : Type 0 where
  pub low : ahead s ≤ d
  pub high : d + behind s < e

pub keeps_inside : (d e : ℕ) (s : ℤ) → Keeps d e s → Inside (source d s e)
keeps_inside d e s k = subst Inside (sym (source_inside d s e (d + behind s - ahead s) (omega (arith, k.low)) (omega (arith, k.high)))) tt

pub inside_keeps : (d e : ℕ) (s : ℤ) → d < e → Inside (source d s e) → Keeps d e s
inside_keeps d e s l t = record { low = below (dec_lt d (ahead s)); high = above (dec_lt (d + behind s) e) (dec_lt 0 (behind s)) }
  where
    not_below : (a b : ℕ) → ¬ (a < b) → b ≤ a
    not_below a b n = omega arith

    below : Dec (d < ahead s) → ahead s ≤ d
    below (yes h) = absurd (subst Inside (source_before d s e h) t)
    below (no n) = not_below d (ahead s) n

    above : Dec (d + behind s < e) → Dec (0 < behind s) → d + behind s < e
    above (yes h) z = h
    above (no n) (yes z) = absurd (subst Inside (source_past d s e (omega (arith, alone s))) t)
    above (no n) (no z) = omega arith
