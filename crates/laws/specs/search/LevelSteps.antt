-- The walk over the levels: a level's sides and words, its image in a scratch that holds the pyramid, and the step and the
-- comparisons at a level by the next coarser one.
use Rattle.std.specs.Prelude.{◌≡◌, refl, List, [], ◌∷◌, ◌++◌, length, take, drop}
use Rattle.std.proofs.Common.{sym, ap₂, ◌∙◌, append_assoc, mul-le-mul, add-one, shr-shr, length-take-le, take_at, take-take}
use Rattle.std.proofs.Math.Path.{ap, subst}
use Prim.Native.Nat.{ℕ, zero, suc, ◌+◌, ◌-◌, ◌*◌, ◌/◌, ◌^◌, ◌<◌, ◌≤◌}
use native.Mathlib.Omega.{arith}
use Rattle.std.proofs.Math.Pow.{pow_mono}
use Rattle.std.proofs.lemmas.List.Edits.{sets, sets-eq}
use Rattle.std.proofs.Math.Seq.{length-sets}
use Rattle.definitions.specs.Bitmap.{words_per_row, bitmap_words}
use Rattle.definitions.specs.Geometry.{Shift, origin, doubled}
use Rattle.definitions.specs.Shrink.{Shrink, side_at, samples_at, level_of, halved_samples, level_start, pyramid}
use Rattle.definitions.specs.Refusals.{FreeUpTo}
use Rattle.definitions.specs.Align.{Stepped, tried, refined, step_at, comparisons_at, stepped_at}
use Rattle.laws.specs.search.Free.{free_then, free_stored}
use Rattle.laws.specs.search.Tried.{tried_few}
use Rattle.laws.specs.images.Pyramids.{sets_there, side_le, halved_le, level_end, level_part_lem, pyramid_length}
use Rattle.laws.specs.search.StepBounds.{Within, within_wider, offset_within, step_at_within, comparisons_at_lem}

-- ---- a level's size

pub side_power : (k side : ℕ) → side / 2 ^ k ≡ side_at k side
unfolding side_at
side_power zero side = omega arith
side_power (suc k) side = ap (λ (n : ℕ). side / 2 ^ n) (sym (add-one k)) ∙ sym (shr-shr side k 1) ∙ ap (λ (n : ℕ). n / 2) (side_power k side)

pub words_le : (k w h : ℕ) → bitmap_words (side_at k w) (side_at k h) ≤ bitmap_words w h
unfolding words_per_row
words_le k w h = let l : (side_at k w + 63) / 64 ≤ (w + 63) / 64 = omega (arith, side_le k w) in mul-le-mul (side_le k h) l

-- ---- a level in a scratch that holds the pyramid

-- a part of a front
part_taken : (n i k : ℕ) (l : List ℕ) → i + k ≤ n → take k (drop i (take n l)) ≡ take k (drop i l)
part_taken n zero k l h = take-take k n l (omega arith)
part_taken zero (suc i) k l h = absurd (omega arith)
part_taken (suc n) (suc i) k [] h = refl
part_taken (suc n) (suc i) k (a ∷ l) h = part_taken n i k l (omega arith)

pub level_held : (mode : Shrink) (w h : ℕ) (s l : List ℕ) (last k : ℕ) → take (halved_samples w h last) l ≡ pyramid mode w h s last → 1 ≤ k → k ≤ last
    → take (samples_at k w h) (drop (level_start w h k) l) ≡ level_of mode w h s k
level_held mode w h s l last k e p q =
    sym (part_taken (halved_samples w h last) (level_start w h k) (samples_at k w h) l (omega (arith, level_end w h k p, halved_le w h k last q)))
    ∙ ap (λ (m : List ℕ). take (samples_at k w h) (drop (level_start w h k) m)) e
    ∙ level_part_lem mode w h s last k p q

-- ---- two pyramids, one behind the other in one scratch

pub record Both (mode : Shrink) (w h last : ℕ) (r t old new : List ℕ) : Type 0 where
  pub free : FreeUpTo (2 * halved_samples w h last) old new
  pub first : take (halved_samples w h last) new ≡ pyramid mode w h r last
  pub second : take (halved_samples w h last) (drop (halved_samples w h last) new) ≡ pyramid mode w h t last

pub both_stored : (mode : Shrink) (w h last : ℕ) (r t old : List ℕ) {mid new : List ℕ} → 2 * halved_samples w h last ≤ length old
    → mid ≡ sets old 0 (pyramid mode w h r last) → new ≡ sets mid (halved_samples w h last) (pyramid mode w h t last) → Both mode w h last r t old new
both_stored mode w h last r t old {mid} {new} room p q =
    let n = halved_samples w h last in
    let vs = pyramid mode w h t last in
    let r-long = pyramid_length mode w h r last in
    let t-long = pyramid_length mode w h t last in
    let mid-long = ap length p ∙ length-sets old 0 (pyramid mode w h r last) in
    record {
      free = free_then
          (subst (FreeUpTo (2 * n) old) (sym p) (free_stored old (pyramid mode w h r last) 0 (2 * n) (omega arith)))
          (subst (FreeUpTo (2 * n) mid) (sym q) (free_stored mid vs n (2 * n) (omega arith)));
      first = ap (take n) (q ∙ sets-eq vs mid n (omega arith) ∙ append_assoc (take n mid) vs (drop (n + length vs) mid))
          ∙ take_at (take n mid) (vs ++ drop (n + length vs) mid) n (length-take-le n mid (omega arith))
          ∙ ap (take n) p
          ∙ sets_there old (pyramid mode w h r last) 0 n r-long (omega arith);
      second = ap (λ (l : List ℕ). take n (drop n l)) q ∙ sets_there mid vs n n t-long (omega arith);
    }

-- ---- the step and the comparisons at a level

-- the finer step, with the comparisons of both
abbrev pub then : Stepped → Stepped → Stepped
then coarser finer = record { shift = finer.shift; comparisons = coarser.comparisons + finer.comparisons }

pub refined_few : (cost : Shift → ℕ) (around : Shift) {s : Stepped} → s ≡ refined cost around → s.comparisons ≤ 9
unfolding refined
refined_few cost around {s} e =
    let n : s.comparisons ≡ length (tried cost around) = ap (λ (x : Stepped). x.comparisons) e in
    omega (arith, n, (tried_few cost around).1)

module _ (cost : ℕ → Shift → ℕ) (k last : ℕ) where
  pub step_last : {s : Stepped} → k ≡ last → s ≡ refined (cost k) origin → s ≡ stepped_at cost k (last - k)
  unfolding refined stepped_at step_at comparisons_at
  step_last e f = let z : last - k ≡ 0 = omega arith in rw z f

  -- one level finer: s at level k, around twice the step of the next coarser level
  pub step_more : {coarser s : Stepped} {around : Shift} → k < last
      → coarser ≡ stepped_at cost (k + 1) (last - (k + 1)) → around ≡ doubled coarser.shift → s ≡ refined (cost k) around
      → then coarser s ≡ stepped_at cost k (last - k)
  unfolding refined stepped_at step_at comparisons_at
  step_more {coarser} {s} {around} l p d f =
      let z : last - k ≡ suc (last - suc k) = omega arith in
      let c : coarser ≡ stepped_at cost (suc k) (last - suc k) = p ∙ ap (λ (j : ℕ). stepped_at cost j (last - j)) (add-one k) in
      let e : around ≡ doubled (step_at cost (suc k) (last - suc k)) = d ∙ ap (λ (x : Stepped). doubled x.shift) c in
      rw z (ap₂ then c (f ∙ ap (refined (cost k)) e))

  module _ {s : Stepped} (few : last ≤ 12) (e : s ≡ stepped_at cost k (last - k)) where
    pub comparisons_few : s.comparisons ≤ 117
    unfolding stepped_at
    comparisons_few =
        let n : s.comparisons ≡ comparisons_at cost k (last - k) = ap (λ (x : Stepped). x.comparisons) e in
        omega (arith, n, (comparisons_at_lem cost k (last - k)).1)

    -- a step of 13 levels is small, and so is twice it
    pub step_near : Within 8191 s.shift
    unfolding stepped_at
    step_near =
        let m : 2 ^ suc (last - k) ≤ 2 ^ 13 = pow_mono {j = 13} (omega arith) in
        subst (λ (x : Stepped). Within 8191 x.shift) (sym e) (within_wider (omega arith) (step_at_within cost k (last - k)))

    pub twice_near : {around : Shift} → around ≡ doubled s.shift → Within 65536 around
    twice_near d = subst (Within 65536) (sym d) (within_wider (omega arith) (offset_within 8191 8191 s.shift s.shift step_near step_near))
