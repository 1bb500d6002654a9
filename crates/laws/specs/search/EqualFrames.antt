-- A frame against itself: unmoved it disagrees with itself in no pixel, so the step is (0, 0) and each level tries one shift.
use Rattle.std.specs.Prelude.{◌≡◌, refl, Bool, pos, drop}
use Rattle.std.proofs.Math.Path.{sym, ap}
use Rattle.std.proofs.Common.{◌∙◌, arith, eq-eqb}
use Rattle.std.proofs.Math.Bool.{cond}
use mathlib.Core.List.{[], ◌∷◌}
use Prim.Native.Nat.{ℕ, zero, suc, ◌+◌, ◌<◌}
use Rattle.std.specs.Int.Bits.{differ}
use Rattle.std.proofs.Math.ListN.{length}
use Rattle.definitions.specs.Geometry.{Shift, origin, doubled, source, value_at_source, at_sources}
use Rattle.definitions.specs.Difference.{Bitmaps, disagreeing_bit, overlap, counts}
use Rattle.definitions.specs.Align.{Options, Exposure, nine, least_from, earliest_least, refine, up_to_zero, tried, step_at, comparisons_at}
use Rattle.definitions.specs.Align.{bitmaps_at, counts_at, cost_of, step, comparisons, levels, stepped}
use Rattle.laws.specs.general.Sums.{sum_zero}
use Rattle.laws.specs.images.Places.{source_inside}
use Rattle.laws.specs.search.Tried.{tried_enough}

differ_self : (a : ℕ) → differ a a ≡ 0
differ_self zero = refl
differ_self (suc a) = differ_self a

-- no pixel disagrees with itself
pub self_agrees : (w h : ℕ) (b : Bitmaps) → (counts w h b b origin).disagreeing ≡ 0
unfolding counts overlap at_sources disagreeing_bit
self_agrees w h b = sum_zero h _ (λ y l. sum_zero w _ (λ x m. at x y m l))
  where
    here : (x y : ℕ) → disagreeing_bit b b x y x y ≡ 0
    here x y = omega (arith, differ_self (b.threshold x y))

    at : (x y : ℕ) → x < w → y < h
        → value_at_source (source x (pos 0) w) (λ (u : ℕ). value_at_source (source y (pos 0) h) (λ (v : ℕ). disagreeing_bit b b x y u v)) ≡ 0
    at x y m l = rw (source_inside x (pos 0) w x (omega arith) m, source_inside y (pos 0) h y (omega arith) l) (here x y)

-- where (0, 0) is a clean match at each level, it is the only shift tried
module _ (cost : ℕ → Shift → ℕ) (clean : (k : ℕ) → cost k origin ≡ 0) where
  tried_one : (k : ℕ) → tried (cost k) origin ≡ origin ∷ []
  unfolding tried nine up_to_zero
  tried_one k = ap (λ (t : Bool). origin ∷ cond t [] (up_to_zero (cost k) (drop 1 (nine origin)))) (eq-eqb (cost k origin) 0 (clean k))

  refine_still : (k : ℕ) → refine (cost k) origin ≡ origin
  unfolding earliest_least least_from
  refine_still k = sym (tried_enough (cost k) origin) ∙ ap (earliest_least (cost k)) (tried_one k)

  step_still : (k d : ℕ) → step_at cost k d ≡ origin
  unfolding step_at
  step_still k zero = refine_still k
  step_still k (suc d) = ap (λ (s : Shift). refine (cost k) (doubled s)) (step_still (suc k) d) ∙ refine_still k

  comparisons_least : (k d : ℕ) → comparisons_at cost k d ≡ d + 1
  unfolding comparisons_at
  comparisons_least k zero = ap length (tried_one k)
  comparisons_least k (suc d) =
      let one : length (tried (cost k) (doubled (step_at cost (suc k) d))) ≡ 1 =
      ap (λ (s : Shift). length (tried (cost k) (doubled s))) (step_still (suc k) d) ∙ ap length (tried_one k) in
      omega (arith, one, comparisons_least (suc k) d)

-- two equal frames: the step is (0, 0), with the fewest comparisons that `comparisons_between` allows
pub equal_frames : (o : Options) (w h : ℕ) (e : Exposure) → stepped o w h e e ≡ record { shift = origin; comparisons = levels w h o.bits + 1 }
unfolding stepped step comparisons counts_at
equal_frames o w h e = λ j. record { shift = step_still cost clean 0 last j; comparisons = comparisons_least cost clean 0 last j }
  where
    last : ℕ
    last = levels w h o.bits

    cost : ℕ → Shift → ℕ
    cost = cost_of o w h e e

    clean : (k : ℕ) → cost k origin ≡ 0
    clean k = self_agrees _ _ (bitmaps_at o w h e k)
