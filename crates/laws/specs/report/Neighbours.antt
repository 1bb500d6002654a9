-- Neighbour shifts: they are the shifts one pixel away from a centre, none lies less far away but the centre itself, and the test
-- tells them.
use Rattle.std.specs.Prelude.{◌≡◌, true, false, ◌+◌, ◌≤◌, ◌<◌, ltb, ℤ, ◌-ℤ◌}
use Rattle.std.proofs.Math.Path.{sym}
use Rattle.std.proofs.Common.{ap, ◌∙◌, arith}
use Rattle.std.proofs.Math.Logic.{⊎_elim}
use borrow.Author.Tests.{lt-ltb, le-ltb, eq-eqb, ne_eqb, eqb-false}
use Rattle.std.proofs.Math.IntN.{nat_abs}
use Rattle.definitions.specs.Geometry.{Shift}
use Rattle.definitions.specs.Report.{NeighbourShift, distance, is_neighbour_shift}
use Rattle.laws.specs.general.Cases.{lt_or_le}
use Rattle.laws.specs.general.Whole.{alone, minus, equal, parts_of}
use Rattle.laws.specs.search.StepBounds.{abs_parts}

same_axis : (a b : ℤ) → nat_abs (a -ℤ b) ≡ 0 → a ≡ b
same_axis a b e = equal a b (omega (arith, abs_parts (a -ℤ b), minus a b))

pub axis_same : (a b : ℤ) → a ≡ b → nat_abs (a -ℤ b) ≡ 0
axis_same a b e = omega (arith, abs_parts (a -ℤ b), minus a b, alone (a -ℤ b), parts_of e)

module _ (c s : Shift) where
  pub distance_none : s ≡ c → distance c s ≡ 0
  unfolding distance
  distance_none e = omega (arith, axis_same s.x c.x (ap (λ (t : Shift). t.x) e), axis_same s.y c.y (ap (λ (t : Shift). t.y) e))

  pub none_distance : distance c s ≡ 0 → s ≡ c
  unfolding distance
  none_distance z i = record { x = same_axis s.x c.x (omega (arith, z)) i; y = same_axis s.y c.y (omega (arith, z)) i }

  pub neighbour_one : NeighbourShift c s → distance c s ≡ 1
  unfolding distance
  neighbour_one n = ⊎_elim
      (λ (l : distance c s < 1). absurd (n.other (none_distance (omega arith))))
      (λ (l : 1 ≤ distance c s). omega (arith, n.across, n.down))
      (lt_or_le (distance c s) 1)

  pub one_neighbour : distance c s ≡ 1 → NeighbourShift c s
  unfolding distance
  one_neighbour e = record {
    other = λ same. omega (arith, distance_none same);
    across = omega (arith, e);
    down = omega (arith, e);
  }

  -- by the test
  pub neighbour_true : NeighbourShift c s → is_neighbour_shift c s ≡ true
  unfolding is_neighbour_shift
  neighbour_true n = eq-eqb (distance c s) 1 (neighbour_one n)

  pub neighbour_false : (NeighbourShift c s → ⊥) → is_neighbour_shift c s ≡ false
  unfolding is_neighbour_shift
  neighbour_false never = ne_eqb (distance c s) 1 (λ e. never (one_neighbour e))

  pub no_neighbour : is_neighbour_shift c s ≡ false → NeighbourShift c s → ⊥
  unfolding is_neighbour_shift
  no_neighbour e n = eqb-false (distance c s) 1 e (neighbour_one n)

  -- and by its two distances, as it is told: too far on an axis, or within one pixel on both and elsewhere than the centre
  pub far_down : 1 < nat_abs (s.y -ℤ c.y) → is_neighbour_shift c s ≡ false
  unfolding distance is_neighbour_shift
  far_down h = ne_eqb (distance c s) 1 (λ e. omega (arith, h, e))

  pub far_across : 1 < nat_abs (s.x -ℤ c.x) → is_neighbour_shift c s ≡ false
  unfolding distance is_neighbour_shift
  far_across h = ne_eqb (distance c s) 1 (λ e. omega (arith, h, e))

  pub near_both : nat_abs (s.x -ℤ c.x) ≤ 1 → nat_abs (s.y -ℤ c.y) ≤ 1 → ltb 0 (nat_abs (s.x -ℤ c.x) + nat_abs (s.y -ℤ c.y)) ≡ is_neighbour_shift c s
  unfolding distance is_neighbour_shift
  near_both h v =
      let sum = nat_abs (s.x -ℤ c.x) + nat_abs (s.y -ℤ c.y) in
      ⊎_elim
      (λ (l : 0 < sum). lt-ltb 0 sum l ∙ sym (eq-eqb (distance c s) 1 (omega (arith, l, h, v))))
      (λ (l : sum ≤ 0). le-ltb 0 sum l ∙ sym (ne_eqb (distance c s) 1 (λ e. omega (arith, l, e))))
      (lt_or_le 0 sum)
