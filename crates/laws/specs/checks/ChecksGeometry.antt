-- The checks of geometry.rs by the fact that a branch gives, as in `Checks.antt`.
use Rattle.std.specs.Prelude.{◌≡◌, true, false, not, List, [], ◌∷◌, ℕ, ◌%◌, eqb, ℤ}
use Rattle.std.proofs.Common.{eq-eqb, ne_eqb}
use Rattle.definitions.specs.Geometry.{in_i32}
use Rattle.definitions.specs.Refusals.{Check, Answer, refused, answer, coordinate_outside}
use Rattle.laws.specs.checks.Checks.{stop, skip}

module _ {A : Type 0} (a : A) where
  pub coordinate_stop : (z : ℤ) (l : List Check) → not (in_i32 z) ≡ true → refused 12 [] ≡ answer (coordinate_outside z ∷ l) a
  unfolding coordinate_outside
  coordinate_stop z l h = stop a (coordinate_outside z) l h

  pub coordinate_skip : (z : ℤ) (l : List Check) {r : Answer A} → not (in_i32 z) ≡ false → r ≡ answer l a → r ≡ answer (coordinate_outside z ∷ l) a
  unfolding coordinate_outside
  coordinate_skip z l h q = skip a (coordinate_outside z) l h q

  -- the length of a shift list
  pub odd_stop : (n : ℕ) (l : List Check) → n % 2 ≡ 1 → refused 2 [] ≡ answer (record { fails = eqb (n % 2) 1; number = 2; values = [] } ∷ l) a
  odd_stop n l h = stop a (record { fails = eqb (n % 2) 1; number = 2; values = [] }) l (eq-eqb (n % 2) 1 h)

  pub odd_skip : (n : ℕ) (l : List Check) {r : Answer A} → (n % 2 ≡ 1 → ⊥) → r ≡ answer l a → r ≡ answer (record { fails = eqb (n % 2) 1; number = 2; values = [] } ∷ l) a
  odd_skip n l h q = skip a (record { fails = eqb (n % 2) 1; number = 2; values = [] }) l (ne_eqb (n % 2) 1 h) q
