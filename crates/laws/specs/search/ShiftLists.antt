-- The shifts of a stack in a list, and the step of a frame, which is its shift less its neighbour's.
use Rattle.std.specs.Prelude.{◌≡◌, refl, List, [], ◌∷◌, ℕ, zero, suc, ◌+◌, ◌*◌, ℤ, pos, ◌+ℤ◌, ◌-ℤ◌, get_or}
use Rattle.std.proofs.Common.{ap, ◌∙◌, arith}
use Rattle.definitions.specs.Geometry.{Shift, origin, listed}
use Rattle.definitions.specs.Align.{Stack, neighbour, step_of, shift_of}
use Rattle.laws.specs.search.Walk.{shift_by_neighbour}
use Rattle.laws.specs.general.Whole.{add, minus, equal}

-- ---- a coordinate of a list of shifts

pub listed_x : (l : List Shift) (i : ℕ) → get_or (listed l) (2 * i) (pos 0) ≡ (get_or l i origin).x
unfolding listed
listed_x [] i = refl
listed_x (s ∷ l) zero = refl
listed_x (s ∷ l) (suc i) =
    let e : 2 * suc i ≡ suc (suc (2 * i)) = omega arith in
    ap (λ (k : ℕ). get_or (s.x ∷ s.y ∷ listed l) k (pos 0)) e ∙ listed_x l i

pub listed_y : (l : List Shift) (i : ℕ) → get_or (listed l) (2 * i + 1) (pos 0) ≡ (get_or l i origin).y
unfolding listed
listed_y [] i = refl
listed_y (s ∷ l) zero = refl
listed_y (s ∷ l) (suc i) =
    let e : 2 * suc i + 1 ≡ suc (suc (2 * i + 1)) = omega arith in
    ap (λ (k : ℕ). get_or (s.x ∷ s.y ∷ listed l) k (pos 0)) e ∙ listed_y l i

-- ---- the step

abbrev pub less : Shift → Shift → Shift
less s t = record { x = s.x -ℤ t.x; y = s.y -ℤ t.y }

-- a sum of two shifts less the first is the second
sum_less : (a b : ℤ) → (a +ℤ b) -ℤ a ≡ b
sum_less a b = equal ((a +ℤ b) -ℤ a) b (omega (arith, minus (a +ℤ b) a, add a b))

pub step_less : (a : Stack) (k : ℕ) → (k ≡ a.reference → ⊥) → less (shift_of a k) (shift_of a (neighbour a.reference k)) ≡ step_of a k
step_less a k apart =
    let s = shift_of a (neighbour a.reference k) in
    let d = step_of a k in
    ap (λ (t : Shift). less t s) (shift_by_neighbour a k apart)
    ∙ (λ i. record { x = sum_less s.x d.x i; y = sum_less s.y d.y i })
