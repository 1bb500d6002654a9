-- The columns or rows of one parity: how many they are, and which pixel of the mosaic a plane's pixel is.
use Rattle.std.specs.Prelude.{ℕ, zero, suc, ◌+◌, ◌*◌, ◌/◌, ◌%◌, ◌<◌, ◌≤◌, ◌≡◌, eqb}
use Rattle.std.proofs.Common.{ap, subst, ◌∙◌, ⊎_elim, arith, eq-eqb, ne_eqb}
use Rattle.definitions.specs.Sum.{bit, sum}
use Rattle.laws.specs.general.Cases.{eq_or_ne}
use Rattle.mosaic_format.specs.Mosaic.{half, plane_of}

pub even_half : (side : ℕ) → half 0 side ≡ (side + 1) / 2
unfolding half
even_half side = omega arith

pub odd_half : (side : ℕ) → half 1 side ≡ side / 2
unfolding half
odd_half side = omega arith

-- both parities are all
pub halves : (side : ℕ) → half 0 side + half 1 side ≡ side
unfolding half
halves side = omega arith

-- and no parity has more than the side
pub half_le : (parity side : ℕ) → parity < 2 → 2 * half parity side ≤ side + 1
unfolding half
half_le parity side h = omega arith

-- column x is among those of its parity, and each of those is a column
pub column_half : (x w : ℕ) → x < w → x / 2 < half (x % 2) w
unfolding half
column_half x w h = omega arith

pub half_column : (u parity w : ℕ) → parity < 2 → u < half parity w → 2 * u + parity < w
unfolding half
half_column u parity w p h = omega arith

-- what holds of every even number and of every odd one holds of all
pub by_parity : (P : ℕ → Type 0) → ((k : ℕ) → P (2 * k)) → ((k : ℕ) → P (2 * k + 1)) → (x : ℕ) → P x
by_parity P even odd x = ⊎_elim
    (λ (e : x % 2 ≡ 0). let d : 2 * (x / 2) ≡ x = omega arith in subst P d (even (x / 2)))
    (λ (n : x % 2 ≡ 0 → ⊥). let d : 2 * (x / 2) + 1 ≡ x = omega arith in subst P d (odd (x / 2)))
    (eq_or_ne (x % 2) 0)

-- ---- a half is what its words say: as many numbers below the side have that parity

half_more : (parity side : ℕ) → parity < 2 → half parity side + bit (eqb (side % 2) parity) ≡ half parity (suc side)
unfolding half
half_more parity side p = ⊎_elim
    (λ (e : side % 2 ≡ parity). let b : bit (eqb (side % 2) parity) ≡ 1 = ap bit (eq-eqb (side % 2) parity e) in omega arith)
    (λ (n : side % 2 ≡ parity → ⊥). let b : bit (eqb (side % 2) parity) ≡ 0 = ap bit (ne_eqb (side % 2) parity n) in omega arith)
    (eq_or_ne (side % 2) parity)

pub half_counts : (parity side : ℕ) → parity < 2 → half parity side ≡ sum side (λ (x : ℕ). bit (eqb (x % 2) parity))
unfolding half sum
half_counts parity zero p = omega arith
half_counts parity (suc side) p = sym_more ∙ ap (λ (n : ℕ). n + bit (eqb (side % 2) parity)) (half_counts parity side p)
  where
    sym_more : half parity (suc side) ≡ half parity side + bit (eqb (side % 2) parity)
    sym_more = omega (arith, half_more parity side p)

-- ---- the plane of a pixel

pub plane_column : (x y : ℕ) → plane_of x y % 2 ≡ x % 2
unfolding plane_of
plane_column x y = omega arith

pub plane_row : (x y : ℕ) → plane_of x y / 2 ≡ y % 2
unfolding plane_of
plane_row x y = omega arith

pub plane_four : (x y : ℕ) → plane_of x y < 4
unfolding plane_of
plane_four x y = omega arith

pub plane_back : (p u v : ℕ) → p < 4 → plane_of (2 * u + p % 2) (2 * v + p / 2) ≡ p
unfolding plane_of
plane_back p u v h = omega arith
