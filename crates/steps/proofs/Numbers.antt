-- Numbers in decimal digits, and whole numbers by their sign and size.
use mathlib.Core.Path.{◌≡◌, refl, sym, ap, ap₂, ◌∙◌}
use mathlib.Core.Bool.{true, false}
use mathlib.Core.List.{List, [], ◌∷◌, ◌++◌}
use Prim.Native.Nat.{ℕ, zero, suc, ◌+◌, ◌/◌, ◌%◌, ◌<◌}
use native.Mathlib.Numerals.{unary_clauses}
use native.Mathlib.Omega.{arith}
use borrow.Author.Tests.{lt-ltb}
use lib.IntN.{ℤ, pos, negsuc, nat_abs}
use lib.Signed.{lt_z}
use Rattle.std.proofs.Common.{to_z, of_z, w32}
use Rattle.std.proofs.lemmas.Int.{of_z-to_z}
use Rattle.std.proofs.lemmas.Bool.Decides.{nat_tests}
use Rattle.io.specs.Digits.{hex_digit_ascii, last_digits, IsDigitCount}
use Rattle.definitions.specs.Decimal.{decimal}
use Rattle.definitions.specs.Geometry.{behind}
use Rattle.laws.specs.general.Cases.{cond_true}
use Rattle.laws.specs.general.Decimals.{decimal_one, decimal_more}
use Rattle.laws.specs.general.Whole.{alone, lt_true, lt_false}
use Rattle.steps.specs.Text.{ascii, integer}
use Rattle.definitions.specs.Report.{signed_of}

-- the last digit, as io has it
last : (n : ℕ) → hex_digit_ascii (n % 10) ≡ 48 + n % 10
last n = cond_true _ _ (lt-ltb (n % 10) 10 (omega arith))

-- the fewest digits that hold a number are the number in decimal
pub decimal_digits : (n k : ℕ) → IsDigitCount 10 1 n k → last_digits 10 k n ≡ decimal n
decimal_digits n zero f = absurd (omega arith)
decimal_digits n (suc zero) f = ap (λ (c : ℕ). c ∷ []) (last n ∙ omega arith) ∙ sym (decimal_one n (omega arith))
decimal_digits n (suc (suc k)) f =
    let low = simp unary_clauses at (f.2 (omega arith)) in
    ap₂ (λ (d : List ℕ) (c : ℕ). d ++ (c ∷ [])) (decimal_digits (n / 10) (suc k) (omega arith, omega arith, (λ m. simp unary_clauses (omega arith)))) (last n)
    ∙ sym (decimal_more n (omega arith))

-- a whole number by its sign and size
pub integer_below : (z : ℤ) → 0 < behind z → ascii "-" ++ decimal (nat_abs z) ≡ integer z
unfolding integer
integer_below (pos n) h = absurd (omega arith)
integer_below (negsuc n) h = refl

pub integer_above : (z : ℤ) → behind z ≡ 0 → decimal (nat_abs z) ≡ integer z
unfolding integer
integer_above (pos n) h = refl
integer_above (negsuc n) h = absurd (omega arith)

-- the sign by a test of a number that is z
pub sign_below : {y z : ℤ} → y ≡ z → lt_z y (pos 0) ≡ true → 0 < behind z
sign_below {y} {z} e t = omega (arith, lt_true y (pos 0) t, ap behind e)

pub sign_above : {y z : ℤ} → y ≡ z → lt_z y (pos 0) ≡ false → behind z ≡ 0
sign_above {y} {z} e t = omega (arith, lt_false y (pos 0) t, alone y, ap behind e)

-- 32 bits by two's complement, as a cast has them
signed_is : (n : ℕ) → n < 4294967296 → to_z w32 n ≡ signed_of n
unfolding signed_of
signed_is n h = grind (arith, nat_tests)

pub signed_cast : {z : ℤ} {n m : ℕ} → z ≡ to_z w32 n → n < 4294967296 → n ≡ m → to_z w32 (of_z w32 z) ≡ signed_of m
signed_cast {z} {n} e h q = ap (λ (x : ℤ). to_z w32 (of_z w32 x)) e ∙ ap (to_z w32) (of_z-to_z w32 n h) ∙ signed_is n h ∙ ap signed_of q
