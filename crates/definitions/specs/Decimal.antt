-- Numbers in decimal, as the program's text and a PGM header have them: lists of ASCII codes.
use Rattle.std.specs.Prelude.{ℕ, zero, suc, ◌+◌, ◌-◌, ◌*◌, ◌/◌, ◌%◌, ◌<◌, ◌≡◌, Bool, true, cond, ◌&&◌, List, [], ◌∷◌, ◌++◌, ltb, leb, length, get_or}

-- 0 to 9.
unfoldable pub is_digit : ℕ → Bool
is_digit b = leb 48 b && leb b 57

-- The number that some digits write behind others that write n.
unfoldable pub value_from : ℕ → List ℕ → ℕ
value_from n [] = n
value_from n (d ∷ l) = value_from (10 * n + (d - 48)) l

-- One or more digits that write n. Zeros may stand in front.
pub record Numeral (d : List ℕ) (n : ℕ) : Type 0 where
  pub some : 0 < length d
  pub all : (i : ℕ) → i < length d → is_digit (get_or d i 0) ≡ true
  pub value : value_from 0 d ≡ n

-- The digits of a number up to `most`, with no 0 in front; of 0 the one digit 0.
unfoldable pub digits_up_to : ℕ → ℕ → List ℕ
digits_up_to zero n = 48 ∷ []
digits_up_to (suc most) n = cond (ltb n 10) ((48 + n) ∷ []) (digits_up_to most (n / 10) ++ ((48 + n % 10) ∷ []))

-- A number in decimal, with no 0 in front: the shortest of its numerals, and the only one so short.
unfoldable pub decimal : ℕ → List ℕ
decimal n = digits_up_to n n
