-- The numbers that a line of text holds. A text is a list of ASCII codes.
use Rattle.std.specs.Prelude.{ℕ, suc, ◌+◌, ◌-◌, ◌*◌, ◌%◌, Bool, false, cond, ◌||◌, List, [], ◌∷◌, ltb, eqb}
use Rattle.definitions.specs.Decimal.{is_digit}

-- A number and one digit more, or 0 where that passes 64 bits.
unfoldable pub with_digit : ℕ → ℕ → ℕ
with_digit n digit = cond (ltb (n * 10 + digit) 18446744073709551616) (n * 10 + digit) 0

-- A number as a character carries it on: a digit does, and nothing else.
unfoldable pub grown : ℕ → ℕ → ℕ
grown n c = cond (is_digit c) (with_digit n (c - 48)) n

-- A number of either sign as 64 bits: 2^63 is added to a negative one's magnitude.
unfoldable pub number : Bool → ℕ → ℕ
number negative n = cond negative (n % 9223372036854775808 + 9223372036854775808) n

-- The numbers up to the line's end, each ended by a blank or by the line's end; the first is read already as far as n.
unfoldable pub numbers_from : Bool → ℕ → List ℕ → List ℕ
numbers_from negative n [] = []
numbers_from negative n (c ∷ text) =
    cond (eqb c 10) (number negative n ∷ [])
    (cond (eqb c 32) (number negative n ∷ numbers_from false 0 text)
    (numbers_from (negative || eqb c 45) (grown n c) text))

-- Those of the line that a text begins with.
abbrev pub numbers_of : List ℕ → List ℕ
numbers_of text = numbers_from false 0 text

-- How long that line is, with its end.
unfoldable pub line_length : List ℕ → ℕ
line_length [] = 0
line_length (c ∷ text) = cond (eqb c 10) 1 (suc (line_length text))
