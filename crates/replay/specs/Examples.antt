-- Lines, coordinates and fields, by computation.
use Rattle.std.specs.Prelude.{◌≡◌, refl, true, [], ◌∷◌, pos, negsuc}
use Rattle.definitions.specs.Decimal.{is_digit}
use Rattle.replay.specs.Lines.{with_digit, grown, number, numbers_from, numbers_of, line_length}
use Rattle.definitions.specs.Report.{field_of}
use Rattle.replay.specs.Lists.{coordinate_of}

-- "12 -3", a line's end, and "7", which has none
two_numbers : (numbers_of (49 ∷ 50 ∷ 32 ∷ 45 ∷ 51 ∷ 10 ∷ 55 ∷ []) ≡ 12 ∷ 9223372036854775811 ∷ []) × (line_length (49 ∷ 50 ∷ 32 ∷ 45 ∷ 51 ∷ 10 ∷ 55 ∷ []) ≡ 6)
unfolding is_digit with_digit grown number numbers_from line_length
two_numbers = (refl, refl)

-- -3 as it is read; the least coordinate, and one too low
coordinates_read : (coordinate_of (number true 3) ≡ negsuc 2) × (coordinate_of (number true 2147483648) ≡ negsuc 2147483647)
    × (coordinate_of (number true 2147483649) ≡ pos 0)
unfolding number coordinate_of
coordinates_read = (refl, refl, refl)

-- -29 as the second field
field_read : field_of (1 ∷ 0 ∷ 0 ∷ 0 ∷ 227 ∷ 255 ∷ 255 ∷ 255 ∷ []) 0 1 ≡ 4294967267
unfolding field_of
field_read = refl
