-- Files of a few bytes, what is read of them and how frames are written, computed by the definitions.
use Rattle.std.specs.Prelude.{ℕ, ◌≡◌, refl, List, [], ◌∷◌, ◌++◌, replicate}
use Rattle.definitions.specs.Decimal.{is_digit, value_from, digits_up_to, decimal}
use Rattle.definitions.specs.Refusals.{answer, accepted, refused, side_over, frames_over, wrong_length}
use Rattle.pgm_format.specs.Pgm.{is_white, after_gap, digits_of, after_digits, field_of, and_then, one_white, magic, header_of, is_missing, sizes_in, rest_in}
use Rattle.pgm_format.specs.Pgm.{malformed, other_highest, samples_short, sizes_checks, read_checks, image_read, read, part_of, samples_of}
use Rattle.pgm_format.specs.Pgm.{Frame, header_bytes, pgm, room_short, write_checks, write, written}
use Rattle.pgm_format.specs.Stack.{images_from, next_from, place_past, images_checks, joined_samples, read_stack_checks, read_stack}

-- "P5#c\n3#\n2 0255\tabcdefX": white space may be comments alone, and a zero may stand in front
abbrev spaced : List ℕ
spaced = 80 ∷ 53 ∷ 35 ∷ 99 ∷ 10 ∷ 51 ∷ 35 ∷ 10 ∷ 50 ∷ 32 ∷ 48 ∷ 50 ∷ 53 ∷ 53 ∷ 9 ∷ 97 ∷ 98 ∷ 99 ∷ 100 ∷ 101 ∷ 102 ∷ 88 ∷ []

spaced_read : read spaced 0 ≡ accepted (record { width = 3; height = 2; start = 15; next = 21 })
unfolding answer side_over is_white is_digit value_from after_gap digits_of after_digits field_of and_then one_white magic header_of is_missing
    sizes_in rest_in malformed other_highest samples_short sizes_checks read_checks image_read read
spaced_read = refl

spaced_past : read spaced 22 ≡ refused 13 []
unfolding answer side_over is_white is_digit value_from after_gap digits_of after_digits field_of and_then one_white magic header_of is_missing
    sizes_in rest_in malformed other_highest samples_short sizes_checks read_checks image_read read
spaced_past = refl

-- "P5 #\r3\n2 2 255\rabcd": a carriage return ends no comment, and one may stand behind the highest value
abbrev returned : List ℕ
returned = 80 ∷ 53 ∷ 32 ∷ 35 ∷ 13 ∷ 51 ∷ 10 ∷ 50 ∷ 32 ∷ 50 ∷ 32 ∷ 50 ∷ 53 ∷ 53 ∷ 13 ∷ 97 ∷ 98 ∷ 99 ∷ 100 ∷ []

returned_read : read returned 0 ≡ accepted (record { width = 2; height = 2; start = 15; next = 19 })
unfolding answer side_over is_white is_digit value_from after_gap digits_of after_digits field_of and_then one_white magic header_of is_missing
    sizes_in rest_in malformed other_highest samples_short sizes_checks read_checks image_read read
returned_read = refl

-- "P5 3 2 #255\n": the highest value stands in a comment
abbrev inside : List ℕ
inside = 80 ∷ 53 ∷ 32 ∷ 51 ∷ 32 ∷ 50 ∷ 32 ∷ 35 ∷ 50 ∷ 53 ∷ 53 ∷ 10 ∷ []

inside_read : read inside 0 ≡ refused 13 []
unfolding answer side_over is_white is_digit value_from after_gap digits_of after_digits field_of and_then one_white magic header_of is_missing
    sizes_in rest_in malformed other_highest samples_short sizes_checks read_checks image_read read
inside_read = refl

-- "P5 3 18446744073709551619 7\n": 2^64 + 3 is no 3, and a side over 8,192 goes before another highest value
abbrev large : List ℕ
large = 80 ∷ 53 ∷ 32 ∷ 51 ∷ 32 ∷ 49 ∷ 56 ∷ 52 ∷ 52 ∷ 54 ∷ 55 ∷ 52 ∷ 52 ∷ 48 ∷ 55 ∷ 51 ∷ 55 ∷ 48 ∷ 57 ∷ 53 ∷ 53 ∷ 49 ∷ 54 ∷ 49 ∷ 57 ∷ 32 ∷ 55 ∷ 10 ∷ []

large_read : read large 0 ≡ refused 1 []
unfolding answer side_over is_white is_digit value_from after_gap digits_of after_digits field_of and_then one_white magic header_of is_missing
    sizes_in rest_in malformed other_highest samples_short sizes_checks read_checks image_read read
large_read = refl

-- "P5 3 2 7\n": another highest value goes before too few samples
abbrev dim : List ℕ
dim = 80 ∷ 53 ∷ 32 ∷ 51 ∷ 32 ∷ 50 ∷ 32 ∷ 55 ∷ 10 ∷ []

dim_read : read dim 0 ≡ refused 14 []
unfolding answer side_over is_white is_digit value_from after_gap digits_of after_digits field_of and_then one_white magic header_of is_missing
    sizes_in rest_in malformed other_highest samples_short sizes_checks read_checks image_read read
dim_read = refl

-- "P5 3 2 255\nabcde": a sample is missing
abbrev cut : List ℕ
cut = 80 ∷ 53 ∷ 32 ∷ 51 ∷ 32 ∷ 50 ∷ 32 ∷ 50 ∷ 53 ∷ 53 ∷ 10 ∷ 97 ∷ 98 ∷ 99 ∷ 100 ∷ 101 ∷ []

cut_read : read cut 0 ≡ refused 15 []
unfolding answer side_over is_white is_digit value_from after_gap digits_of after_digits field_of and_then one_white magic header_of is_missing
    sizes_in rest_in malformed other_highest samples_short sizes_checks read_checks image_read read
cut_read = refl

-- "P5 0 7 255\n": a side of 0
abbrev flat : List ℕ
flat = 80 ∷ 53 ∷ 32 ∷ 48 ∷ 32 ∷ 55 ∷ 32 ∷ 50 ∷ 53 ∷ 53 ∷ 10 ∷ []

flat_read : read flat 0 ≡ accepted (record { width = 0; height = 7; start = 11; next = 11 })
unfolding answer side_over is_white is_digit value_from after_gap digits_of after_digits field_of and_then one_white magic header_of is_missing
    sizes_in rest_in malformed other_highest samples_short sizes_checks read_checks image_read read
flat_read = refl

-- "P5 1 1 255\naP5 1 1 255\nb": two images
abbrev pair : List ℕ
pair = 80 ∷ 53 ∷ 32 ∷ 49 ∷ 32 ∷ 49 ∷ 32 ∷ 50 ∷ 53 ∷ 53 ∷ 10 ∷ 97 ∷ 80 ∷ 53 ∷ 32 ∷ 49 ∷ 32 ∷ 49 ∷ 32 ∷ 50 ∷ 53 ∷ 53 ∷ 10 ∷ 98 ∷ []

pair_read : (read_stack pair 0 2 2 2 ≡ accepted 24) × (joined_samples pair (images_from pair 0 2) ≡ 97 ∷ 98 ∷ [])
unfolding answer side_over is_white is_digit value_from after_gap digits_of after_digits field_of and_then one_white magic header_of is_missing
    sizes_in rest_in malformed other_highest samples_short sizes_checks read_checks image_read read
    frames_over wrong_length images_from next_from place_past images_checks part_of samples_of joined_samples read_stack_checks read_stack
pair_read = (refl, refl)

-- ---- the writer

-- "P5\n3 2\n255\nabcdef", the image of `spaced`: 17 bytes, of which the header has 11; what lay past them in a longer buffer stays
abbrev letters : Frame
letters = record { width = 3; height = 2; samples = 97 ∷ 98 ∷ 99 ∷ 100 ∷ 101 ∷ 102 ∷ [] }

abbrev letters_file : List ℕ
letters_file = 80 ∷ 53 ∷ 10 ∷ 51 ∷ 32 ∷ 50 ∷ 10 ∷ 50 ∷ 53 ∷ 53 ∷ 10 ∷ 97 ∷ 98 ∷ 99 ∷ 100 ∷ 101 ∷ 102 ∷ []

letters_written : (write letters 19 ≡ accepted 17) × (written letters (replicate 19 88) ≡ letters_file ++ (88 ∷ 88 ∷ []))
unfolding answer side_over wrong_length digits_up_to decimal header_bytes pgm room_short write_checks write written
letters_written = (refl, refl)

-- a byte less than the file is too short, and so is one sample less; a side over 8,192 goes before both
letters_refused : (write letters 16 ≡ refused 2 [])
    × (write (record { width = 3; height = 2; samples = 97 ∷ 98 ∷ 99 ∷ 100 ∷ 101 ∷ [] }) 19 ≡ refused 2 [])
    × (write (record { width = 8193; height = 2; samples = [] }) 0 ≡ refused 1 [])
unfolding answer side_over wrong_length digits_up_to decimal header_bytes pgm room_short write_checks write
letters_refused = (refl, refl, refl)

-- "P5\n0 10\n255\n": a side of 0 is the digit 0, and 10 has two
empty_written : pgm (record { width = 0; height = 10; samples = [] }) ≡ 80 ∷ 53 ∷ 10 ∷ 48 ∷ 32 ∷ 49 ∷ 48 ∷ 10 ∷ 50 ∷ 53 ∷ 53 ∷ 10 ∷ []
unfolding digits_up_to decimal header_bytes pgm
empty_written = refl
