-- Document 01's example of the text, by computation from its crop, its two frames and the one record of the second; and the other texts
-- of the program.
use Rattle.std.specs.Prelude.{◌≡◌, refl, List, ◌∷◌, [], ◌++◌, negsuc, length}
use Rattle.definitions.specs.Decimal.{digits_up_to, decimal}
use Rattle.definitions.specs.Geometry.{origin}
use Rattle.definitions.specs.Report.{Record}
use Rattle.steps.specs.Text.{ascii, integer, line, heading, verdict_word, frame_line, record_line, lines_of_records, refusal_text}

-- The step, at which nothing disagrees.
abbrev one : List Record
one = record { frame = 1; shift = origin; counts = record { disagreeing = 0; compared = 3072 } } ∷ []

first_line : heading 2 (record { x = 0; y = 0; width = 64; height = 64 }) ≡ ascii "frames 2 crop 0 0 64 64\n"
unfolding ascii digits_up_to decimal line heading
first_line = refl

frame_lines : frame_line 0 origin 0 0 ++ frame_line 1 origin 2 (length one) ≡ ascii "0 0 0 reference 0\n1 0 0 alone 1\n"
unfolding ascii digits_up_to decimal integer line verdict_word frame_line
frame_lines = refl

record_lines : lines_of_records one ≡ ascii "1 0 0 0 3072\n"
unfolding ascii digits_up_to decimal integer line record_line lines_of_records
record_lines = refl

-- A record of coordinates below 0, and the words that the example does not have.
signs : record_line (record { frame = 2; shift = record { x = negsuc 2; y = negsuc 9 }; counts = record { disagreeing = 60; compared = 705 } }) ≡ ascii "2 -3 -10 60 705\n"
unfolding ascii digits_up_to decimal integer line record_line
signs = refl

other_words : (verdict_word 1 ≡ ascii "weak") × (verdict_word 3 ≡ ascii "contested")
unfolding verdict_word
other_words = (refl, refl)

-- The other texts of the program.
bad_input : line (ascii "bad input" ∷ []) ≡ ascii "bad input\n"
unfolding ascii line
bad_input = refl

no_frames : refusal_text 5 ≡ ascii "refused 5\n"
unfolding ascii digits_up_to decimal line refusal_text
no_frames = refl
