-- Netpbm's binary greymap (P5), by 02: what an image in a file is, what the reader answers, and the one way to write a frame.
use Rattle.std.specs.Prelude.{ℕ, ◌+◌, ◌-◌, ◌*◌, ◌≤◌, ◌<◌, ◌≡◌, Bool, true, false, cond, not, ◌&&◌, ◌||◌, List, [], ◌∷◌, ◌++◌, ltb, leb, eqb, length, get_or, take, drop}
use Rattle.definitions.specs.Decimal.{is_digit, value_from, Numeral, decimal}
use Rattle.definitions.specs.Refusals.{Check, Answer, answer, side_over, wrong_length}

-- ---- bytes

-- Blank, tab, carriage return, line feed.
unfoldable pub is_white : ℕ → Bool
is_white b = eqb b 32 || eqb b 9 || eqb b 13 || eqb b 10

-- ---- the grammar

-- White space bytes and comments in any order, also none. A comment runs from # (35) through the next line feed (10).
pub data Gap : List ℕ → Type 0 where
  none : Gap []
  white : (b : ℕ) (l : List ℕ) → is_white b ≡ true → Gap l → Gap (b ∷ l)
  comment : (c l : List ℕ) → ((i : ℕ) → i < length c → eqb (get_or c i 0) 10 ≡ false) → Gap l → Gap (35 ∷ (c ++ (10 ∷ l)))

-- At least one white space byte or comment, then a number.
pub record Field (l : List ℕ) (n : ℕ) : Type 0 where
  pub gap : List ℕ
  pub digits : List ℕ
  pub parts : l ≡ gap ++ digits
  pub apart : 0 < length gap
  pub spaced : Gap gap
  pub number : Numeral digits n

-- P5 (80, 53), the fields of width, height and highest value, and one white space byte.
pub record Header (l : List ℕ) (w h top : ℕ) : Type 0 where
  pub wide : List ℕ
  pub high : List ℕ
  pub most : List ℕ
  pub last : ℕ
  pub parts : l ≡ 80 ∷ 53 ∷ (wide ++ (high ++ (most ++ (last ∷ []))))
  pub width : Field wide w
  pub height : Field high h
  pub highest : Field most top
  pub ends : is_white last ≡ true

-- A header begins at a place of a file, and `rest` stands behind it.
pub record HeaderAt (file : List ℕ) (at w h top : ℕ) (rest : List ℕ) : Type 0 where
  pub before : List ℕ
  pub head : List ℕ
  pub parts : file ≡ before ++ (head ++ rest)
  pub place : length before ≡ at
  pub header : Header head w h top

-- An image that was read: its size, where its samples start, and the place behind them.
pub record Image : Type 0 where
  pub width : ℕ
  pub height : ℕ
  pub start : ℕ
  pub next : ℕ

-- An image stands at a place of a file: a header with sides of at most 8,192 and highest value 255, then width times height samples.
pub record ImageAt (file : List ℕ) (at : ℕ) (i : Image) : Type 0 where
  pub samples : List ℕ
  pub behind : List ℕ
  pub header : HeaderAt file at i.width i.height 255 (samples ++ behind)
  pub narrow : i.width ≤ 8192
  pub low : i.height ≤ 8192
  pub counted : length samples ≡ i.width * i.height
  pub starts : i.start ≡ at + length header.head
  pub ends : i.next ≡ i.start + length samples

-- ---- the reader

-- What is left behind the white space and the comments that a list starts with; `inside` a comment up to its line feed.
unfoldable pub after_gap : Bool → List ℕ → List ℕ
after_gap inside [] = []
after_gap true (b ∷ l) = after_gap (not (eqb b 10)) l
after_gap false (b ∷ l) = cond (is_white b) (after_gap false l) (cond (eqb b 35) (after_gap true l) (b ∷ l))

-- The digits that a list starts with, and what is left behind them.
unfoldable pub digits_of : List ℕ → List ℕ
digits_of [] = []
digits_of (b ∷ l) = cond (is_digit b) (b ∷ digits_of l) []

unfoldable pub after_digits : List ℕ → List ℕ
after_digits [] = []
after_digits (b ∷ l) = cond (is_digit b) (after_digits l) (b ∷ l)

-- What is read from a list's front, with what is left behind it, or nothing.
pub data Reading (A : Type 0) : Type 0 where
  missing : Reading A
  found : A → List ℕ → Reading A

-- One reading, and another one behind it.
unfoldable pub and_then : {A B : Type 0} → Reading A → (A → List ℕ → Reading B) → Reading B
and_then missing f = missing
and_then (found a l) f = f a l

-- P5.
unfoldable pub magic : List ℕ → Reading (Unit {0})
magic [] = missing
magic (p ∷ []) = missing
magic (p ∷ five ∷ l) = cond (eqb p 80 && eqb five 53) (found tt l) missing

-- A number behind white space.
unfoldable pub field_of : List ℕ → Reading ℕ
field_of l =
    let d = after_gap false l in
    cond (ltb (length d) (length l) && ltb 0 (length (digits_of d))) (found (value_from 0 (digits_of d)) (after_digits d)) missing

-- One white space byte, behind what was read.
unfoldable pub one_white : {A : Type 0} → A → List ℕ → Reading A
one_white a [] = missing
one_white a (b ∷ l) = cond (is_white b) (found a l) missing

-- What a header says.
pub record Sizes : Type 0 where
  pub width : ℕ
  pub height : ℕ
  pub highest : ℕ

-- A header.
unfoldable pub header_of : List ℕ → Reading Sizes
header_of l =
    and_then (magic l) (λ (u : Unit {0}) (a : List ℕ).
    and_then (field_of a) (λ (w : ℕ) (b : List ℕ).
    and_then (field_of b) (λ (h : ℕ) (c : List ℕ).
    and_then (field_of c) (λ (top : ℕ) (d : List ℕ).
    one_white (record { width = w; height = h; highest = top }) d))))

-- Nothing was read.
unfoldable pub is_missing : {A : Type 0} → Reading A → Bool
is_missing missing = true
is_missing (found a l) = false

-- What was read, and what is left behind it; zeros and nothing where nothing was read, on which no answer rests, since that is refused.
unfoldable pub sizes_in : Reading Sizes → Sizes
sizes_in missing = record { width = 0; height = 0; highest = 0 }
sizes_in (found s l) = s

unfoldable pub rest_in : {A : Type 0} → Reading A → List ℕ
rest_in missing = []
rest_in (found s l) = l

-- ---- the checks by 02's numbers

-- 13: the header is malformed or cut short, or the place is past the end, so that nothing is left of the file there.
unfoldable pub malformed : Reading Sizes → Check
malformed r = record { fails = is_missing r; number = 13; values = [] }

-- 14: a highest value other than 255.
unfoldable pub other_highest : ℕ → Check
other_highest top = record { fails = not (eqb top 255); number = 14; values = [] }

-- 15: fewer samples than promised.
unfoldable pub samples_short : ℕ → ℕ → Check
samples_short n promised = record { fails = ltb n promised; number = 15; values = [] }

-- What is checked of a header that is well formed, behind which so many bytes are left.
unfoldable pub sizes_checks : Sizes → ℕ → List Check
sizes_checks s left =
    side_over s.width ∷ side_over s.height
    ∷ other_highest s.highest
    ∷ samples_short left (s.width * s.height) ∷ []

-- Reading an image at a place of a file.
unfoldable pub read_checks : List ℕ → ℕ → List Check
read_checks file at = let r = header_of (drop at file) in malformed r ∷ sizes_checks (sizes_in r) (length (rest_in r))

-- The image of a header, whose samples start at a place.
abbrev pub image_from : Sizes → ℕ → Image
image_from s start = record { width = s.width; height = s.height; start = start; next = start + s.width * s.height }

-- The image that is read at a place: its samples start where the header ends.
unfoldable pub image_read : List ℕ → ℕ → Image
image_read file at = let r = header_of (drop at file) in image_from (sizes_in r) (length file - length (rest_in r))

-- The reader's answer.
unfoldable pub read : List ℕ → ℕ → Answer Image
read file at = answer (read_checks file at) (image_read file at)

-- The part of a file from one place up to another; nothing where the places are not in order or not in the file.
unfoldable pub part_of : List ℕ → ℕ → ℕ → List ℕ
part_of file start next = cond (leb start next && leb next (length file)) (take (next - start) (drop start file)) []

-- An image's samples.
unfoldable pub samples_of : List ℕ → Image → List ℕ
samples_of file i = part_of file i.start i.next

-- A frame: its size and its samples.
pub record Frame : Type 0 where
  pub width : ℕ
  pub height : ℕ
  pub samples : List ℕ

-- The frame that an image of a file is.
unfoldable pub frame_of : List ℕ → Image → Frame
frame_of file i = record { width = i.width; height = i.height; samples = samples_of file i }

-- ---- the writer

-- A frame within 01's limits: sides of at most 8,192, and width times height samples.
pub record Within (f : Frame) : Type 0 where
  pub narrow : f.width ≤ 8192
  pub low : f.height ≤ 8192
  pub counted : length f.samples ≡ f.width * f.height

-- P5, line feed, width, blank, height, line feed, 255, line feed.
unfoldable pub header_bytes : ℕ → ℕ → List ℕ
header_bytes w h = 80 ∷ 53 ∷ 10 ∷ (decimal w ++ (32 ∷ (decimal h ++ (10 ∷ 50 ∷ 53 ∷ 53 ∷ 10 ∷ []))))

-- The file of a frame: the header, then its samples.
unfoldable pub pgm : Frame → List ℕ
pgm f = header_bytes f.width f.height ++ f.samples

-- 2: a buffer shorter than the file.
unfoldable pub room_short : ℕ → ℕ → Check
room_short room need = record { fails = ltb room need; number = 2; values = [] }

-- Writing a frame into a buffer of so many bytes.
unfoldable pub write_checks : Frame → ℕ → List Check
write_checks f room =
    side_over f.width ∷ side_over f.height
    ∷ wrong_length (length f.samples) (f.width * f.height)
    ∷ room_short room (length (pgm f)) ∷ []

-- The writer's answer: the file's length.
unfoldable pub write : Frame → ℕ → Answer ℕ
write f room = answer (write_checks f room) (length (pgm f))

-- What the buffer holds then: the file, and past it what it held.
unfoldable pub written : Frame → List ℕ → List ℕ
written f old = pgm f ++ drop (length (pgm f)) old
