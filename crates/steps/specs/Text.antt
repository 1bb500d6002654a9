-- The text that the program stacksteps prints, by document 01's paragraph on the program. A text is a list of ASCII codes.
use Rattle.std.specs.Prelude.{ℕ, zero, suc, ◌/◌, ◌%◌, Bool, cond, not, ◌||◌, List, [], ◌∷◌, ◌++◌, ltb, eqb, ℤ, pos, negsuc, length, replicate}
use Prim.Native.Char.{code}
use Prim.Native.String.{String, [] as []ˢ, ◌∷◌ as ◌∷ˢ◌}
use Rattle.definitions.specs.Build.{joined}
use Rattle.definitions.specs.Decimal.{decimal}
use Rattle.definitions.specs.Geometry.{Shift, Rect}
use Rattle.definitions.specs.Shrink.{average}
use Rattle.definitions.specs.Align.{Options, Stack, stack_of, shift_of}
use Rattle.definitions.specs.Report.{Terms, Record, frame_records, verdict, report_crop}

-- ---- words and lines

-- The codes of a text's characters.
unfoldable pub ascii : String → List ℕ
ascii []ˢ = []
ascii (c ∷ˢ s) = code c ∷ ascii s

-- A whole number, with a minus sign where it is negative.
unfoldable pub integer : ℤ → List ℕ
integer (pos n) = decimal n
integer (negsuc n) = ascii "-" ++ decimal (suc n)

-- A line: its words with a blank between two, and the line's end.
unfoldable pub line : List (List ℕ) → List ℕ
line [] = ascii "\n"
line (w ∷ []) = w ++ ascii "\n"
line (w ∷ v ∷ l) = w ++ (ascii " " ++ line (v ∷ l))

-- ---- a report

-- Line 1: the frame count, and the crop's x, y, width and height.
unfoldable pub heading : ℕ → Rect → List ℕ
heading n r = line (ascii "frames" ∷ decimal n ∷ ascii "crop" ∷ decimal r.x ∷ decimal r.y ∷ decimal r.width ∷ decimal r.height ∷ [])

-- 01's word for a verdict.
unfoldable pub verdict_word : ℕ → List ℕ
verdict_word zero = ascii "reference"
verdict_word (suc zero) = ascii "weak"
verdict_word (suc (suc zero)) = ascii "alone"
verdict_word (suc (suc (suc v))) = ascii "contested"

-- A frame's line: number, total shift, verdict, record count.
unfoldable pub frame_line : ℕ → Shift → ℕ → ℕ → List ℕ
frame_line k s v records = line (decimal k ∷ integer s.x ∷ integer s.y ∷ verdict_word v ∷ decimal records ∷ [])

-- A record's line, its fields in order: frame, x, y, disagreeing, compared.
unfoldable pub record_line : Record → List ℕ
record_line e =
    line (decimal e.frame ∷ integer e.shift.x ∷ integer e.shift.y ∷ decimal e.counts.disagreeing ∷ decimal e.counts.compared ∷ [])

-- The lines of some records.
unfoldable pub lines_of_records : List Record → List ℕ
lines_of_records [] = []
lines_of_records (e ∷ l) = record_line e ++ lines_of_records l

-- A frame's line with that of each of its records.
unfoldable pub frame_text : Stack → Terms → ℕ → List ℕ
frame_text a q k =
    let l = frame_records a q k in
    frame_line k (shift_of a k) (verdict a q k) (length l) ++ lines_of_records l

-- The report of a stack.
unfoldable pub report_text : Stack → Terms → List ℕ
report_text a q = heading a.frames (report_crop a) ++ joined a.frames (frame_text a q)

-- ---- the program

-- Bits 6, tolerance 4, Average.
abbrev pub input_options : Options
input_options = record { bits = 6; tolerance = 4; shrink = average }

-- The input as frames of 64 by 64, one after another: reference 0, percentile 50 for each.
unfoldable pub input_stack : List ℕ → Stack
input_stack input =
    let frames = length input / 4096 in
    let sides : List ℕ = replicate frames 64 in
    stack_of sides sides (replicate frames 50) input 0 input_options

-- r 1, f 1, m 0.
abbrev pub input_terms : Terms
input_terms = record { reach = 1; floor = 1; margin = 0 }

-- An incomplete frame, or a ninth.
unfoldable pub is_bad_input : List ℕ → Bool
is_bad_input input = not (eqb (length input % 4096) 0) || ltb 32768 (length input)

-- A refusal by its number.
unfoldable pub refusal_text : ℕ → List ℕ
refusal_text number = line (ascii "refused" ∷ decimal number ∷ [])

-- What the program prints. Of no frames there is no reference, which is 5; no other refusal can come.
unfoldable pub text : List ℕ → List ℕ
text input =
    cond (is_bad_input input) (line (ascii "bad input" ∷ []))
    (cond (eqb (length input) 0) (refusal_text 5)
    (report_text (input_stack input) input_terms))
