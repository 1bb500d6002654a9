-- No text is longer than 8,192 bytes.
use mathlib.Core.Path.{◌≡◌, refl, ap}
use mathlib.Core.List.{List, [], ◌∷◌, ◌++◌, map, Memᴰ}
use mathlib.Core.Logic.{⊎_elim}
use Prim.Native.Nat.{ℕ, zero, suc, ◌+◌, ◌*◌, ◌/◌, ◌%◌, ◌^◌, ◌≤◌, ◌<◌}
use native.Mathlib.Omega.{arith}
use lib.IntN.{ℤ, pos, negsuc, nat_abs}
use lib.ListN.{length, length-append, length-map}
use Rattle.definitions.specs.Build.{build, joined}
use Rattle.definitions.specs.Decimal.{decimal}
use Rattle.definitions.specs.Geometry.{Shift, origin, ahead, largest, common_crop}
use Rattle.definitions.specs.Align.{Stack, shift_of, shifts}
use Rattle.definitions.specs.Report.{Record, frame_counts, rivals, frame_records, records, verdict, report_crop}
use Rattle.laws.specs.general.Cases.{lt_or_le, eq_or_ne}
use Rattle.laws.specs.general.Decimals.{decimal_few}
use Rattle.laws.specs.images.Crop.{largest_le}
use Rattle.laws.specs.general.Lists.{build_at, build_length}
use Rattle.laws.specs.general.Members.{in_joined, joined_sum}
use Rattle.laws.specs.search.StepBounds.{abs_parts, shift_small}
use Rattle.laws.specs.general.Sums.{sum_le}
use Rattle.laws.specs.report.Verdicts.{near_few}
use Rattle.steps.specs.Text.{ascii, integer, line, heading, verdict_word, frame_line, record_line, lines_of_records, frame_text, report_text, input_terms, refusal_text, text}
use Rattle.steps.proofs.Called.{Few, Short, small, short, few_from, stack_from, text_long, text_part, text_none, text_report}

-- ---- words

integer_few : (z : ℤ) (k : ℕ) → nat_abs z < 10 ^ suc k → length (integer z) ≤ suc (suc k)
unfolding integer ascii
integer_few (pos n) k h = omega (arith, decimal_few k n h)
integer_few (negsuc n) k h = omega (arith, decimal_few k (suc n) h)

word_few : (v : ℕ) → length (verdict_word v) ≤ 9
unfolding verdict_word ascii
word_few zero = omega arith
word_few (suc zero) = omega arith
word_few (suc (suc zero)) = omega arith
word_few (suc (suc (suc v))) = omega arith

-- ---- lines

-- the words of a line, each with what ends it
abbrev total : List (List ℕ) → ℕ
total [] = 0
total (w ∷ l) = suc (length w + total l)

line_long : (w : List ℕ) (l : List (List ℕ)) → length (line (w ∷ l)) ≡ total (w ∷ l)
unfolding line ascii
line_long w [] = omega (arith, length-append w (ascii "\n"))
line_long w (v ∷ l) = omega (arith, length-append w (ascii " " ++ line (v ∷ l)), line_long v l)

record_few : (e : Record) → Short e → length (record_line e) ≤ 24
unfolding record_line
record_few e h =
    omega (
      arith,
      line_long (decimal e.frame) (integer e.shift.x ∷ integer e.shift.y ∷ decimal e.counts.disagreeing ∷ decimal e.counts.compared ∷ []),
      decimal_few 0 e.frame (omega (arith, h.frame)),
      integer_few e.shift.x 3 (omega (arith, h.across)),
      integer_few e.shift.y 3 (omega (arith, h.down)),
      decimal_few 3 e.counts.disagreeing (omega (arith, h.disagreeing)),
      decimal_few 3 e.counts.compared (omega (arith, h.compared)),
    )

lines_few : (l : List Record) → ((e : Record) → Memᴰ e l → Short e) → length (lines_of_records l) ≤ length l * 24
unfolding lines_of_records
lines_few [] h = omega arith
lines_few (e ∷ l) h =
    omega (arith, length-append (record_line e) (lines_of_records l), record_few e (h e (Memᴰ.head refl)), lines_few l (λ x m. h x (Memᴰ.tail m)))

-- ---- a report

known : (length (ascii "frames") ≡ 6) × (length (ascii "crop") ≡ 4)
unfolding ascii
known = (refl, refl)

module _ (a : Stack) (few : Few a) where
  frame_number : (k : ℕ) → length (frame_records a input_terms k) ≤ 1
  unfolding frame_records
  frame_number k = omega (arith, length-map {B = Record} (rivals a input_terms k) (λ (s : Shift). record { frame = k; shift = s; counts = frame_counts a k s }), near_few a input_terms k (omega arith))

  of_report : (k : ℕ) → k < a.frames → (e : Record) → Memᴰ e (frame_records a input_terms k) → Memᴰ e (records a input_terms)
  unfolding records
  of_report k h e m = in_joined a.frames (frame_records a input_terms) k h m

  frame_few : (k : ℕ) → k < a.frames → length (frame_text a input_terms k) ≤ 54
  unfolding frame_text frame_line
  frame_few k h =
      let l = frame_records a input_terms k in
      let s = shift_of a k in
      let within = shift_small a (small a few) k h in
      let number : length l ≤ 1 = frame_number k in
      omega (
        arith,
        length-append (frame_line k s (verdict a input_terms k) (length l)) (lines_of_records l),
        line_long (decimal k) (integer s.x ∷ integer s.y ∷ verdict_word (verdict a input_terms k) ∷ decimal (length l) ∷ []),
        decimal_few 0 k (omega (arith, few.most)),
        integer_few s.x 5 (omega (arith, within.across)),
        integer_few s.y 5 (omega (arith, within.down)),
        word_few (verdict a input_terms k),
        decimal_few 0 (length l) (omega arith),
        lines_few l (λ e m. short a few e (of_report k h e m)),
      )

  start_few : (c : Shift → ℤ) → ((k : ℕ) → k < a.frames → nat_abs (c (shift_of a k)) ≤ 122865) → largest ahead (map c (build a.frames (shift_of a))) ≤ 122865
  start_few c h = largest_le c ahead (build a.frames (shift_of a)) 122865 (λ i b.
      let l : i < a.frames = omega (arith, build_length a.frames (shift_of a)) in
      omega (arith, ap (λ (s : Shift). ahead (c s)) (build_at a.frames (shift_of a) i origin l), abs_parts (c (shift_of a i)), h i l))

  crop_few : let r = report_crop a in (r.x ≤ 122865) × (r.y ≤ 122865) × (r.width ≤ 64) × (r.height ≤ 64)
  unfolding report_crop common_crop shifts
  crop_few = (
    start_few (λ (s : Shift). s.x) (λ k h. (shift_small a (small a few) k h).across),
    start_few (λ (s : Shift). s.y) (λ k h. (shift_small a (small a few) k h).down),
    omega (arith, few.wide),
    omega (arith, few.high),
  )

  report_few : length (report_text a input_terms) ≤ 466
  unfolding report_text heading
  report_few =
      let r = report_crop a in
      let crop = crop_few in
      omega (
        arith,
        length-append (heading a.frames r) (joined a.frames (frame_text a input_terms)),
        line_long (ascii "frames") (decimal a.frames ∷ ascii "crop" ∷ decimal r.x ∷ decimal r.y ∷ decimal r.width ∷ decimal r.height ∷ []),
        known,
        decimal_few 0 a.frames (omega (arith, few.most)),
        decimal_few 5 r.x (omega arith),
        decimal_few 5 r.y (omega arith),
        decimal_few 1 r.width (omega arith),
        decimal_few 1 r.height (omega arith),
        joined_sum a.frames (frame_text a input_terms),
        sum_le a.frames 54 (λ (k : ℕ). length (frame_text a input_terms k)) frame_few,
        few.most,
      )

-- ---- the text

bad_few : length (line (ascii "bad input" ∷ [])) ≤ 8192
unfolding line ascii
bad_few = omega arith

refusal_few : length (refusal_text 5) ≤ 8192
unfolding refusal_text line ascii
refusal_few = omega (arith, length-append (decimal 5) (ascii "\n"), decimal_few 0 5 (omega arith))

pub text_fits : (input : List ℕ) → length (text input) ≤ 8192
text_fits input = ⊎_elim
    (λ (h : 32768 < length input). omega (arith, ap length (text_long input h), bad_few))
    (λ (h : length input ≤ 32768). ⊎_elim (whole h) (λ (ne : length input % 4096 ≡ 0 → ⊥). omega (arith, ap length (text_part input ne), bad_few)) (eq_or_ne (length input % 4096) 0))
    (lt_or_le 32768 (length input))
  where
    whole : length input ≤ 32768 → length input % 4096 ≡ 0 → length (text input) ≤ 8192
    whole h e =
        let n = length input / 4096 in
        let p : length input ≡ n * 4096 = omega arith in
        let q : n ≤ 8 = omega arith in
        ⊎_elim
        (λ (l : 0 < n). omega (arith, ap length (text_report input n p q l), report_few (stack_from n input) (few_from n input l q)))
        (λ (l : n ≤ 0). let z : n ≡ 0 = omega arith in omega (arith, ap length (text_none input n p q z), refusal_few))
        (lt_or_le 0 n)
