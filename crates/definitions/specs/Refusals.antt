-- Which calls are refused, and how: for each call its checks in 01's order, each with 01's number and values. The first check
-- that fails refuses; a call with none that fails is accepted.
use Rattle.std.specs.Prelude.{ℕ, ◌*◌, ◌/◌, ◌%◌, ◌≡◌, Bool, cond, not, ◌&&◌, ◌||◌, List, [], ◌∷◌, ◌++◌, map, ltb, leb, eqb, ℤ, length, get_or, drop}
use Rattle.definitions.specs.Geometry.{Shift, in_i32}
use Rattle.definitions.specs.Shrink.{halved_samples}
use Rattle.definitions.specs.Bitmap.{bitmap_words, padding_set}
use Rattle.definitions.specs.Align.{levels, neighbour, walk, step_bytes, step_words, stack_need}

-- A check: the test that makes it fail, the number of its refusal, and the values that come with the number.
pub record Check : Type 0 where
  pub fails : Bool
  pub number : ℕ
  pub values : List ℕ

-- What a call answers: a value, or a refusal by 01's number with its values.
pub data Answer (A : Type 0) : Type 0 where
  accepted : A → Answer A
  refused : ℕ → List ℕ → Answer A

-- The answer of a call that has these checks and, accepted, this value.
unfoldable pub answer : {A : Type 0} → List Check → A → Answer A
answer [] a = accepted a
answer (c ∷ l) a = cond c.fails (refused c.number c.values) (answer l a)

-- What holds after a call that has these checks: the first if it is accepted, and else the second. For a buffer these are what
-- acceptance writes and what the buffer held before.
unfoldable pub after {ℓ} : {A : Type ℓ} → List Check → A → A → A
after [] new old = new
after (c ∷ l) new old = cond c.fails old (after l new old)

-- Scratch that is free in content as far as it is needed: its length stays, and so does what lies past the need.
pub record FreeUpTo (need : ℕ) (old new : List ℕ) : Type 0 where
  pub long : length new ≡ length old
  pub past : drop need new ≡ drop need old

-- The scratch of a call that has these checks: free up to the need if they pass, and else as it was.
abbrev pub Scratch : List Check → ℕ → List ℕ → List ℕ → Type 0
Scratch checks need old new = after checks (FreeUpTo need old new) (new ≡ old)

-- ---- the checks by 01's numbers

-- 1: a side over 8,192.
unfoldable pub side_over : ℕ → Check
side_over side = record { fails = ltb 8192 side; number = 1; values = [] }

-- Either side of a size is over 8,192.
unfoldable pub either_over : ℕ → ℕ → Bool
either_over w h = ltb 8192 w || ltb 8192 h

-- 2: a list or buffer of the wrong length.
unfoldable pub wrong_length : ℕ → ℕ → Check
wrong_length n right = record { fails = not (eqb n right); number = 2; values = [] }

-- 3: a percentile over 100.
unfoldable pub percentile_over : ℕ → Check
percentile_over p = record { fails = ltb 100 p; number = 3; values = [] }

-- Sizes that are not the same.
abbrev pub unequal : ℕ → ℕ → ℕ → ℕ → Bool
unequal w h w' h' = not (eqb w w' && eqb h h')

-- 4: sizes differ, with both sizes.
unfoldable pub sizes_differ : ℕ → ℕ → ℕ → ℕ → Check
sizes_differ w h w' h' = record { fails = unequal w h w' h'; number = 4; values = w ∷ h ∷ w' ∷ h' ∷ [] }

-- 5: no such reference, with the reference and the frame count.
unfoldable pub no_reference : ℕ → ℕ → Check
no_reference reference n = record { fails = leb n reference; number = 5; values = reference ∷ n ∷ [] }

-- 6: over 16 frames.
unfoldable pub frames_over : ℕ → Check
frames_over n = record { fails = ltb 16 n; number = 6; values = [] }

-- 7: scratch too short.
unfoldable pub scratch_short : ℕ → ℕ → Check
scratch_short n need = record { fails = ltb n need; number = 7; values = [] }

-- 8: a padding bit set.
unfoldable pub padded : List ℕ → ℕ → ℕ → Check
padded words w h = record { fails = ltb 0 (padding_set words w h); number = 8; values = [] }

-- 9: a reach over 64.
unfoldable pub reach_over : ℕ → Check
reach_over r = record { fails = ltb 64 r; number = 9; values = [] }

-- 10: record space too short, with the number of records needed.
unfoldable pub space_short : ℕ → ℕ → Check
space_short space needed = record { fails = ltb space (20 * needed); number = 10; values = needed ∷ [] }

-- 11: a pixel outside: a column or a row that is not below its side.
unfoldable pub pixel_outside : ℕ → ℕ → Check
pixel_outside place side = record { fails = leb side place; number = 11; values = [] }

-- 12: a coordinate outside i32.
unfoldable pub coordinate_outside : ℤ → Check
coordinate_outside z = record { fails = not (in_i32 z); number = 12; values = [] }

-- ---- the calls, each by its sizes and lengths

-- Grey from RGB.
unfoldable pub from_rgb_checks : ℕ → ℕ → ℕ → ℕ → List Check
from_rgb_checks w h rgb out = side_over w ∷ side_over h ∷ wrong_length rgb (3 * (w * h)) ∷ wrong_length out (w * h) ∷ []

-- Halving into a buffer of the halved size.
unfoldable pub shrink_checks : ℕ → ℕ → ℕ → ℕ → List Check
shrink_checks w h samples out = side_over w ∷ side_over h ∷ wrong_length samples (w * h) ∷ wrong_length out (w / 2 * (h / 2)) ∷ []

-- Moving an image.
unfoldable pub shifted_checks : ℕ → ℕ → ℕ → ℕ → List Check
shifted_checks w h samples out = side_over w ∷ side_over h ∷ wrong_length samples (w * h) ∷ wrong_length out (w * h) ∷ []

-- The cut.
unfoldable pub cut_checks : ℕ → ℕ → ℕ → ℕ → List Check
cut_checks w h samples percentile = side_over w ∷ side_over h ∷ wrong_length samples (w * h) ∷ percentile_over percentile ∷ []

-- Packing into a threshold and an exclusion bitmap.
unfoldable pub packing_checks : ℕ → ℕ → ℕ → ℕ → ℕ → ℕ → List Check
packing_checks w h samples threshold exclusion percentile =
    side_over w ∷ side_over h
    ∷ wrong_length samples (w * h) ∷ wrong_length threshold (bitmap_words w h) ∷ wrong_length exclusion (bitmap_words w h)
    ∷ percentile_over percentile ∷ []

-- Counting two packed pairs: a reference of w by h and a target of w' by h'.
unfoldable pub counting_checks : ℕ → ℕ → ℕ → ℕ → List ℕ → List ℕ → List ℕ → List ℕ → List Check
counting_checks w h w' h' threshold exclusion threshold' exclusion' =
    side_over w ∷ side_over h ∷ side_over w' ∷ side_over h'
    ∷ sizes_differ w h w' h'
    ∷ wrong_length (length threshold) (bitmap_words w h) ∷ wrong_length (length exclusion) (bitmap_words w h)
    ∷ wrong_length (length threshold') (bitmap_words w h) ∷ wrong_length (length exclusion') (bitmap_words w h)
    ∷ padded threshold w h ∷ padded exclusion w h ∷ padded threshold' w h ∷ padded exclusion' w h ∷ []

-- Reading or setting the pixel of column x and row y.
unfoldable pub pixel_checks : ℕ → ℕ → ℕ → ℕ → ℕ → List Check
pixel_checks w h words x y = side_over w ∷ side_over h ∷ wrong_length words (bitmap_words w h) ∷ pixel_outside x w ∷ pixel_outside y h ∷ []

-- The total of set bits.
unfoldable pub total_checks : ℕ → ℕ → List ℕ → List Check
total_checks w h words = side_over w ∷ side_over h ∷ wrong_length (length words) (bitmap_words w h) ∷ padded words w h ∷ []

-- Row y of a bitmap: wherever one of these fails, the empty part.
unfoldable pub row_checks : ℕ → ℕ → ℕ → ℕ → List Check
row_checks w h words y = side_over w ∷ side_over h ∷ wrong_length words (bitmap_words w h) ∷ pixel_outside y h ∷ []

-- Doubling or offsetting a shift, by the coordinates that it would have.
unfoldable pub shift_checks : Shift → List Check
shift_checks s = coordinate_outside s.x ∷ coordinate_outside s.y ∷ []

-- Filling a frame's pyramid, and asking for a level, which gives the empty part wherever one of these fails.
unfoldable pub pyramid_checks : ℕ → ℕ → ℕ → ℕ → ℕ → List Check
pyramid_checks w h samples bits scratch =
    side_over w ∷ side_over h ∷ wrong_length samples (w * h) ∷ scratch_short scratch (halved_samples w h (levels w h bits)) ∷ []

-- Asking how much scratch a step needs.
unfoldable pub need_checks : ℕ → ℕ → List Check
need_checks w h = side_over w ∷ side_over h ∷ []

-- The crop of a shift list: its length has to be even.
unfoldable pub crop_checks : ℕ → ℕ → ℕ → List Check
crop_checks w h n = side_over w ∷ side_over h ∷ record { fails = eqb (n % 2) 1; number = 2; values = [] } ∷ []

-- The step of two frames: a reference of w by h at percentile p and a target of w' by h' at p', with the lengths of their samples and
-- of the scratch.
unfoldable pub step_checks : ℕ → ℕ → ℕ → ℕ → ℕ → ℕ → ℕ → ℕ → ℕ → ℕ → ℕ → List Check
step_checks w h p w' h' p' bits reference target bytes words =
    side_over w ∷ side_over h ∷ side_over w' ∷ side_over h'
    ∷ percentile_over p ∷ percentile_over p'
    ∷ sizes_differ w h w' h'
    ∷ wrong_length reference (w * h) ∷ wrong_length target (w * h)
    ∷ scratch_short bytes (step_bytes w h bits) ∷ scratch_short words (step_words w h) ∷ []

-- 4 for a pair of the walk, with both sizes, the neighbour's first, and the later-walked frame's number.
unfoldable pub pair_differs : List ℕ → List ℕ → ℕ → ℕ → Check
pair_differs widths heights reference k =
    let j = neighbour reference k in
    let w = get_or widths j 0 in
    let h = get_or heights j 0 in
    let w' = get_or widths k 0 in
    let h' = get_or heights k 0 in
    record { fails = unequal w h w' h'; number = 4; values = w ∷ h ∷ w' ∷ h' ∷ k ∷ [] }

-- What a stack and a report check of their frames, the first unequal pair of the walk last.
unfoldable pub frames_checks : List ℕ → List ℕ → List ℕ → ℕ → List Check
frames_checks widths heights percentiles reference =
    frames_over (length widths) ∷ frames_over (length heights)
    ∷ wrong_length (length heights) (length widths) ∷ wrong_length (length percentiles) (length widths)
    ∷ map side_over widths ++ map side_over heights
    ++ map percentile_over percentiles
    ++ no_reference reference (length widths)
    ∷ map (pair_differs widths heights reference) (walk reference (length widths))

-- The scratch of n frames, the first of which has the size that all have once the pairs of the walk are equal.
unfoldable pub stack_scratch_checks : ℕ → ℕ → ℕ → ℕ → ℕ → ℕ → List Check
stack_scratch_checks n w h bits bytes words =
    scratch_short bytes (stack_need n (step_bytes w h bits)) ∷ scratch_short words (stack_need n (step_words w h)) ∷ []

-- The stack, with the lengths of its samples, its shift list and its scratch.
unfoldable pub stack_checks : List ℕ → List ℕ → List ℕ → ℕ → ℕ → ℕ → ℕ → ℕ → ℕ → List Check
stack_checks widths heights percentiles reference bits samples shift_list bytes words =
    let n = length widths in
    let w = get_or widths 0 0 in
    let h = get_or heights 0 0 in
    frames_checks widths heights percentiles reference
    ++ wrong_length samples (n * (w * h)) ∷ wrong_length shift_list (2 * n)
    ∷ stack_scratch_checks n w h bits bytes words

-- The report up to its scratch: as the stack, the verdict list after the shift list, and 9 before 7. What fails here leaves the scratch alone.
unfoldable pub survey_checks : List ℕ → List ℕ → List ℕ → ℕ → ℕ → ℕ → ℕ → ℕ → ℕ → ℕ → ℕ → List Check
survey_checks widths heights percentiles reference bits samples shift_list verdict_list reach bytes words =
    let n = length widths in
    let w = get_or widths 0 0 in
    let h = get_or heights 0 0 in
    frames_checks widths heights percentiles reference
    ++ wrong_length samples (n * (w * h)) ∷ wrong_length shift_list (2 * n) ∷ wrong_length verdict_list n
    ∷ reach_over reach
    ∷ stack_scratch_checks n w h bits bytes words

-- The report: after all these, 10, with the records that it needs and the length of the record space.
unfoldable pub report_checks : List Check → ℕ → ℕ → List Check
report_checks before needed space = before ++ space_short space needed ∷ []
