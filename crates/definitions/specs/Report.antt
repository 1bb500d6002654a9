-- The report: the rivals of each step, their records as bytes and back, and the verdicts.
use Rattle.std.specs.Prelude.{ℕ, suc, ◌+◌, ◌-◌, ◌*◌, ◌/◌, ◌%◌, ◌≤◌, ◌<◌, max, ◌≡◌, Bool, cond, not, ◌&&◌, List, [], ◌∷◌, ◌++◌, map, ltb, leb, eqb, ℤ}
use Rattle.std.specs.Prelude.{pos, negsuc, nat_abs, ◌+ℤ◌, ◌-ℤ◌, length, get_or, ◌<ℤ◌}
use Rattle.definitions.specs.Sum.{sum}
use Rattle.definitions.specs.Build.{build, joined, image, keep_if}
use Rattle.definitions.specs.Geometry.{Shift, Rect, common_crop}
use Rattle.definitions.specs.Difference.{Counts}
use Rattle.definitions.specs.Align.{Stack, exposure, counts_at, neighbour, step_of, shifts}

-- ---- a survey: the shifts around a centre that come close enough

-- What a survey asks: around which centre and how far from it, how many pixels a shift has to compare, and in how many it may disagree.
pub record Question : Type 0 where
  pub centre : Shift
  pub reach : ℕ
  pub floor : ℕ
  pub limit : ℕ

-- 02's "neighbour shift" of a centre: another shift within one pixel of it on both axes. There are eight.
pub record NeighbourShift (centre s : Shift) : Type 0 where
  pub other : s ≡ centre → ⊥
  pub across : nat_abs (s.x -ℤ centre.x) ≤ 1
  pub down : nat_abs (s.y -ℤ centre.y) ≤ 1

-- 01's "rival": within the reach of the centre on both axes, compares at least the floor, disagrees in at most the limit. By 02 no
-- neighbour shift is one; the centre can be.
pub record Rival (at : Shift → Counts) (u : Question) (s : Shift) : Type 0 where
  pub across : nat_abs (s.x -ℤ u.centre.x) ≤ u.reach
  pub down : nat_abs (s.y -ℤ u.centre.y) ≤ u.reach
  pub compares : u.floor ≤ (at s).compared
  pub disagrees : (at s).disagreeing ≤ u.limit
  pub no_neighbour_shift : NeighbourShift u.centre s → ⊥

-- The shifts within the reach of a centre: row by row from the top, each from the left, so y rises, then x.
unfoldable pub window : Shift → ℕ → List Shift
window c reach =
    let side = suc (2 * reach) in
    image side side (λ (i j : ℕ). record { x = (c.x -ℤ pos reach) +ℤ pos i; y = (c.y -ℤ pos reach) +ℤ pos j })

-- How many pixels a shift lies away from a centre, along the axis where it lies farther.
unfoldable pub distance : Shift → Shift → ℕ
distance c s = max (nat_abs (s.x -ℤ c.x)) (nat_abs (s.y -ℤ c.y))

-- The test of a neighbour shift: it lies one pixel away.
unfoldable pub is_neighbour_shift : Shift → Shift → Bool
is_neighbour_shift c s = eqb (distance c s) 1

-- Both counts at a shift come close enough.
unfoldable pub comes_close : Question → Counts → Bool
comes_close u n = leb u.floor n.compared && leb n.disagreeing u.limit

-- The test that a shift of the window has to pass.
unfoldable pub is_rival : (Shift → Counts) → Question → Shift → Bool
is_rival at u s = not (is_neighbour_shift u.centre s) && comes_close u (at s)

-- The rivals in order.
unfoldable pub survey : (Shift → Counts) → Question → List Shift
survey at u = keep_if (is_rival at u) (window u.centre u.reach)

-- ---- the report's use of it: around a frame's step, up to m more than the step disagrees in

-- 01's r, f and m.
pub record Terms : Type 0 where
  pub reach : ℕ
  pub floor : ℕ
  pub margin : ℕ

-- Both counts of frame k, as the target, against its neighbour: the whole frames at full size, each cut by itself.
unfoldable pub frame_counts : Stack → ℕ → Shift → Counts
frame_counts a k s = counts_at a.options a.width a.height (exposure a (neighbour a.reference k)) (exposure a k) 0 s

-- What a rival of frame k may disagree in: m more than the step. Numbers here do not wrap.
unfoldable pub limit_of : Stack → Terms → ℕ → ℕ
limit_of a q k = (frame_counts a k (step_of a k)).disagreeing + q.margin

-- What the survey of frame k asks.
abbrev pub question_of : Stack → Terms → ℕ → Question
question_of a q k = record { centre = step_of a k; reach = q.reach; floor = q.floor; limit = limit_of a q k }

-- A shift is a rival of frame k.
abbrev pub RivalOf : Stack → Terms → ℕ → Shift → Type 0
RivalOf a q k s = Rival (frame_counts a k) (question_of a q k) s

-- The rivals of frame k in order: y rises, then x. The reference has none.
unfoldable pub rivals : Stack → Terms → ℕ → List Shift
rivals a q k = cond (eqb k a.reference) [] (survey (frame_counts a k) (question_of a q k))

-- ---- records

-- A record names a frame and a shift relative to its neighbour, with both counts.
pub record Record : Type 0 where
  pub frame : ℕ
  pub shift : Shift
  pub counts : Counts

-- A record stands before another: frames rise, then y, then x.
pub data Before (d e : Record) : Type 0 where
  by_frame : d.frame < e.frame → Before d e
  by_row : d.frame ≡ e.frame → d.shift.y <ℤ e.shift.y → Before d e
  by_column : d.frame ≡ e.frame → d.shift.y ≡ e.shift.y → d.shift.x <ℤ e.shift.x → Before d e

-- The records of frame k.
unfoldable pub frame_records : Stack → Terms → ℕ → List Record
frame_records a q k = map (λ (s : Shift). record { frame = k; shift = s; counts = frame_counts a k s }) (rivals a q k)

-- The records of a report: frames rise.
unfoldable pub records : Stack → Terms → List Record
records a q = joined a.frames (frame_records a q)

-- The number of records that a report needs: the rivals of all frames.
unfoldable pub records_needed : Stack → Terms → ℕ
records_needed a q = sum a.frames (λ (k : ℕ). length (rivals a q k))

-- A number of 32 bits as four bytes, low byte first. Of a greater one the low 32 bits.
unfoldable pub bytes32 : ℕ → List ℕ
bytes32 n = n % 256 ∷ n / 256 % 256 ∷ n / 65536 % 256 ∷ n / 16777216 % 256 ∷ []

-- A coordinate as a number of 32 bits, by two's complement: for -2,147,483,648 to 2,147,483,647, as shifts are.
unfoldable pub twos_complement : ℤ → ℕ
twos_complement (pos n) = n
twos_complement (negsuc n) = 4294967295 - n

-- The 20 bytes of a record: frame, x, y, disagreeing, compared.
unfoldable pub record_bytes : Record → List ℕ
record_bytes e =
    bytes32 e.frame
    ++ bytes32 (twos_complement e.shift.x) ++ bytes32 (twos_complement e.shift.y)
    ++ bytes32 e.counts.disagreeing ++ bytes32 e.counts.compared

-- The bytes of some records, one after another.
unfoldable pub records_bytes : List Record → List ℕ
records_bytes [] = []
records_bytes (e ∷ l) = record_bytes e ++ records_bytes l

-- ---- records read back from bytes

-- Field f of record i, of the five in order: 32 bits, low byte first.
unfoldable pub field_of : List ℕ → ℕ → ℕ → ℕ
field_of bytes i f =
    let at = 20 * i + 4 * f in
    get_or bytes at 0 + 256 * get_or bytes (at + 1) 0 + 65536 * get_or bytes (at + 2) 0 + 16777216 * get_or bytes (at + 3) 0

-- 32 bits as a whole number, by two's complement.
unfoldable pub signed_of : ℕ → ℤ
signed_of n = cond (ltb n 2147483648) (pos n) (negsuc (4294967295 - n))

-- Record i.
unfoldable pub record_at : List ℕ → ℕ → Record
record_at bytes i = record {
  frame = field_of bytes i 0;
  shift = record { x = signed_of (field_of bytes i 1); y = signed_of (field_of bytes i 2) };
  counts = record { disagreeing = field_of bytes i 3; compared = field_of bytes i 4 };
}

-- ---- verdicts

-- 01's verdict on frame k: 0 reference; 1 weak, the step compares fewer than f; 2 alone, the step is the only rival; 3 contested.
-- A step that is not weak is a rival itself, so that one rival is the step.
unfoldable pub verdict : Stack → Terms → ℕ → ℕ
verdict a q k =
    cond (eqb k a.reference) 0
    (cond (ltb (frame_counts a k (step_of a k)).compared q.floor) 1
    (cond (eqb (length (rivals a q k)) 1) 2 3))

-- The verdicts, a byte a frame.
unfoldable pub verdicts : Stack → Terms → List ℕ
verdicts a q = build a.frames (verdict a q)

-- The crop of a report: that of the stack's shifts.
unfoldable pub report_crop : Stack → Rect
report_crop a = common_crop (shifts a) a.width a.height
