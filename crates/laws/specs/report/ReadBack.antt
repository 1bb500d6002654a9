-- The records of a report read back from their bytes: within 01's limits 32 bits hold every number, so that nothing is lost.
use Rattle.std.specs.Prelude.{◌≡◌, refl, Bool, true, cond, ℤ, pos, negsuc, nat_abs, ◌-ℤ◌, length}
use Rattle.std.proofs.Common.{sym, ap, ◌∙◌, not-suc-le-zero, mul-le-mul, arith, lt-ltb, le-ltb, get_or-append-add}
use Rattle.std.proofs.Math.Bool.{and-eq-true_iff}
use mathlib.Core.List.{List, [], ◌∷◌, ◌++◌, append_assoc, Memᴰ}
use Prim.Native.Nat.{ℕ, zero, suc, ◌+◌, ◌-◌, ◌*◌, ◌/◌, ◌%◌, ◌≤◌, ◌<◌}
use Rattle.std.proofs.Math.ListN.{get_or}
use Rattle.std.specs.Int.Signed.{le_z}
use Rattle.definitions.specs.Build.{build}
use Rattle.definitions.specs.Geometry.{ahead, behind, in_i32}
use Rattle.definitions.specs.Difference.{Counts}
use Rattle.definitions.specs.Align.{Stack, step_of}
use Rattle.definitions.specs.Report.{Terms, Record, records, bytes32, twos_complement, record_bytes, records_bytes, field_of, signed_of, record_at}
use Rattle.laws.specs.general.Lists.{build_is}
use Rattle.laws.specs.bitmaps.CountBounds.{frame_counts_few}
use Rattle.laws.specs.report.RecordBytes.{record_length}
use Rattle.laws.specs.report.Records.{records_name}
use Rattle.laws.specs.search.StepBounds.{Within, Small, step_of_small, abs_parts}
use Rattle.laws.specs.general.Whole.{alone, minus, le_true, true_le}

-- ---- one number

-- four bytes are their number
digits : (n a b c r s t : ℕ) → n ≡ 256 * a + r → a ≡ 256 * b + s → b ≡ 256 * c + t → r + 256 * s + 65536 * t + 16777216 * c ≡ n
digits n a b c r s t p q u = omega arith

four : (n : ℕ) → n < 4294967296 → n % 256 + 256 * (n / 256 % 256) + 65536 * (n / 65536 % 256) + 16777216 * (n / 16777216 % 256) ≡ n
four n h =
    let top : n / 16777216 % 256 ≡ n / 16777216 = omega arith in
    ap (λ (k : ℕ). n % 256 + 256 * (n / 256 % 256) + 65536 * (n / 65536 % 256) + 16777216 * k) top
    ∙ digits n (n / 256) (n / 65536) (n / 16777216) (n % 256) (n / 256 % 256) (n / 65536 % 256) (omega arith) (omega arith) (omega arith)

-- the range of an i32, by the two parts of a coordinate
parts : (z : ℤ) → in_i32 z ≡ true → (ahead z < 2147483648) × (behind z ≤ 2147483648)
unfolding in_i32
parts z h =
    let both = (and-eq-true_iff (le_z (negsuc 2147483647) z) (le_z z (pos 2147483647))).0 h in
    (omega (arith, le_true z (pos 2147483647) both.1, alone z), omega (arith, le_true (negsuc 2147483647) z both.0, alone z))

near_i32 : (z : ℤ) → nat_abs z ≤ 2147483647 → in_i32 z ≡ true
unfolding in_i32
near_i32 z h = (and-eq-true_iff (le_z (negsuc 2147483647) z) (le_z z (pos 2147483647))).1
    (true_le (negsuc 2147483647) z (omega (arith, abs_parts z)), true_le z (pos 2147483647) (omega (arith, abs_parts z)))

-- two's complement has 32 bits, and is undone
complement_held : (z : ℤ) → in_i32 z ≡ true → twos_complement z < 4294967296
unfolding twos_complement
complement_held (pos n) h = omega (arith, parts (pos n) h)
complement_held (negsuc n) h = omega arith

pub signed : (z : ℤ) → in_i32 z ≡ true → signed_of (twos_complement z) ≡ z
unfolding signed_of twos_complement
signed (pos n) h = ap (λ (t : Bool). cond t (pos n) (negsuc (4294967295 - n))) (lt-ltb n 2147483648 (parts (pos n) h).0)
signed (negsuc n) h =
    let m = 4294967295 - n in
    let b = (parts (negsuc n) h).1 in
    let e : 4294967295 - m ≡ n = omega (arith, b) in
    ap (λ (t : Bool). cond t (pos m) (negsuc (4294967295 - m))) (le-ltb m 2147483648 (omega (arith, b))) ∙ ap negsuc e

-- ---- one record

-- a record each of whose numbers its 32 bits hold
pub record Held (e : Record) : Type 0 where
  pub frame : e.frame < 4294967296
  pub across : in_i32 e.shift.x ≡ true
  pub down : in_i32 e.shift.y ≡ true
  pub disagreeing : e.counts.disagreeing < 4294967296
  pub compared : e.counts.compared < 4294967296

-- the first record
first : (e : Record) (rest : List ℕ) → Held e → record_at (record_bytes e ++ rest) 0 ≡ e
unfolding record_at field_of record_bytes bytes32
first e rest h =
    let coordinate : (z : ℤ) → in_i32 z ≡ true
    → signed_of (let n = twos_complement z in n % 256 + 256 * (n / 256 % 256) + 65536 * (n / 65536 % 256) + 16777216 * (n / 16777216 % 256)) ≡ z
    = λ z i. ap signed_of (four (twos_complement z) (complement_held z i)) ∙ signed z i in
    λ i. record {
      frame = four e.frame h.frame i;
      shift = record { x = coordinate e.shift.x h.across i; y = coordinate e.shift.y h.down i };
      counts = record { disagreeing = four e.counts.disagreeing h.disagreeing i; compared = four e.counts.compared h.compared i };
    }

-- those after it
module _ (e : Record) (rest : List ℕ) where
  byte_after : (n m : ℕ) → m ≡ 20 + n → get_or (record_bytes e ++ rest) m 0 ≡ get_or rest n 0
  byte_after n m q =
      let p : m ≡ length (record_bytes e) + n = q ∙ ap (λ (k : ℕ). k + n) (sym (record_length e)) in
      ap (λ (k : ℕ). get_or (record_bytes e ++ rest) k 0) p ∙ get_or-append-add (record_bytes e) rest n 0

  field_after : (i f : ℕ) → field_of (record_bytes e ++ rest) (suc i) f ≡ field_of rest i f
  unfolding field_of
  field_after i f =
      let at = 20 * i + 4 * f in
      let b : (k : ℕ) → get_or (record_bytes e ++ rest) (20 * suc i + 4 * f + k) 0 ≡ get_or rest (at + k) 0
      = λ k. byte_after (at + k) (20 * suc i + 4 * f + k) (omega arith) in
      omega (arith, byte_after at (20 * suc i + 4 * f) (omega arith), b 1, b 2, b 3)

  after : (i : ℕ) → record_at (record_bytes e ++ rest) (suc i) ≡ record_at rest i
  unfolding record_at
  after i =
      let f = field_after i in
      λ j. record {
        frame = f 0 j;
        shift = record { x = signed_of (f 1 j); y = signed_of (f 2 j) };
        counts = record { disagreeing = f 3 j; compared = f 4 j };
      }

-- ---- all records

-- 32 bits hold every number of some records
abbrev pub AllHeld : List Record → Type 0
AllHeld l = (e : Record) → Memᴰ e l → Held e

record_at_lem : (l : List Record) (rest : List ℕ) → AllHeld l → (d : Record) (i : ℕ) → i < length l → get_or l i d ≡ record_at (records_bytes l ++ rest) i
unfolding records_bytes
record_at_lem [] rest h d i k = absurd (not-suc-le-zero k)
record_at_lem (e ∷ l) rest h d zero k =
    sym (ap (λ (b : List ℕ). record_at b 0) (append_assoc (record_bytes e) (records_bytes l) rest) ∙ first e (records_bytes l ++ rest) (h e (Memᴰ.head refl)))
record_at_lem (e ∷ l) rest h d (suc i) k =
    record_at_lem l rest (λ x m. h x (Memᴰ.tail m)) d i (omega arith)
    ∙ sym (ap (λ (b : List ℕ). record_at b (suc i)) (append_assoc (record_bytes e) (records_bytes l) rest) ∙ after e (records_bytes l ++ rest) i)

-- the bytes of such records, read back, are the records, whatever bytes follow
pub bytes_read : (l : List Record) (rest : List ℕ) → AllHeld l → build (length l) (record_at (records_bytes l ++ rest)) ≡ l
bytes_read l rest h = sym (build_is (length l) (record_at (records_bytes l ++ rest)) l (record_at [] 0) refl (record_at_lem l rest h (record_at [] 0)))

-- ---- those of a report within 01's limits

-- a record's counts are at most the pixels
pub record_few : (a : Stack) (q : Terms) (e : Record) → Memᴰ e (records a q)
    → (e.counts.disagreeing ≤ a.height * a.width) × (e.counts.compared ≤ a.height * a.width)
record_few a q e m =
    let n = (records_name a q e m).counts in
    let few = frame_counts_few a e.frame e.shift in
    (omega (arith, ap (λ (c : Counts). c.disagreeing) n, few.0), omega (arith, ap (λ (c : Counts). c.compared) n, few.1))

-- a coordinate within r of a step's
near : (c z : ℤ) (r : ℕ) → nat_abs c ≤ 8191 → nat_abs (z -ℤ c) ≤ r → nat_abs z ≤ 8191 + r
near c z r h k = omega (arith, abs_parts c, abs_parts z, abs_parts (z -ℤ c), minus z c, alone z)

module _ (a : Stack) (q : Terms) (small : Small a) where
  -- and its shift lies within the reach of a step
  pub record_near : (e : Record) → Memᴰ e (records a q) → Within (8191 + q.reach) e.shift
  record_near e m =
      let n = records_name a q e m in
      let step = step_of_small a small e.frame in
      record {
        across = near (step_of a e.frame).x e.shift.x q.reach step.across n.rival.across;
        down = near (step_of a e.frame).y e.shift.y q.reach step.down n.rival.down;
      }

  module _ (reach : q.reach ≤ 64) where
    -- 32 bits hold every number
    pub records_held : AllHeld (records a q)
    records_held e m =
        let n = records_name a q e m in
        let s = record_near e m in
        let c = record_few a q e m in
        let pixels = mul-le-mul small.height small.width in
        record {
          frame = omega (arith, n.frame, small.frames);
          across = near_i32 e.shift.x (omega (arith, s.across, reach));
          down = near_i32 e.shift.y (omega (arith, s.down, reach));
          disagreeing = omega (arith, c.0, pixels);
          compared = omega (arith, c.1, pixels);
        }

    -- so that the bytes of a report, read back, are its records
    pub records_read_lem : (rest : List ℕ) → build (length (records a q)) (record_at (records_bytes (records a q) ++ rest)) ≡ records a q
    records_read_lem rest = bytes_read (records a q) rest records_held
