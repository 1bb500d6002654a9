-- The bytes of records: their number, of one list of records after another, a record as its five numbers are stored, and a coordinate in 32 bits.
use Rattle.std.specs.Prelude.{◌≡◌, refl, List, [], ◌∷◌, ◌++◌, ℕ, ◌+◌, ◌-◌, ◌*◌, ◌≤◌, ◌<◌, ℤ, pos, negsuc, length}
use Rattle.std.proofs.Common.{sym, ap, ◌∙◌, append_assoc, arith, length-append}
use Rattle.std.proofs.lemmas.List.Edits.{sets}
use Rattle.definitions.specs.Geometry.{ahead, behind}
use Rattle.definitions.specs.Report.{Record, bytes32, twos_complement, record_bytes, records_bytes}
use Rattle.laws.specs.images.Runs.{sets_then}

-- ---- how many

pub record_length : (e : Record) → length (record_bytes e) ≡ 20
unfolding record_bytes bytes32
record_length e = refl

-- 20 for each of some records
pub bytes_length : (l : List Record) → length (records_bytes l) ≡ 20 * length l
unfolding records_bytes
bytes_length [] = refl
bytes_length (e ∷ l) = omega (arith, length-append (record_bytes e) (records_bytes l), record_length e, bytes_length l)

-- ---- one list after another

pub bytes_append : (l m : List Record) → records_bytes (l ++ m) ≡ records_bytes l ++ records_bytes m
unfolding records_bytes
bytes_append [] m = refl
bytes_append (e ∷ l) m =
    ap (λ (k : List ℕ). record_bytes e ++ k) (bytes_append l m)
    ∙ sym (append_assoc (record_bytes e) (records_bytes l) (records_bytes m))

-- ---- a record as it is stored, number by number

-- one number, and what follows it
number_then : (l : List ℕ) (at n next : ℕ) (rest : List ℕ) {m new : List ℕ} → next ≡ at + 4 → m ≡ sets l at (bytes32 n) → new ≡ sets m next rest
    → new ≡ sets l at (bytes32 n ++ rest)
unfolding bytes32
number_then l at n next rest {m} e p q = sets_then l at 4 (bytes32 n) rest refl p (q ∙ ap (λ (i : ℕ). sets m i rest) e)

pub record_stored : (l : List ℕ) (at : ℕ) (e : Record) {a b c d new : List ℕ}
    → a ≡ sets l at (bytes32 e.frame)
    → b ≡ sets a (at + 4) (bytes32 (twos_complement e.shift.x))
    → c ≡ sets b (at + 8) (bytes32 (twos_complement e.shift.y))
    → d ≡ sets c (at + 12) (bytes32 e.counts.disagreeing)
    → new ≡ sets d (at + 16) (bytes32 e.counts.compared)
    → new ≡ sets l at (record_bytes e)
unfolding record_bytes bytes32
record_stored l at e {a} {b} {c} p q r s t =
    let x = twos_complement e.shift.x in
    let y = twos_complement e.shift.y in
    let last = bytes32 e.counts.compared in
    let two = bytes32 e.counts.disagreeing ++ last in
    number_then l at e.frame (at + 4) (bytes32 x ++ (bytes32 y ++ two)) refl p
    (number_then a (at + 4) x (at + 8) (bytes32 y ++ two) (omega arith) q
    (number_then b (at + 8) y (at + 12) two (omega arith) r
    (number_then c (at + 12) e.counts.disagreeing (at + 16) last (omega arith) s t)))

-- ---- a coordinate in 32 bits, by its two parts

pub complement_below : (z : ℤ) → 0 < behind z → twos_complement z ≡ 4294967296 - behind z
unfolding twos_complement
complement_below (pos n) h = omega arith
complement_below (negsuc n) h = omega arith

pub complement_not_below : (z : ℤ) → behind z ≤ 0 → twos_complement z ≡ ahead z
unfolding twos_complement
complement_not_below (pos n) h = refl
complement_not_below (negsuc n) h = omega arith
