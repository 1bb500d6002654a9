-- The records of a frame among those that are read back from their bytes.
use mathlib.Core.Path.{◌≡◌, refl, sym, ap, ap₂, ◌∙◌}
use mathlib.Core.Bool.{Bool, true, false, cond}
use mathlib.Core.List.{List, [], ◌∷◌, ◌++◌, map, append_assoc, append-nil}
use mathlib.Core.Logic.{⊎_elim}
use Prim.Native.Nat.{ℕ, zero, suc, ◌+◌, ◌*◌, ◌/◌, ◌≤◌, ◌<◌}
use native.Mathlib.Nat.{not-suc-le-zero}
use native.Mathlib.Omega.{arith}
use borrow.Author.Tests.{eq-eqb, ne_eqb}
use lib.Dec.{eqb}
use lib.IntN.{ℤ, pos}
use lib.ListN.{length, take, get_or, length-take}
use Rattle.std.specs.List.{count_by, range_with_len}
use Rattle.std.proofs.Common.{add-one, map-id}
use Rattle.std.proofs.lemmas.List.{get_or-take}
use Rattle.std.proofs.lemmas.List.FromFn.{sum_by-map-range_with_len_more}
use Rattle.definitions.specs.Build.{build, joined, keep_if}
use Rattle.definitions.specs.Geometry.{Shift}
use Rattle.definitions.specs.Align.{Stack}
use Rattle.definitions.specs.Report.{Terms, frame_counts, rivals, Record, frame_records, records, records_bytes, record_at, field_of, signed_of}
use Rattle.laws.specs.general.Cases.{lt_or_le}
use Rattle.laws.specs.general.Lists.{build_same, joined_same}
use Rattle.laws.specs.report.ReadBack.{records_read_lem}
use Rattle.laws.specs.search.StepBounds.{Small}
use Rattle.laws.specs.report.Keeping.{keep_joined, keep_none, keep_more, keep_count}
use Rattle.steps.specs.Text.{frame_line, record_line, lines_of_records}
use Rattle.steps.specs.Inner.{records_of, frame_text_in}

-- ---- those of a report

module _ {A : Type 0} where
  none_but : (n k : ℕ) (r : ℕ → List A) → n ≤ k → ((j : ℕ) → (j ≡ k → ⊥) → r j ≡ []) → joined n r ≡ []
  unfolding joined
  none_but zero k r h e = refl
  none_but (suc n) k r h e = ap₂ ◌++◌ (none_but n k r (omega arith) e) (e n (λ q. omega arith))

  -- all rows but one are empty
  one_row : (n k : ℕ) (r : ℕ → List A) → k < n → ((j : ℕ) → (j ≡ k → ⊥) → r j ≡ []) → joined n r ≡ r k
  unfolding joined
  one_row zero k r h e = absurd (not-suc-le-zero h)
  one_row (suc n) k r h e = ⊎_elim
      (λ (l : k < n). ap (λ (s : List A). joined n r ++ s) (e n (λ q. omega arith)) ∙ append-nil (joined n r) ∙ one_row n k r l e)
      (λ (l : n ≤ k). let p : n ≡ k = omega arith in ap (λ (s : List A). s ++ r n) (none_but n k r l e) ∙ ap r p)
      (lt_or_le k n)

  -- a test that all pass or none
  keep_either : {B : Type 0} (test : A → Bool) (f : B → A) (t : Bool) → ((b : B) → test (f b) ≡ t) → (l : List B) → keep_if test (map f l) ≡ cond t (map f l) []
  unfolding keep_if
  keep_either test f true h [] = refl
  keep_either test f false h [] = refl
  keep_either test f true h (b ∷ l) =
      ap (λ (t : Bool). cond t (f b ∷ keep_if test (map f l)) (keep_if test (map f l))) (h b) ∙ ap (λ (s : List A). f b ∷ s) (keep_either test f true h l)
  keep_either test f false h (b ∷ l) =
      ap (λ (t : Bool). cond t (f b ∷ keep_if test (map f l)) (keep_if test (map f l))) (h b) ∙ keep_either test f false h l

module _ (a : Stack) (q : Terms) (k : ℕ) where
  abbrev of_frame : Record → Bool
  of_frame e = eqb e.frame k

  kept : (j : ℕ) → keep_if of_frame (frame_records a q j) ≡ cond (eqb j k) (frame_records a q j) []
  unfolding frame_records
  kept j = keep_either of_frame (λ (s : Shift). record { frame = j; shift = s; counts = frame_counts a j s }) (eqb j k) (λ s. refl) (rivals a q j)

  frame_kept : k < a.frames → keep_if of_frame (records a q) ≡ frame_records a q k
  unfolding records
  frame_kept h =
      keep_joined of_frame a.frames (frame_records a q)
      ∙ one_row a.frames k (λ (j : ℕ). keep_if of_frame (frame_records a q j)) h
      (λ j ne. kept j ∙ ap (λ (t : Bool). cond t (frame_records a q j) []) (ne_eqb j k ne))
      ∙ kept k
      ∙ ap (λ (t : Bool). cond t (frame_records a q k) []) (eq-eqb k k refl)

  -- those that are read back are those of the report
  pub records_of_lem : Small a → q.reach ≤ 64 → (rest : List ℕ) (n : ℕ) → n ≡ length (records a q) → k < a.frames
      → records_of (records_bytes (records a q) ++ rest) n k ≡ frame_records a q k
  unfolding records_of
  records_of_lem small reach rest n e l =
      ap (λ (m : ℕ). keep_if of_frame (build m (record_at (records_bytes (records a q) ++ rest)))) e
      ∙ ap (keep_if of_frame) (records_read_lem a q small reach rest)
      ∙ frame_kept l

-- ---- a loop over the records

lines_append : (l m : List Record) → lines_of_records (l ++ m) ≡ lines_of_records l ++ lines_of_records m
unfolding lines_of_records
lines_append [] m = refl
lines_append (e ∷ l) m = ap (λ (t : List ℕ). record_line e ++ t) (lines_append l m) ∙ sym (append_assoc (record_line e) (lines_of_records l) (lines_of_records m))

-- a record's line if it is one of frame k
abbrev pub one_line : ℕ → Record → List ℕ
one_line k e = lines_of_records (cond (eqb e.frame k) (e ∷ []) [])

module _ (bytes : List ℕ) (k : ℕ) where
  abbrev one : ℕ → List Record
  one i = cond (eqb (record_at bytes i).frame k) (record_at bytes i ∷ []) []

  none_of : records_of bytes 0 k ≡ []
  unfolding records_of
  none_of = keep_none (λ (e : Record). eqb e.frame k) (record_at bytes)

  more_of : (i : ℕ) → records_of bytes (i + 1) k ≡ records_of bytes i k ++ one i
  unfolding records_of
  more_of i = keep_more (λ (e : Record). eqb e.frame k) i (record_at bytes)

  -- how many there are
  count_none : 0 ≡ length (records_of bytes 0 k)
  count_none = sym (ap length none_of)

  count_more : (i : ℕ) {m d : ℕ} → m ≡ length (records_of bytes i k) → d ≡ cond (eqb (record_at bytes i).frame k) 1 0 → m + d ≡ length (records_of bytes (i + 1) k)
  unfolding records_of
  count_more i {m} {d} p q = keep_count (λ (e : Record). eqb e.frame k) i (record_at bytes) p (ap (λ (n : ℕ). m + n) q)

  pub counted : (n : ℕ) → count_by (λ (i : ℕ). eqb (record_at bytes i).frame k) (range_with_len 0 n) ≡ length (records_of bytes n k)
  counted zero = count_none
  counted (suc n) =
      let test : ℕ → Bool = λ i. eqb (record_at bytes i).frame k in
      ap (λ (m : ℕ). count_by test (range_with_len 0 m)) (sym (add-one n))
      ∙ ap (count_by test) (sym (map-id (range_with_len 0 (n + 1))))
      ∙ sum_by-map-range_with_len_more (λ (i : ℕ). cond (test i) 1 0) (λ (i : ℕ). i) 0 n n (omega arith)
      ∙ ap (λ (l : List ℕ). count_by test l + cond (test n) 1 0) (map-id (range_with_len 0 n))
      ∙ count_more n (counted n) refl
      ∙ ap (λ (m : ℕ). length (records_of bytes m k)) (add-one n)

  -- and their lines
  pub lines_none : lines_of_records (records_of bytes 0 k) ≡ []
  unfolding lines_of_records
  lines_none = ap lines_of_records none_of

  pub lines_more : (i : ℕ) → lines_of_records (records_of bytes (i + 1) k) ≡ lines_of_records (records_of bytes i k) ++ lines_of_records (one i)
  lines_more i = ap lines_of_records (more_of i) ∙ lines_append (records_of bytes i k) (one i)

-- ---- the bytes behind the records do not matter

module _ (bytes : List ℕ) (n : ℕ) (room : 20 * n ≤ length bytes) where
  abbrev whole : List ℕ
  whole = take (20 * n) bytes

  pub whole_records : length whole / 20 ≡ n
  whole_records = omega (arith, length-take (20 * n) bytes)

  field_whole : (i f : ℕ) → i < n → f < 5 → field_of whole i f ≡ field_of bytes i f
  unfolding field_of
  field_whole i f a b =
      let at = 20 * i + 4 * f in
      let e0 = get_or-take (20 * n) bytes at 0 (omega arith) in
      let e1 = get_or-take (20 * n) bytes (at + 1) 0 (omega arith) in
      let e2 = get_or-take (20 * n) bytes (at + 2) 0 (omega arith) in
      let e3 = get_or-take (20 * n) bytes (at + 3) 0 (omega arith) in
      omega arith

  record_whole : (i : ℕ) → i < n → record_at whole i ≡ record_at bytes i
  unfolding record_at
  record_whole i a = λ j. record {
    frame = field_whole i 0 a (omega arith) j;
    shift = record { x = signed_of (field_whole i 1 a (omega arith) j); y = signed_of (field_whole i 2 a (omega arith) j) };
    counts = record { disagreeing = field_whole i 3 a (omega arith) j; compared = field_whole i 4 a (omega arith) j };
  }

  records_whole : (k : ℕ) → records_of whole (length whole / 20) k ≡ records_of bytes n k
  unfolding records_of
  records_whole k =
      ap (λ (m : ℕ). keep_if (λ (e : Record). eqb e.frame k) (build m (record_at whole))) whole_records
      ∙ ap (keep_if (λ (e : Record). eqb e.frame k)) (build_same n (record_at whole) (record_at bytes) record_whole)

  pub frames_whole : (shifts : List ℤ) (verdicts : List ℕ) (m : ℕ)
      → joined m (frame_text_in shifts verdicts whole (length whole / 20)) ≡ joined m (frame_text_in shifts verdicts bytes n)
  unfolding frame_text_in
  frames_whole shifts verdicts m = joined_same m (frame_text_in shifts verdicts whole (length whole / 20)) (frame_text_in shifts verdicts bytes n)
      (λ k h. ap (λ (l : List Record). frame_line k (record { x = get_or shifts (2 * k) (pos 0); y = get_or shifts (2 * k + 1) (pos 0) }) (get_or verdicts k 0) (length l)
      ++ lines_of_records l) (records_whole k))
