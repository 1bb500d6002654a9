-- Records one after another in a space that may be too short for them: whole records only, as many as there is room for.
use Rattle.std.specs.Prelude.{◌≡◌, Bool, length, take}
use Rattle.std.proofs.Math.Path.{refl, sym, ap}
use Rattle.std.proofs.Common.{ap₂, ◌∙◌, subst, ⊎_elim, length-append, take_all}
use Rattle.std.proofs.Math.Bool.{true, false, cond}
use mathlib.Core.List.{List, [], ◌∷◌, ◌++◌, map, map-append, append-nil}
use Prim.Native.Nat.{ℕ, suc, ◌+◌, ◌-◌, ◌*◌, ◌/◌, ◌<◌, ◌≤◌}
use native.Mathlib.Omega.{arith}
use Rattle.std.proofs.Math.ListN.{length-map}
use Rattle.std.proofs.Math.Seq.{sets, length-sets, take-nil, take-append-add}
use Rattle.std.proofs.lemmas.List.{take-append-le}
use Rattle.definitions.specs.Build.{build, joined, keep_if}
use Rattle.definitions.specs.Geometry.{Shift}
use Rattle.definitions.specs.Difference.{Counts}
use Rattle.definitions.specs.Report.{Question, is_neighbour_shift, comes_close, is_rival, survey, Record, record_bytes, records_bytes}
use Rattle.laws.specs.general.Cases.{lt_or_le}
use Rattle.laws.specs.report.Keeping.{keep_none, keep_more}
use Rattle.laws.specs.general.Lists.{joined_none, joined_more}
use Rattle.laws.specs.report.RecordBytes.{bytes_length, bytes_append}
use Rattle.laws.specs.report.Records.{record_of}
use Rattle.laws.specs.report.Surveys.{rivals_up_to, row_rivals, survey_rows, rival_by_counts}
use Rattle.laws.specs.report.Windows.{window_at}
use Rattle.laws.specs.general.Writes.{sets_append, stored_front}

-- The space once the bytes of some records were put behind `number` others.
unfoldable pub kept_in : List ℕ → ℕ → List ℕ → List ℕ
kept_in space number bytes = sets space (20 * number) (take (20 * (length space / 20 - number)) bytes)

module _ (space : List ℕ) (number : ℕ) where
  pub kept_long : (b : List ℕ) → length (kept_in space number b) ≡ length space
  unfolding kept_in
  kept_long b = length-sets space (20 * number) (take (20 * (length space / 20 - number)) b)

  pub kept_none : kept_in space number [] ≡ space
  unfolding kept_in
  kept_none = ap (sets space (20 * number)) (take-nil (20 * (length space / 20 - number)))

  -- no room, no change
  pub kept_over : length space < 20 * number + 20 → (b : List ℕ) → kept_in space number b ≡ space
  unfolding kept_in
  kept_over h b = let z : 20 * (length space / 20 - number) ≡ 0 = omega arith in ap (λ (m : ℕ). sets space (20 * number) (take m b)) z

  -- room for all
  pub kept_all : (m : ℕ) (b : List ℕ) → length b ≡ 20 * m → 20 * (number + m) ≤ length space → kept_in space number b ≡ sets space (20 * number) b
  unfolding kept_in
  kept_all m b e h = ap (sets space (20 * number)) (take_all (20 * (length space / 20 - number)) b (omega arith))

-- some records, and more of them
pub kept_more : (space : List ℕ) (number m : ℕ) (b c : List ℕ) → length b ≡ 20 * m → kept_in (kept_in space number b) (number + m) c ≡ kept_in space number (b ++ c)
unfolding kept_in
kept_more space number m b c e = ⊎_elim
    (λ (l : length space / 20 < number + m).
    kept_over (kept_in space number b) (number + m) (omega (arith, kept_long space number b)) c
    ∙ ap (sets space (20 * number)) (sym (take-append-le (20 * (length space / 20 - number)) b c (omega arith))))
    (λ (l : number + m ≤ length space / 20).
    let rest = 20 * (length space / 20 - (number + m)) in
    let at : 20 * (number + m) ≡ 20 * number + length b = omega arith in
    let room : 20 * (length space / 20 - number) ≡ length b + rest = omega arith in
    ap (λ (x : List ℕ). kept_in x (number + m) c) (kept_all space number m b e (omega arith))
    ∙ ap₂ (λ (i k : ℕ). sets (sets space (20 * number) b) i (take (20 * (k / 20 - (number + m))) c)) at (length-sets space (20 * number) b)
    ∙ sym (sets_append space (20 * number) b (take rest c))
    ∙ ap (sets space (20 * number)) (sym (ap (λ (k : ℕ). take k (b ++ c)) room ∙ take-append-add b c rest)))
    (lt_or_le (length space / 20) (number + m))

-- Some records were put behind `start` others as far as there is room, and `next` counts all of them.
pub record Kept (space : List ℕ) (start : ℕ) (l : List Record) (new : List ℕ) (next : ℕ) : Type 0 where
  pub held : new ≡ kept_in space start (records_bytes l)
  pub ends : next ≡ start + length l

pub keeps_none : (space : List ℕ) (start : ℕ) → Kept space start [] space start
unfolding records_bytes
keeps_none space start = record { held = sym (kept_none space start); ends = omega arith }

pub keeps_more : {space : List ℕ} {start : ℕ} {l m : List Record} {mid new : List ℕ} {next after : ℕ}
    → Kept space start l mid next → Kept mid next m new after → Kept space start (l ++ m) new after
keeps_more {space} {start} {l} {m} {mid} {new} {next} {after} p q = record {
  held =
      q.held
      ∙ ap₂ (λ (x : List ℕ) (i : ℕ). kept_in x i (records_bytes m)) p.held p.ends
      ∙ kept_more space start (length l) (records_bytes l) (records_bytes m) (bytes_length l)
      ∙ ap (kept_in space start) (sym (bytes_append l m));
  ends = omega (arith, q.ends, p.ends, length-append l m);
}

pub keeps_long : {space : List ℕ} {start : ℕ} {l : List Record} {new : List ℕ} {next : ℕ} → Kept space start l new next → length new ≡ length space
keeps_long {space} {start} {l} p = ap length p.held ∙ kept_long space start (records_bytes l)

pub keeps_same : {space : List ℕ} {start : ℕ} {l m : List Record} {new : List ℕ} {next : ℕ} → l ≡ m → Kept space start l new next → Kept space start m new next
keeps_same {space} {start} {l} {m} {new} {next} e p = subst (λ (r : List Record). Kept space start r new next) e p

-- room for all from the start of the space on
pub keeps_all : {space : List ℕ} {l : List Record} {new : List ℕ} {next : ℕ} → Kept space 0 l new next → 20 * length l ≤ length space
    → new ≡ sets space 0 (records_bytes l)
keeps_all {space} {l} p h = p.held ∙ kept_all space 0 (length l) (records_bytes l) (bytes_length l) (omega arith)

-- and they then stand at its front
pub keeps_front : {space : List ℕ} {l : List Record} {new : List ℕ} {next : ℕ} → Kept space 0 l new next → 20 * next ≤ length new
    → take (20 * next) new ≡ records_bytes l
keeps_front {space} {l} {new} {next} p h =
    let long = bytes_length l in
    let room = keeps_long p in
    stored_front space (records_bytes l) (omega (arith, p.ends)) (keeps_all p (omega (arith, p.ends))) (20 * next) (omega (arith, p.ends))

-- one record
pub keeps_one : (space : List ℕ) (start : ℕ) (e : Record) {new : List ℕ} → new ≡ kept_in space start (record_bytes e) → Kept space start (e ∷ []) new (start + 1)
unfolding records_bytes
keeps_one space start e p = record { held = p ∙ ap (kept_in space start) (sym (append-nil (record_bytes e))); ends = omega arith }

-- ---- lists of records one after another

pub keeps_joined_none : (space : List ℕ) (r : ℕ → List Record) → Kept space 0 (joined 0 r) space 0
keeps_joined_none space r = keeps_same (sym (joined_none r)) (keeps_none space 0)

pub keeps_joined_more : (space : List ℕ) (r : ℕ → List Record) (k : ℕ) {mid new : List ℕ} {next after : ℕ}
    → Kept space 0 (joined k r) mid next → Kept mid next (r k) new after → Kept space 0 (joined (k + 1) r) new after
keeps_joined_more space r k p q = keeps_same (sym (joined_more k r)) (keeps_more p q)

-- ---- the records that name some shifts

-- The records of a frame that name some shifts, with the counts there.
unfoldable pub records_of : (Shift → Counts) → ℕ → List Shift → List Record
records_of at k l = map (record_of at k) l

module _ (at : Shift → Counts) (k : ℕ) where
  pub records_of_length : (l : List Shift) → length (records_of at k l) ≡ length l
  unfolding records_of
  records_of_length l = length-map l (record_of at k)

  -- of one shift that is a rival, and of one that is none
  pub records_one : (t : Bool) (s : Shift) → records_of at k (cond t (s ∷ []) []) ≡ cond t (record_of at k s ∷ []) []
  unfolding records_of
  records_one true s = refl
  records_one false s = refl

  module _ {space : List ℕ} {start : ℕ} where
    pub shifts_none : {l : List Shift} → l ≡ [] → Kept space start (records_of at k l) space start
    unfolding records_of
    shifts_none e = keeps_same (ap (records_of at k) (sym e)) (keeps_none space start)

    pub shifts_more : (l m : List Shift) {n : List Shift} {mid new : List ℕ} {next after : ℕ} → n ≡ l ++ m
        → Kept space start (records_of at k l) mid next → Kept mid next (records_of at k m) new after → Kept space start (records_of at k n) new after
    unfolding records_of
    shifts_more l m e p q = keeps_same (sym (ap (records_of at k) e ∙ map-append (record_of at k) l m)) (keeps_more p q)

-- ---- a window's, by a loop over the columns of a row and one over the rows

module _ (at : Shift → Counts) (k : ℕ) (u : Question) {space : List ℕ} {start : ℕ} where
  pub column_none : (j : ℕ) → Kept space start (records_of at k (rivals_up_to at u j 0)) space start
  unfolding rivals_up_to
  column_none j = shifts_none at k (keep_none (is_rival at u) (λ (i : ℕ). window_at u.centre u.reach i j))

  pub column_more : (j i : ℕ) {mid new : List ℕ} {next after : ℕ} (s : Shift) → s ≡ window_at u.centre u.reach i j
      → Kept space start (records_of at k (rivals_up_to at u j i)) mid next → Kept mid next (records_of at k (keep_if (is_rival at u) (s ∷ []))) new after
      → Kept space start (records_of at k (rivals_up_to at u j (i + 1))) new after
  unfolding rivals_up_to keep_if
  column_more j i {mid} {new} {next} {after} s e p q =
      let test = is_rival at u in
      let f : ℕ → Shift = λ x. window_at u.centre u.reach x j in
      shifts_more at k (keep_if test (build i f)) (cond (test (f i)) (f i ∷ []) []) (keep_more test i f) p
      (keeps_same (ap (λ (t : Shift). records_of at k (cond (test t) (t ∷ []) [])) e) q)

  pub column_all : (j : ℕ) {i : ℕ} {new : List ℕ} {next : ℕ} → i ≡ suc (2 * u.reach)
      → Kept space start (records_of at k (rivals_up_to at u j i)) new next → Kept space start (records_of at k (row_rivals at u j)) new next
  unfolding row_rivals
  column_all j e p = keeps_same (ap (λ (n : ℕ). records_of at k (rivals_up_to at u j n)) e) p

  pub row_none : Kept space start (records_of at k (joined 0 (row_rivals at u))) space start
  row_none = shifts_none at k (joined_none (row_rivals at u))

  pub row_more : (j : ℕ) {mid new : List ℕ} {next after : ℕ}
      → Kept space start (records_of at k (joined j (row_rivals at u))) mid next → Kept mid next (records_of at k (row_rivals at u j)) new after
      → Kept space start (records_of at k (joined (j + 1) (row_rivals at u))) new after
  row_more j p q = let r = row_rivals at u in shifts_more at k (joined j r) (r j) (joined_more j r) p q

  pub row_all : {j : ℕ} {new : List ℕ} {next : ℕ} → j ≡ suc (2 * u.reach)
      → Kept space start (records_of at k (joined j (row_rivals at u))) new next → Kept space start (records_of at k (survey at u)) new next
  row_all e p = keeps_same (ap (records_of at k) (ap (λ (n : ℕ). joined n (row_rivals at u)) e ∙ sym (survey_rows at u))) p

-- ---- a shift that is no rival, and one by its counts

module _ (at : Shift → Counts) (k : ℕ) (u : Question) (s : Shift) {space : List ℕ} {start : ℕ} where
  pub no_rival_kept : is_rival at u s ≡ false → Kept space start (records_of at k (keep_if (is_rival at u) (s ∷ []))) space start
  unfolding keep_if
  no_rival_kept e = shifts_none at k (ap (λ (t : Bool). cond t (s ∷ []) []) e)

  pub rival_kept : {c : Counts} {new : List ℕ} {next : ℕ} → is_neighbour_shift u.centre s ≡ false → c ≡ at s
      → Kept space start (cond (comes_close u c) (record { frame = k; shift = s; counts = c } ∷ []) []) new next
      → Kept space start (records_of at k (keep_if (is_rival at u) (s ∷ []))) new next
  unfolding keep_if
  rival_kept {c} far e p =
      keeps_same
      (ap (λ (n : Counts). cond (comes_close u n) (record { frame = k; shift = s; counts = n } ∷ []) []) e
      ∙ sym (records_one at k (is_rival at u s) s ∙ ap (λ (t : Bool). cond t (record_of at k s ∷ []) []) (rival_by_counts at u s far)))
      p
