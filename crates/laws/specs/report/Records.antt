-- The rivals of a survey and the records of a report: what each says, that none is missing, their order and their number.
use Rattle.std.specs.Prelude.{◌≡◌, Bool, true, false, ℕ, ◌*◌, ◌≤◌, ◌<◌, leb, get_or, ◌<ℤ◌}
use Rattle.std.proofs.Math.Path.{refl, ap, subst}
use Rattle.std.proofs.Common.{sym, ◌∙◌, ⊎_elim, arith}
use Rattle.std.proofs.Math.Bool.{not, and-eq-true_iff}
use mathlib.Core.List.Memᴰ
use mathlib.Core.List.{[], Memᴰ}
use borrow.Author.Tests.{le-leb, leb-true, eq-eqb, ne_eqb}
use Rattle.std.proofs.Math.ListN.{length, length-map}
use Rattle.std.specs.Int.Signed.{<ℤ_irrefl}
use Rattle.definitions.specs.Geometry.{Shift}
use Rattle.definitions.specs.Difference.{Counts}
use Rattle.definitions.specs.Align.{Stack}
use Rattle.definitions.specs.Report.{Question, is_neighbour_shift, Rival, window, comes_close, is_rival, survey, Terms, frame_counts, question_of, RivalOf, rivals}
use Rattle.definitions.specs.Report.{Record, Before, by_frame, by_row, by_column, frame_records, records, records_needed, records_bytes}
use Rattle.laws.specs.general.Cases.{lt_or_le, eq_or_ne, clash}
use Rattle.laws.specs.general.Members.{in_kept, of_kept, in_map, of_map, in_joined, of_joined, joined_sum}
use Rattle.laws.specs.general.Members.{Ordered, none, ordered_kept, ordered_map, ordered_joined, ordered_at}
use Rattle.laws.specs.report.Neighbours.{neighbour_false, no_neighbour}
use Rattle.laws.specs.report.RecordBytes.{bytes_length}
use Rattle.laws.specs.general.Sums.{sum_ext}
use Rattle.laws.specs.report.Windows.{Earlier, above, left, window_within, within_window, window_in_order}

-- ---- the rivals

not_true : (t : Bool) → not t ≡ true → t ≡ false
not_true true e = clash (sym e)
not_true false e = refl

module _ (at : Shift → Counts) (u : Question) where
  -- a survey gives the rivals, and nothing else
  pub survey_rival : (s : Shift) → Memᴰ s (survey at u) → Rival at u s
  unfolding survey comes_close is_rival
  survey_rival s m =
      let t = of_kept (is_rival at u) (window u.centre u.reach) m in
      let near = window_within u.centre u.reach s t.0 in
      let both = (and-eq-true_iff (not (is_neighbour_shift u.centre s)) (comes_close u (at s))).0 t.1 in
      let test = (and-eq-true_iff (leb u.floor (at s).compared) (leb (at s).disagreeing u.limit)).0 both.1 in
      record {
        across = near.0;
        down = near.1;
        compares = leb-true u.floor (at s).compared test.0;
        disagrees = leb-true (at s).disagreeing u.limit test.1;
        no_neighbour_shift = no_neighbour u.centre s (not_true (is_neighbour_shift u.centre s) both.0);
      }

  pub rival_survey : (s : Shift) → Rival at u s → Memᴰ s (survey at u)
  unfolding survey comes_close is_rival
  rival_survey s h = in_kept (is_rival at u) (window u.centre u.reach) (within_window u.centre u.reach s (h.across, h.down))
      ((and-eq-true_iff (not (is_neighbour_shift u.centre s)) (comes_close u (at s))).1 (
        ap not (neighbour_false u.centre s h.no_neighbour_shift),
        (and-eq-true_iff (leb u.floor (at s).compared) (leb (at s).disagreeing u.limit)).1
            (le-leb u.floor (at s).compared h.compares, le-leb (at s).disagreeing u.limit h.disagrees),
      ))

  -- in order
  pub survey_in_order : Ordered Earlier (survey at u)
  unfolding survey
  survey_in_order = ordered_kept (is_rival at u) (window_in_order u.centre u.reach)

module _ (a : Stack) (q : Terms) (k : ℕ) where
  -- the reference has no rivals, and another frame those of the survey around its step
  pub rivals_none : k ≡ a.reference → rivals a q k ≡ []
  unfolding rivals
  rivals_none e = simp (eq-eqb k a.reference e)

  pub rivals_survey : (k ≡ a.reference → ⊥) → rivals a q k ≡ survey (frame_counts a k) (question_of a q k)
  unfolding rivals
  rivals_survey ne = simp (ne_eqb k a.reference ne)

  -- the rivals of a frame are its rivals, and no other shift
  pub rivals_rival : (s : Shift) → Memᴰ s (rivals a q k) → (k ≡ a.reference → ⊥) × RivalOf a q k s
  rivals_rival s m = ⊎_elim
      (λ (e : k ≡ a.reference). absurd (Memᴰ.not-nil (subst (Memᴰ s) (rivals_none e) m)))
      (λ (ne : k ≡ a.reference → ⊥). (ne, survey_rival _ _ s (subst (Memᴰ s) (rivals_survey ne) m)))
      (eq_or_ne k a.reference)

  pub rival_rivals : (k ≡ a.reference → ⊥) → (s : Shift) → RivalOf a q k s → Memᴰ s (rivals a q k)
  rival_rivals ne s h = subst (Memᴰ s) (sym (rivals_survey ne)) (rival_survey _ _ s h)

  -- in order
  pub rivals_in_order : Ordered Earlier (rivals a q k)
  rivals_in_order = ⊎_elim
      (λ (e : k ≡ a.reference). subst (Ordered Earlier) (sym (rivals_none e)) none)
      (λ (ne : k ≡ a.reference → ⊥). subst (Ordered Earlier) (sym (rivals_survey ne)) (survey_in_order _ _))
      (eq_or_ne k a.reference)

-- ---- the records

-- what a record of a report says: its frame is one of the stack and not the reference, its shift is a rival of that frame, and its
-- counts are those at that shift
pub record Names (a : Stack) (q : Terms) (e : Record) : Type 0 where
  pub frame : e.frame < a.frames
  pub other : e.frame ≡ a.reference → ⊥
  pub rival : RivalOf a q e.frame e.shift
  pub counts : e.counts ≡ frame_counts a e.frame e.shift

-- The record of a frame that names a shift, with the counts there.
abbrev pub record_of : (Shift → Counts) → ℕ → Shift → Record
record_of at k s = record { frame = k; shift = s; counts = at s }

-- two records of a frame stand in the order of their shifts
earlier_before : (at : Shift → Counts) (k : ℕ) (s t : Shift) → Earlier s t → Before (record_of at k s) (record_of at k t)
earlier_before at k s t (above h) = by_row refl h
earlier_before at k s t (left e h) = by_column refl e h

-- none stands before one of the same frame and shift
before_not_same : {d e : Record} → Before d e → d.frame ≡ e.frame → d.shift ≡ e.shift → ⊥
before_not_same (by_frame h) f g = omega arith
before_not_same {d} {e} (by_row f' h) f g = <ℤ_irrefl (subst (λ (s : Shift). s.y <ℤ e.shift.y) g h)
before_not_same {d} {e} (by_column f' g' h) f g = <ℤ_irrefl (subst (λ (s : Shift). s.x <ℤ e.shift.x) g h)

module _ (a : Stack) (q : Terms) where
  -- a record of frame k names one of the frame's rivals
  frame_record : (k : ℕ) (e : Record) → Memᴰ e (frame_records a q k) → (s : Shift) × Memᴰ s (rivals a q k) × (e ≡ record_of (frame_counts a k) k s)
  unfolding frame_records
  frame_record k e m = of_map (record_of (frame_counts a k) k) (rivals a q k) m

  -- every record says so
  pub records_name : (e : Record) → Memᴰ e (records a q) → Names a q e
  unfolding records
  records_name e m =
      let part = of_joined a.frames (frame_records a q) m in
      let named = frame_record part.0 e part.2 in
      let rival = rivals_rival a q part.0 named.0 named.1 in
      subst (Names a q) (sym named.2) (record { frame = part.1; other = rival.0; rival = rival.1; counts = refl })

  -- and none is missing: what says so is a record of the report
  pub rivals_named : (e : Record) → Names a q e → Memᴰ e (records a q)
  unfolding records frame_records
  rivals_named e h = in_joined a.frames (frame_records a q) e.frame h.frame
      (in_map (record_of (frame_counts a e.frame) e.frame) (rival_rivals a q e.frame h.other e.shift h.rival)
      (λ i. record { frame = e.frame; shift = e.shift; counts = h.counts i }))

  -- the records of a frame are in order, and so are those of all frames
  frame_in_order : (k : ℕ) → Ordered Before (frame_records a q k)
  unfolding frame_records
  frame_in_order k = ordered_map (record_of (frame_counts a k) k) (earlier_before (frame_counts a k) k) (rivals_in_order a q k)

  all_in_order : Ordered Before (records a q)
  unfolding records
  all_in_order = ordered_joined a.frames (frame_records a q) (λ k l. frame_in_order k)
      (λ j k l b d e m n.
      let p : d.frame ≡ j = ap (λ (r : Record). r.frame) (frame_record j d m).2 in
      let p' : e.frame ≡ k = ap (λ (r : Record). r.frame) (frame_record k e n).2 in
      by_frame (omega arith))

  -- by index
  pub records_in_order : (d : Record) (i j : ℕ) → i < j → j < length (records a q) → Before (get_or (records a q) i d) (get_or (records a q) j d)
  records_in_order d i j l b = ordered_at all_in_order i j l b d

  -- no two name the same frame and shift
  pub records_once : (d : Record) (i j : ℕ) → i < length (records a q) → j < length (records a q)
      → (get_or (records a q) i d).frame ≡ (get_or (records a q) j d).frame → (get_or (records a q) i d).shift ≡ (get_or (records a q) j d).shift → i ≡ j
  records_once d i j u v f g = ⊎_elim
      (λ (l : i < j). absurd (before_not_same (records_in_order d i j l v) f g))
      (λ (l : j ≤ i). ⊎_elim
      (λ (k : j < i). absurd (before_not_same (records_in_order d j i k u) (sym f) (sym g)))
      (λ (k : i ≤ j). omega arith)
      (lt_or_le j i))
      (lt_or_le i j)

  -- as many as the frames have rivals, which is what the report needs
  pub frame_number : (k : ℕ) → length (frame_records a q k) ≡ length (rivals a q k)
  unfolding frame_records
  frame_number k = length-map (rivals a q k) (record_of (frame_counts a k) k)

  pub records_number : length (records a q) ≡ records_needed a q
  unfolding records records_needed
  records_number =
      joined_sum a.frames (frame_records a q)
      ∙ sum_ext a.frames (λ (k : ℕ). length (frame_records a q k)) (λ (k : ℕ). length (rivals a q k)) (λ k l. frame_number k)

  -- 20 bytes for each
  pub report_bytes : length (records_bytes (records a q)) ≡ 20 * records_needed a q
  report_bytes = bytes_length (records a q) ∙ ap (λ (n : ℕ). 20 * n) records_number
