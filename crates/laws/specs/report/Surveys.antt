-- A survey row by row, which shifts are no rivals, and how many rivals there can be.
use Rattle.std.specs.Prelude.{◌≡◌, refl, Bool, true, ◌&&◌, List, []}
use Rattle.std.proofs.Math.Path.{ap}
use Rattle.std.proofs.Common.{◌∙◌, ⊎_elim, mul-le-mul, mul-le-mul_right, arith}
use Rattle.std.proofs.Math.Bool.{false, not}
use Prim.Native.Nat.{ℕ, suc, ◌*◌, ◌<◌, ◌≤◌}
use Rattle.std.proofs.lemmas.Bool.{lt-leb}
use Rattle.std.proofs.Math.Dec.{leb}
use Rattle.std.proofs.Math.ListN.{length}
use Rattle.definitions.specs.Build.{build, joined, keep_if}
use Rattle.definitions.specs.Geometry.{Shift}
use Rattle.definitions.specs.Difference.{Counts}
use Rattle.definitions.specs.Align.{Stack}
use Rattle.definitions.specs.Report.{Question, is_neighbour_shift, window, comes_close, is_rival, survey, Terms, frame_counts, question_of, rivals, frame_records}
use Rattle.laws.specs.general.Cases.{eq_or_ne}
use Rattle.laws.specs.report.Keeping.{keep_joined, keep_nothing, keep_few}
use Rattle.laws.specs.general.Members.{joined_sum}
use Rattle.laws.specs.report.Records.{rivals_none, rivals_survey, frame_number}
use Rattle.laws.specs.general.Sums.{sum_le}
use Rattle.laws.specs.report.Windows.{window_at}

and_false : (t : Bool) → (t && false) ≡ false
and_false true = refl
and_false false = refl

module _ (at : Shift → Counts) (u : Question) where
  -- ---- rows

  -- The rivals in the first i columns of row j, and those in the whole row.
  unfoldable pub rivals_up_to : ℕ → ℕ → List Shift
  rivals_up_to j i = keep_if (is_rival at u) (build i (λ (x : ℕ). window_at u.centre u.reach x j))

  unfoldable pub row_rivals : ℕ → List Shift
  row_rivals j = rivals_up_to j (suc (2 * u.reach))

  pub survey_rows : survey at u ≡ joined (suc (2 * u.reach)) row_rivals
  unfolding survey window rivals_up_to row_rivals window_at
  survey_rows =
      let side = suc (2 * u.reach) in
      keep_joined (is_rival at u) side (λ (j : ℕ). build side (λ (i : ℕ). window_at u.centre u.reach i j))

  -- ---- a neighbour shift is no rival, and another shift is one by its counts

  pub neighbour_no_rival : (s : Shift) → is_neighbour_shift u.centre s ≡ true → is_rival at u s ≡ false
  unfolding is_rival
  neighbour_no_rival s e = ap (λ (t : Bool). not t && comes_close u (at s)) e

  pub rival_by_counts : (s : Shift) → is_neighbour_shift u.centre s ≡ false → is_rival at u s ≡ comes_close u (at s)
  unfolding is_rival
  rival_by_counts s e = ap (λ (t : Bool). not t && comes_close u (at s)) e

  -- ---- shifts that are no rivals

  not_close : (s : Shift) → comes_close u (at s) ≡ false → is_rival at u s ≡ false
  unfolding is_rival
  not_close s e = let far = not (is_neighbour_shift u.centre s) in ap (λ (t : Bool). far && t) e ∙ and_false far

  -- one that disagrees in more than the limit
  pub over_limit : (s : Shift) → u.limit < (at s).disagreeing → is_rival at u s ≡ false
  unfolding comes_close
  over_limit s h =
      let compares = leb u.floor (at s).compared in
      not_close s (ap (λ (t : Bool). compares && t) (lt-leb (at s).disagreeing u.limit h) ∙ and_false compares)

  -- all, where none compares as many as the floor
  pub survey_nothing : ((s : Shift) → (at s).compared < u.floor) → survey at u ≡ []
  unfolding survey comes_close
  survey_nothing few = keep_nothing (is_rival at u) under_floor (window u.centre u.reach)
    where
      under_floor : (s : Shift) → is_rival at u s ≡ false
      under_floor s = not_close s (ap (λ (t : Bool). t && leb (at s).disagreeing u.limit) (lt-leb u.floor (at s).compared (few s)))

  -- ---- how many there can be: no more than the columns, and than the columns of all rows

  pub column_few : (j i : ℕ) → length (rivals_up_to j i) ≤ i
  unfolding rivals_up_to
  column_few j i = keep_few (is_rival at u) i (λ (x : ℕ). window_at u.centre u.reach x j)

  pub rows_few : (j : ℕ) → length (joined j row_rivals) ≤ j * suc (2 * u.reach)
  unfolding row_rivals
  rows_few j =
      let side = suc (2 * u.reach) in
      omega (arith, joined_sum j row_rivals, sum_le j side (λ (i : ℕ). length (row_rivals i)) (λ i _. column_few i side))

  survey_few : length (survey at u) ≤ suc (2 * u.reach) * suc (2 * u.reach)
  survey_few = omega (arith, ap length survey_rows, rows_few (suc (2 * u.reach)))

-- ---- the rivals of a frame, and the records of the first n

module _ (a : Stack) (q : Terms) where
  pub rivals_window : (k : ℕ) → length (rivals a q k) ≤ suc (2 * q.reach) * suc (2 * q.reach)
  rivals_window k = ⊎_elim
      (λ (e : k ≡ a.reference). omega (arith, ap length (rivals_none a q k e)))
      (λ (apart : k ≡ a.reference → ⊥).
      omega (arith, ap length (rivals_survey a q k apart), survey_few (frame_counts a k) (question_of a q k)))
      (eq_or_ne k a.reference)

  pub frames_few : (n : ℕ) → q.reach ≤ 64 → n ≤ 16 → length (joined n (frame_records a q)) ≤ 266256
  frames_few n h few =
      let side : suc (2 * q.reach) ≤ 129 = omega arith in
      let frame : (k : ℕ) → length (frame_records a q k) ≤ 16641 = λ k. omega (arith, frame_number a q k, rivals_window k, mul-le-mul side side) in
      omega (
        arith,
        joined_sum n (frame_records a q),
        sum_le n 16641 (λ (k : ℕ). length (frame_records a q k)) (λ k _. frame k),
        mul-le-mul_right 16641 few,
      )
