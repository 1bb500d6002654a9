-- Halving in either mode: the sample that a turn along a row stores, and what a loop over the rows has stored.
use mathlib.Core.Path.{◌≡◌, refl, sym, ap, ◌∙◌}
use mathlib.Core.List.{List}
use Prim.Native.Nat.{ℕ, ◌+◌, ◌*◌, ◌/◌, ◌%◌}
use native.Mathlib.Nat.{mul_comm, zero-add}
use native.Mathlib.Omega.{arith}
use lib.ListN.{length, get_or}
use lib.Seq.{sets, length-sets}
use Rattle.definitions.specs.Build.{build, joined}
use Rattle.definitions.specs.Shrink.{Shrink, average, subsample, halved_sample, shrink2}
use Rattle.laws.specs.general.Lists.{build_length, image_length}
use Rattle.laws.specs.general.Writes.{rows_none, rows_more, sets_whole}
use Rattle.mtb_align.specs.Blocks.{block_sample}

-- sample x of row y
abbrev pub halved : Shrink → List ℕ → ℕ → ℕ → ℕ → ℕ
halved mode s w y x = halved_sample mode s w x y

-- row y
abbrev pub halved_row : Shrink → List ℕ → ℕ → ℕ → List ℕ
halved_row mode s w y = build (w / 2) (halved mode s w y)

-- sample x of row y, by the two rows of its block, p and q, which have two samples side by side each
module _ (s : List ℕ) (w x y p q : ℕ) where
  pub block_is : (mode : Shrink) → (p % 256 ≡ get_or s (2 * y * w + 2 * x) 0) × (p / 256 ≡ get_or s (2 * y * w + 2 * x + 1) 0)
      → (q % 256 ≡ get_or s (2 * y * w + w + 2 * x) 0) × (q / 256 ≡ get_or s (2 * y * w + w + 2 * x + 1) 0) → block_sample mode p q ≡ halved mode s w y x
  unfolding halved_sample block_sample
  block_is average (a, b) (c, d) =
      let right : 2 * y * w + 2 * x + 1 ≡ 2 * y * w + (2 * x + 1) = omega arith in
      let under : 2 * y * w + w + 2 * x ≡ (2 * y + 1) * w + 2 * x = omega arith in
      let last : 2 * y * w + w + 2 * x + 1 ≡ (2 * y + 1) * w + (2 * x + 1) = omega arith in
      cc
  block_is subsample (a, b) _ = a

-- ---- over the rows: y rows are stored

pub record Rows (mode : Shrink) (s : List ℕ) (w : ℕ) (old new : List ℕ) (y : ℕ) : Type 0 where
  pub long : length new ≡ length old
  pub are : new ≡ sets old 0 (joined y (halved_row mode s w))

module _ {mode : Shrink} {s : List ℕ} {w : ℕ} where
  pub no_rows : (old : List ℕ) → Rows mode s w old old 0
  no_rows old = record { long = refl; are = rows_none old 0 (halved_row mode s w) }

  pub one_row : {old mid new : List ℕ} {y : ℕ} → Rows mode s w old mid y → new ≡ sets mid (y * (w / 2)) (halved_row mode s w y) → Rows mode s w old new (y + 1)
  one_row {old} {mid} {new} {y} q e = record {
    long = ap length e ∙ length-sets mid (y * (w / 2)) (halved_row mode s w y) ∙ q.long;
    are =
        rows_more old 0 (w / 2) y (halved_row mode s w) (λ j. build_length (w / 2) (halved mode s w j)) q.are
        (e ∙ ap (λ (i : ℕ). sets mid i (halved_row mode s w y)) (sym (zero-add (y * (w / 2)))));
  }

  pub all_rows : {old new : List ℕ} {y : ℕ} (h : ℕ) → Rows mode s w old new y → y ≡ h / 2 → new ≡ sets old 0 (shrink2 mode w h s)
  unfolding shrink2
  all_rows {old} h q e = q.are ∙ ap (λ (n : ℕ). sets old 0 (joined n (halved_row mode s w))) e

pub ruleset rows = (no_rows, one_row, all_rows)

-- ---- a buffer of the halved size holds the halved frame and nothing else

pub shrink2_length : (mode : Shrink) (w h : ℕ) (s : List ℕ) → length (shrink2 mode w h s) ≡ w / 2 * (h / 2)
unfolding shrink2
shrink2_length mode w h s = image_length (w / 2) (h / 2) (halved_sample mode s w) ∙ mul_comm (h / 2) (w / 2)

pub shrink2_whole : (mode : Shrink) (w h : ℕ) (s old : List ℕ) {new : List ℕ} → length old ≡ w / 2 * (h / 2) → new ≡ sets old 0 (shrink2 mode w h s)
    → new ≡ shrink2 mode w h s
shrink2_whole mode w h s old e p = p ∙ sets_whole old (shrink2 mode w h s) (shrink2_length mode w h s ∙ sym e)
