-- The last k rows of a frame: which samples they are, and how many; no row, one row more, all rows.
use Rattle.std.specs.Prelude.{◌≡◌, ℕ, ◌+◌, ◌-◌, ◌*◌, ◌≤◌, ◌<◌}
use Rattle.std.proofs.Math.Path.{sym, ap}
use Rattle.std.proofs.Common.{◌∙◌, zero-mul, take-append-drop, drop-drop}
use mathlib.Core.List.{List, [], ◌++◌}
use Rattle.std.proofs.Math.Nat.{add-mul, mul_comm}
use native.Mathlib.Omega.{arith}
use Rattle.std.proofs.Math.ListN.{length, get_or, take, drop, length-drop}
use Rattle.std.proofs.Math.Seq.{drop-length, get_or-drop}
use Rattle.definitions.specs.Build.{sample}
use Rattle.definitions.specs.Threshold.{last_rows}

module _ (w h : ℕ) (s : List ℕ) where
  -- their sample (x, y) is the frame's (x, h - k + y)
  pub last_rows_at : (k x y : ℕ) → sample (last_rows w h s k) w x y ≡ sample s w x (h - k + y)
  unfolding last_rows
  last_rows_at k x y = get_or-drop ((h - k) * w) s (y * w + x) 0 ∙ ap (λ (i : ℕ). get_or s i 0) (omega (arith, add-mul (h - k) y w))

  -- all rows are the frame
  pub last_rows_all : last_rows w h s h ≡ s
  unfolding last_rows
  last_rows_all =
      let none : h - h ≡ 0 = omega arith in
      ap (λ (n : ℕ). drop (n * w) s) none ∙ ap (λ (n : ℕ). drop n s) (zero-mul w)

  -- one more has the row above them before them
  pub last_rows_more : (k : ℕ) → k < h → last_rows w h s (k + 1) ≡ take w (drop ((h - 1 - k) * w) s) ++ last_rows w h s k
  unfolding last_rows
  last_rows_more k l =
      let above : h - (k + 1) ≡ h - 1 - k = omega arith in
      let below : h - k ≡ (h - 1 - k) + 1 = omega arith in
      let start = (h - 1 - k) * w in
      let end : start + w ≡ (h - k) * w = omega (arith, ap (λ (n : ℕ). n * w) below, add-mul (h - 1 - k) 1 w, one) in
      ap (λ (n : ℕ). drop (n * w) s) above
      ∙ sym (take-append-drop w (drop start s))
      ∙ ap (λ (l : List ℕ). take w (drop start s) ++ l) (drop-drop w start s ∙ ap (λ (n : ℕ). drop n s) end)
    where
      one : 1 * w ≡ w
      one = omega arith

  module _ (e : length s ≡ w * h) where
    -- no row has no sample
    pub last_rows_none : last_rows w h s 0 ≡ []
    unfolding last_rows
    last_rows_none =
        let whole : h - 0 ≡ h = omega arith in
        let all : h * w ≡ length s = omega (arith, mul_comm w h) in
        ap (λ (n : ℕ). drop (n * w) s) whole ∙ ap (λ (n : ℕ). drop n s) all ∙ drop-length s

    -- k rows have k times the width
    pub last_rows_length : (k : ℕ) → k ≤ h → length (last_rows w h s k) ≡ k * w
    unfolding last_rows
    last_rows_length k l =
        let both : h ≡ (h - k) + k = omega arith in
        length-drop ((h - k) * w) s ∙ omega (arith, ap (λ (n : ℕ). n * w) both, add-mul (h - k) k w, mul_comm w h)
