-- The rows of a moved image that have a source follow each other: those above and below them are zeros.
use Rattle.std.proofs.Common.{◌≡◌, sym, ap, ap₂, ◌∙◌, add_assoc, List, ◌++◌, ℕ, zero, suc, ◌+◌, ◌-◌, ◌*◌, ◌≤◌, ◌<◌, length, get_or, replicate, arith}
use native.Mathlib.Nat.{zero-add, add-zero, add-suc, zero-mul, suc-mul, add-mul, mul_comm}
use mathlib.Core.List.{append_assoc, append-nil}
use lib.ListN.{length-append, length-replicate}
use lib.Seq.{sets, length-sets}
use Rattle.definitions.specs.Build.{build, joined, sample}
use Rattle.definitions.specs.Geometry.{Shift, outside, source, at_sources, ahead, behind, shifted}
use Rattle.laws.specs.general.Lists.{build_none, build_add, build_same, build_length, joined_same, joined_const, joined_length, image_length}
use Rattle.laws.specs.general.Whole.{alone}
use Rattle.laws.specs.general.Writes.{rows_more, sets_whole}
use Rattle.laws.specs.images.Places.{Covering, source_before, source_inside, source_past, outside_all}
use Rattle.laws.specs.images.Runs.{moved_row, row_outside, row_inside, sets_then}

-- rows one after another, some before others
joined_add : (n m : ℕ) (r : ℕ → List ℕ) → joined (n + m) r ≡ joined n r ++ joined m (λ (k : ℕ). r (n + k))
unfolding joined
joined_add n zero r = ap (λ (k : ℕ). joined k r) (add-zero n) ∙ sym (append-nil (joined n r))
joined_add n (suc m) r =
    ap (λ (k : ℕ). joined k r) (add-suc n m)
    ∙ ap (λ (l : List ℕ). l ++ r (n + m)) (joined_add n m r)
    ∙ append_assoc (joined n r) (joined m (λ (k : ℕ). r (n + k))) (r (n + m))

-- ---- a row of a moved image of which `before` and `past` places have no source; the row that it reads from stands from `at` on

abbrev pub row_from : List ℕ → ℕ → ℕ → ℕ → ℕ → List ℕ
row_from samples w before past at = replicate before 0 ++ (build (w - before - past) (λ (k : ℕ). get_or samples (at + past + k) 0) ++ replicate past 0)

row_length : (samples : List ℕ) (w before past at : ℕ) → before + past ≤ w → length (row_from samples w before past at) ≡ w
row_length samples w before past at l =
    let f : ℕ → ℕ = λ k. get_or samples (at + past + k) 0 in
    omega (
      arith,
      length-append (replicate before 0) (build (w - before - past) f ++ replicate past 0),
      length-append (build (w - before - past) f) (replicate past 0),
      length-replicate {A = ℕ} before 0,
      build_length (w - before - past) f,
      length-replicate {A = ℕ} past 0,
    )

-- one row more
pub row_more : (samples : List ℕ) (from w before past at y : ℕ) (old : List ℕ) {m new : List ℕ} → before + past ≤ w
    → m ≡ sets old at (joined y (λ (k : ℕ). row_from samples w before past (from + k * w))) → new ≡ sets m (at + y * w) (row_from samples w before past (from + y * w))
    → (length new ≡ length old) × (new ≡ sets old at (joined (y + 1) (λ (k : ℕ). row_from samples w before past (from + k * w))))
row_more samples from w before past at y old l p q =
    let row : ℕ → List ℕ = λ k. row_from samples w before past (from + k * w) in
    let r = rows_more old at w y row (λ k. row_length samples w before past (from + k * w) l) p q in
    (ap length r ∙ length-sets old at (joined (y + 1) row), r)

-- rows of n that follow each other are one run
joined_run : (m n : ℕ) (f : ℕ → ℕ) → joined m (λ (y : ℕ). build n (λ (k : ℕ). f (y * n + k))) ≡ build (m * n) f
unfolding joined
joined_run zero n f = sym (ap (λ (k : ℕ). build k f) (zero-mul n) ∙ build_none f)
joined_run (suc m) n f =
    ap (λ (l : List ℕ). l ++ build n (λ (k : ℕ). f (m * n + k))) (joined_run m n f)
    ∙ sym (ap (λ (k : ℕ). build k f) (suc-mul m n) ∙ build_add (m * n) n f)

-- a row of which each place has a source
whole_row : (samples : List ℕ) (w before past at : ℕ) → before ≡ 0 → past ≡ 0 → row_from samples w before past at ≡ build w (λ (k : ℕ). get_or samples (at + k) 0)
whole_row samples w before past at p q =
    let f : ℕ → ℕ = λ k. get_or samples (at + 0 + k) 0 in
    ap₂ (λ (a b : ℕ). row_from samples w a b at) p q
    ∙ append-nil (build (w - 0 - 0) f)
    ∙ ap (λ (k : ℕ). build k f) (omega arith)
    ∙ ap (λ (i : ℕ). build w (λ (k : ℕ). get_or samples (i + k) 0)) (add-zero at)

-- and such rows
pub whole_rows : (samples : List ℕ) (from w before past rows : ℕ) → before + past ≤ w → w - before - past ≡ w
    → build (rows * w) (λ (k : ℕ). get_or samples (from + k) 0) ≡ joined rows (λ (k : ℕ). row_from samples w before past (from + k * w))
whole_rows samples from w before past rows l e =
    let f : ℕ → ℕ = λ i. get_or samples (from + i) 0 in
    sym (joined_run rows w f)
    ∙ joined_same rows (λ (y : ℕ). build w (λ (k : ℕ). f (y * w + k))) (λ (y : ℕ). row_from samples w before past (from + y * w))
    (λ y _. build_same w (λ (k : ℕ). f (y * w + k)) (λ (k : ℕ). get_or samples (from + y * w + k) 0)
    (λ k _. ap (λ (i : ℕ). get_or samples i 0) (sym (add_assoc from (y * w) k)))
    ∙ sym (whole_row samples w before past (from + y * w) (omega arith) (omega arith)))

-- ---- all rows

module _ (w h : ℕ) (samples : List ℕ) (s : Shift) where
  abbrev pixel : ℕ → ℕ → ℕ
  pixel x y = at_sources w h s x y (λ (u v : ℕ). sample samples w u v)

  abbrev row : ℕ → List ℕ
  row = moved_row w h samples s

  -- rows that have no source
  blank : (n : ℕ) (at : ℕ → ℕ) → ((k : ℕ) → k < n → source (at k) s.y h ≡ outside) → joined n (λ (k : ℕ). row (at k)) ≡ replicate (n * w) 0
  blank n at none = joined_same n (λ (k : ℕ). row (at k)) (λ (k : ℕ). replicate w 0) (λ k l. row_outside w h samples s (at k) (none k l)) ∙ joined_const n w 0

  -- an image that is moved off to the top or the bottom
  pub moved_off_down : h ≤ ahead s.y + behind s.y → shifted w h samples s ≡ replicate (w * h) 0
  unfolding shifted
  moved_off_down l = blank h (λ (k : ℕ). k) (outside_all h s.y l) ∙ ap (λ (k : ℕ). replicate {A = ℕ} k 0) (mul_comm h w)

  module _ {before first upper top : ℕ} (across : Covering w s.x before first) (down : Covering h s.y upper top) where
    abbrev rows : ℕ
    rows = h - upper - top

    abbrev covered : ℕ → List ℕ
    covered y = row_from samples w before first (top * w + y * w)

    row_is : (y : ℕ) → y < rows → row (upper + y) ≡ covered y
    row_is y l =
        row_inside w h samples s across (upper + y) (top + y)
        (source_inside (upper + y) s.y h (top + y) (omega (arith, down.first_is, down.source_is)) (omega (arith, down.first_is, down.source_is)))
        ∙ ap (row_from samples w before first) (add-mul top y w)

    parts : upper + (rows + top) ≡ h
    parts = omega (arith, down.first_is, down.source_is, down.some)

    shifted_rows : shifted w h samples s ≡ replicate (upper * w) 0 ++ (joined rows covered ++ replicate (top * w) 0)
    unfolding shifted
    shifted_rows =
        ap (λ (k : ℕ). joined k row) (sym parts)
        ∙ joined_add upper (rows + top) row
        ∙ ap₂ (λ (a b : List ℕ). a ++ b)
        (blank upper (λ (k : ℕ). k) (λ k l. source_before k s.y h (omega (arith, down.first_is))))
        (joined_add rows top (λ (k : ℕ). row (upper + k))
        ∙ ap₂ (λ (a b : List ℕ). a ++ b)
        (joined_same rows (λ (k : ℕ). row (upper + k)) covered row_is)
        (blank top (λ (k : ℕ). upper + (rows + k))
        (λ k l. source_past (upper + (rows + k)) s.y h (omega (arith, down.first_is, down.source_is, down.some, alone s.y)))))

    -- the rows take the whole image
    pub rows_fit : (upper * w + rows * w + top * w ≡ w * h) × ((upper + rows) * w ≡ upper * w + rows * w)
    rows_fit =
        let e = add-mul upper rows w in
        (omega (arith, e, add-mul (upper + rows) top w, ap (λ (k : ℕ). k * w) (add_assoc upper rows top ∙ parts), mul_comm h w), e)

    -- three writes: the rows above, those that have a source, the rows below
    pub rows_written : (old : List ℕ) {m out new : List ℕ} → length old ≡ w * h → m ≡ sets old 0 (replicate (upper * w) 0) → out ≡ sets m (upper * w) (joined rows covered)
        → new ≡ sets out ((upper + rows) * w) (replicate (top * w) 0) → new ≡ shifted w h samples s
    unfolding shifted
    rows_written old {m} {out} e p q r =
        let long : length (joined rows covered) ≡ rows * w =
        joined_length rows w covered (λ y l. ap (length {A = ℕ}) (sym (row_is y l)) ∙ build_length w (λ (x : ℕ). pixel x (upper + y))) in
        let next : (upper + rows) * w ≡ 0 + upper * w + rows * w = omega (arith, add-mul upper rows w) in
        sets_then old 0 (upper * w) (replicate (upper * w) 0) (joined rows covered ++ replicate (top * w) 0) (length-replicate (upper * w) 0) p
        (sets_then m (0 + upper * w) (rows * w) (joined rows covered) (replicate (top * w) 0) long
        (q ∙ ap (λ (i : ℕ). sets m i (joined rows covered)) (sym (zero-add (upper * w))))
        (r ∙ ap (λ (i : ℕ). sets out i (replicate (top * w) 0)) next))
        ∙ ap (sets old 0) (sym shifted_rows)
        ∙ sets_whole old (shifted w h samples s) (image_length w h pixel ∙ mul_comm h w ∙ sym e)
