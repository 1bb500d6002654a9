-- What the loops over the rows have stored: every pixel of the rows so far at its place, and whole lists in the end.
use Prim.Native.Nat.{ℕ, zero, suc, ◌+◌, ◌-◌, ◌*◌, ◌/◌, ◌<◌, ◌≤◌}
use native.Mathlib.Nat.{not-suc-le-zero, mul_comm}
use native.Mathlib.Omega.{arith}
use mathlib.Core.Path.{◌≡◌, refl, sym, ap, ap₂, subst, ◌∙◌}
use mathlib.Core.List.{List, [], ◌∷◌}
use mathlib.Core.Logic.{⊎_elim}
use lib.ListN.{length, get_or, set, length-set}
use lib.Seq.{sets, length-sets, get_or-set_same, get_or-set_other}
use Rattle.definitions.specs.Build.{build, joined, sample}
use Rattle.laws.specs.general.Cases.{lt_or_le}
use Rattle.laws.specs.general.Lists.{build_length, build_at, build_same}
use Rattle.laws.specs.images.Sizes.{row_inside}
use Rattle.laws.specs.general.Writes.{sets_whole, rows_none, rows_more, get_d_before}
use Rattle.mosaic_format.specs.Mosaic.{apart, place_of, together}
use Rattle.mosaic_format.specs.Halves.{even_half, odd_half, by_parity}
use Rattle.mosaic_format.specs.Places.{once}
use Rattle.mosaic_format.specs.Planes.{apart_length, found}
use Rattle.mosaic_format.specs.Undone.{same_places, together_length}
use Rattle.mosaic_format.specs.Rows.{even_place, odd_place, run_inside, run_behind}
use Rattle.mosaic.specs.Rows.{every_second, woven}
use Rattle.mosaic.proofs.Columns.{woven_even, woven_odd}

-- ---- what a run stores, and what it leaves alone

get_d_within : (l vs : List ℕ) (i k : ℕ) → k < length vs → i + length vs ≤ length l → get_or (sets l i vs) (i + k) 0 ≡ get_or vs k 0
get_d_within l [] i k h b = absurd (not-suc-le-zero h)
get_d_within l (v ∷ vs) i zero h b =
    let here : i + 0 ≡ i = omega arith in
    ap (λ (j : ℕ). get_or (sets (set l i v) (suc i) vs) j 0) here
    ∙ get_d_before (set l i v) vs (suc i) i 0 (omega arith)
    ∙ get_or-set_same l i v 0 (omega arith)
get_d_within l (v ∷ vs) i (suc k) h b =
    let here : i + suc k ≡ suc i + k = omega arith in
    ap (λ (j : ℕ). get_or (sets (set l i v) (suc i) vs) j 0) here
    ∙ get_d_within (set l i v) vs (suc i) k (omega arith) (omega (arith, length-set l i v))

get_d_past : (l vs : List ℕ) (i j : ℕ) → i + length vs ≤ j → get_or (sets l i vs) j 0 ≡ get_or l j 0
get_d_past l [] i j h = refl
get_d_past l (v ∷ vs) i j h = get_d_past (set l i v) vs (suc i) j (omega arith) ∙ get_or-set_other l i j v 0 (λ e. omega arith)

-- a place that is none of a run's
get_d_apart : (l vs : List ℕ) (i j : ℕ) → ((k : ℕ) → k < length vs → j ≡ i + k → ⊥) → get_or (sets l i vs) j 0 ≡ get_or l j 0
get_d_apart l vs i j n = ⊎_elim
    (λ (h : j < i). get_d_before l vs i j 0 h)
    (λ (h : i ≤ j).
    ⊎_elim
    (λ (k : j < i + length vs). absurd (n (j - i) (omega arith) (omega arith)))
    (λ (k : i + length vs ≤ j). get_d_past l vs i j k)
    (lt_or_le j (i + length vs)))
    (lt_or_le j i)

-- ---- taken apart: the rows before y stand in the planes

module _ (w h : ℕ) (s : List ℕ) where
  pub record Apart (new : List ℕ) (y : ℕ) : Type 0 where
    pub long : length new ≡ w * h
    pub stand : (x v : ℕ) → x < w → v < y → get_or new (place_of w h x v) 0 ≡ sample s w x v

  module _ {old : List ℕ} {y : ℕ} (q : Apart old y) (l : y < h) where
    abbrev evens : List ℕ
    evens = every_second s ((w + 1) / 2) (y * w)

    abbrev odds : List ℕ
    odds = every_second s (w / 2) (y * w + 1)

    evens_length : length evens ≡ (w + 1) / 2
    evens_length = build_length ((w + 1) / 2) (λ (k : ℕ). get_or s (y * w + 2 * k) 0)

    odds_length : length odds ≡ w / 2
    odds_length = build_length (w / 2) (λ (k : ℕ). get_or s (y * w + 1 + 2 * k) 0)

    abbrev first : List ℕ
    first = sets old (place_of w h 0 y) evens

    abbrev second : List ℕ
    second = sets first (place_of w h 1 y) odds

    -- the row's own pixels
    even_stands : (k : ℕ) → 2 * k < w → get_or second (place_of w h (2 * k) y) 0 ≡ sample s w (2 * k) y
    even_stands k a =
        ap (λ (j : ℕ). get_or second j 0) (even_place w h y k)
        ∙ get_d_before first odds (place_of w h 1 y) (place_of w h 0 y + k) 0 (omega (arith, run_behind w h y l, even_half w))
        ∙ get_d_within old evens (place_of w h 0 y) k (omega (arith, evens_length)) (omega (arith, evens_length, even_half w, run_inside w h y l 0 (omega arith), q.long))
        ∙ build_at ((w + 1) / 2) (λ (j : ℕ). get_or s (y * w + 2 * j) 0) k 0 (omega arith)

    odd_stands : (k : ℕ) → 2 * k + 1 < w → get_or second (place_of w h (2 * k + 1) y) 0 ≡ sample s w (2 * k + 1) y
    odd_stands k a =
        let here : y * w + 1 + 2 * k ≡ y * w + (2 * k + 1) = omega arith in
        ap (λ (j : ℕ). get_or second j 0) (odd_place w h y k)
        ∙ get_d_within first odds (place_of w h 1 y) k (omega (arith, odds_length))
        (omega (arith, odds_length, odd_half w, run_inside w h y l 1 (omega arith), q.long, length-sets old (place_of w h 0 y) evens))
        ∙ build_at (w / 2) (λ (j : ℕ). get_or s (y * w + 1 + 2 * j) 0) k 0 (omega arith)
        ∙ ap (λ (j : ℕ). get_or s j 0) here

    row_stands : (x : ℕ) → x < w → get_or second (place_of w h x y) 0 ≡ sample s w x y
    row_stands = by_parity (λ (x : ℕ). x < w → get_or second (place_of w h x y) 0 ≡ sample s w x y) even_stands odd_stands

    -- the pixels of earlier rows, whose places are none of the row's
    kept : (x v : ℕ) → x < w → v < y → get_or second (place_of w h x v) 0 ≡ get_or old (place_of w h x v) 0
    kept x v a b =
        let apart : (u : ℕ) → u < w → place_of w h x v ≡ place_of w h u y → ⊥ = λ u c e. omega (arith, ((once w h).alone x v u y a (omega arith) c l e).1) in
        get_d_apart first odds (place_of w h 1 y) (place_of w h x v)
        (λ k c e. apart (2 * k + 1) (omega (arith, odds_length)) (e ∙ sym (odd_place w h y k)))
        ∙ get_d_apart old evens (place_of w h 0 y) (place_of w h x v)
        (λ k c e. apart (2 * k) (omega (arith, evens_length)) (e ∙ sym (even_place w h y k)))

    pub one_apart : {new : List ℕ} {i j : ℕ} → i ≡ place_of w h 0 y → j ≡ place_of w h 1 y → new ≡ sets (sets old i evens) j odds → Apart new (y + 1)
    one_apart {new} {i} {j} a b e = one (e ∙ ap₂ (λ (m n : ℕ). sets (sets old m evens) n odds) a b)
      where
        one : new ≡ second → Apart new (y + 1)
        one e = record {
          long = ap length e ∙ length-sets first (place_of w h 1 y) odds ∙ length-sets old (place_of w h 0 y) evens ∙ q.long;
          stand = λ x v a b.
              ap (λ (m : List ℕ). get_or m (place_of w h x v) 0) e
              ∙ ⊎_elim
              (λ (c : v < y). kept x v a c ∙ q.stand x v a c)
              (λ (c : y ≤ v).
              let d : y ≡ v = omega arith in
              subst (λ (u : ℕ). get_or second (place_of w h x u) 0 ≡ sample s w x u) d (row_stands x a))
              (lt_or_le v y);
        }

  pub all_apart : {new : List ℕ} {y : ℕ} → Apart new y → y ≡ h → new ≡ apart w h s
  all_apart {new} {y} q e =
      same_places w h new (apart w h s) q.long (apart_length w h s)
      (λ x v a b. q.stand x v a (omega arith) ∙ sym (found w h s x v a b))

-- ---- put together: the rows before y are stored

module _ (w h : ℕ) (planes : List ℕ) where
  abbrev row_together : ℕ → List ℕ
  row_together y = build w (λ (x : ℕ). get_or planes (place_of w h x y) 0)

  pub record Together (old new : List ℕ) (y : ℕ) : Type 0 where
    pub long : length new ≡ length old
    pub are : new ≡ sets old 0 (joined y row_together)

  pub none_together : (old : List ℕ) → Together old old 0
  none_together old = record { long = refl; are = rows_none old 0 row_together }

  woven_row : (y : ℕ) → build w (woven planes (place_of w h 0 y) (place_of w h 1 y)) ≡ row_together y
  woven_row y = build_same w (woven planes (place_of w h 0 y) (place_of w h 1 y)) (λ (x : ℕ). get_or planes (place_of w h x y) 0) at
    where
      at : (x : ℕ) → x < w → woven planes (place_of w h 0 y) (place_of w h 1 y) x ≡ get_or planes (place_of w h x y) 0
      at = by_parity (λ (x : ℕ). x < w → woven planes (place_of w h 0 y) (place_of w h 1 y) x ≡ get_or planes (place_of w h x y) 0)
          (λ k _. sym (woven_even planes (place_of w h 0 y) (place_of w h 1 y) k) ∙ ap (λ (j : ℕ). get_or planes j 0) (sym (even_place w h y k)))
          (λ k _. sym (woven_odd planes (place_of w h 0 y) (place_of w h 1 y) k) ∙ ap (λ (j : ℕ). get_or planes j 0) (sym (odd_place w h y k)))

  pub one_together : {old mid new : List ℕ} {y i j : ℕ} → Together old mid y → i ≡ place_of w h 0 y → j ≡ place_of w h 1 y
      → new ≡ sets mid (y * w) (build w (woven planes i j)) → Together old new (y + 1)
  one_together {old} {mid} {new} {y} {i} {j} q a b e = record {
    long = ap length e ∙ length-sets mid (y * w) (build w (woven planes i j)) ∙ q.long;
    are =
        rows_more old 0 w y row_together (λ k. build_length w (λ (x : ℕ). get_or planes (place_of w h x k) 0)) q.are
        (e ∙ ap₂ (λ (k : ℕ) (vs : List ℕ). sets mid k vs) (omega arith)
        (ap₂ (λ (m n : ℕ). build w (woven planes m n)) a b ∙ woven_row y));
  }

  pub all_together : {old new : List ℕ} {y : ℕ} → length old ≡ w * h → Together old new y → y ≡ h → new ≡ together w h planes
  unfolding together
  all_together {old} {new} {y} l q e =
      q.are ∙ ap (λ (n : ℕ). sets old 0 (joined n row_together)) e ∙ sets_whole old (joined h row_together) (together_length w h planes ∙ sym l)

-- ---- a row's runs lie inside both lists

module _ (w h y : ℕ) {mosaic planes i j : ℕ} (m : mosaic ≡ w * h) (p : planes ≡ w * h) (l : y < h) (a : i ≡ place_of w h 0 y) (b : j ≡ place_of w h 1 y) where
  row_ends : y * w + w ≤ mosaic
  row_ends = omega (arith, row_inside w h y l, mul_comm w h)

  odds_end : j + w / 2 ≤ planes
  odds_end = omega (arith, run_inside w h y l 1 (omega arith), odd_half w)

  pub fits_apart : (y * w + w ≤ mosaic) × (i + (w + 1) / 2 ≤ j) × (j + w / 2 ≤ planes)
  fits_apart = (row_ends, omega (arith, run_behind w h y l, even_half w), odds_end)

  pub fits_together : (i + (w + 1) / 2 ≤ planes) × (j + w / 2 ≤ planes) × (y * w + w ≤ mosaic)
  fits_together = (omega (arith, run_inside w h y l 0 (omega arith), even_half w), odds_end, row_ends)

pub ruleset rows_apart = (one_apart, all_apart)

pub ruleset rows_together = (none_together, one_together, all_together)
