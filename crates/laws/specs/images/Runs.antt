-- A row of a moved image as three runs: zeros, the samples of the places that have a source, zeros.
use Rattle.std.specs.Prelude.{◌≡◌, refl, List, ◌++◌, ℕ, ◌+◌, ◌-◌, ◌*◌, ◌<◌, ◌≤◌, length, get_or, ℤ}
use Rattle.std.proofs.Common.{sym, ap₂, ◌∙◌, add_assoc, mul_comm, arith}
use Rattle.std.proofs.Math.Path.{ap}
use Rattle.std.proofs.Math.ListN.{replicate}
use Rattle.std.proofs.lemmas.List.Edits.{sets}
use Rattle.definitions.specs.Build.{build, sample}
use Rattle.definitions.specs.Geometry.{Shift, Source, inside, outside, source, value_at_source, at_sources, ahead, behind, shifted}
use Rattle.laws.specs.general.Whole.{alone}
use Rattle.laws.specs.general.Lists.{build_add, build_same, build_const, build_length, joined_same, joined_const}
use Rattle.laws.specs.images.Places.{source_before, source_inside, source_past, outside_all, Covering}
use Rattle.laws.specs.general.Writes.{sets_append}

module _ {A : Type 0} where
  -- one run written behind another
  pub sets_then : (l : List A) (i n : ℕ) (vs ws : List A) {m new : List A} → length vs ≡ n → m ≡ sets l i vs → new ≡ sets m (i + n) ws → new ≡ sets l i (vs ++ ws)
  sets_then l i n vs ws {m} {new} e p q =
      q ∙ ap₂ (λ (x : List A) (k : ℕ). sets x (i + k) ws) p (sym e) ∙ sym (sets_append l i vs ws)

  -- one value in the places from a to before b, where it is what f has there
  pub fill_more : (l : List A) (f : ℕ → A) (a b : ℕ) (value : A) {m new : List A} → a ≤ b → ((v : ℕ) → a ≤ v → v < b → value ≡ f v) → m ≡ sets l 0 (build a f)
      → new ≡ sets m a (replicate (b - a) value) → new ≡ sets l 0 (build b f)
  fill_more l f a b value {m} {new} h same p q =
      let d = b - a in
      let up : a + d ≡ b = omega arith in
      let at : 0 + a ≡ a = omega arith in
      let rest : ℕ → A = λ k. f (a + k) in
      let filled : build d (λ (k : ℕ). value) ≡ build d rest = build_same d (λ (k : ℕ). value) rest (λ k i. same (a + k) (omega arith) (omega arith)) in
      let run : replicate d value ≡ build d rest = sym (build_const d value) ∙ filled in
      sets_then l 0 a (build a f) (build d rest) (build_length a f) p (q ∙ ap₂ (λ (i : ℕ) (w : List A). sets m i w) (sym at) run)
      ∙ ap (sets l 0) (sym (build_add a d f) ∙ ap (λ (n : ℕ). build n f) up)

-- ---- the places of a side that have a source are one run

-- `before` places stand before the run, its `n` places read from `first` on, and `first` places stand past it
module _ {w : ℕ} {s : ℤ} {before first : ℕ} (r : Covering w s before first) where
  abbrev n : ℕ
  n = w - before - first

  pub run_sum_lem : before + n + first ≡ w
  run_sum_lem = omega (arith, r.first_is, r.source_is, r.some)

  module _ (f : ℕ → ℕ) where
    abbrev at : ℕ → ℕ
    at x = value_at_source (source x s w) f

    by : (x : ℕ) {p : Source} → source x s w ≡ p → at x ≡ value_at_source p f
    by x e = ap (λ (p : Source). value_at_source p f) e

    left_of : (x : ℕ) → x < before → at x ≡ 0
    left_of x h = by x (source_before x s w (omega (arith, r.first_is)))

    within : (k : ℕ) → k < n → at (before + k) ≡ f (first + k)
    within k h = by (before + k) (source_inside (before + k) s w (first + k) (omega (arith, r.first_is, r.source_is)) (omega (arith, r.first_is, r.source_is)))

    right_of : (k : ℕ) → k < first → at (before + (n + k)) ≡ 0
    right_of k h = by (before + (n + k)) (source_past (before + (n + k)) s w (omega (arith, r.first_is, r.source_is, r.some, alone s)))

    pub row_runs : build w at ≡ replicate before 0 ++ (build n (λ (k : ℕ). f (first + k)) ++ replicate first 0)
    row_runs =
        ap (λ (k : ℕ). build k at) (omega (arith, run_sum_lem))
        ∙ build_add before (n + first) at
        ∙ ap₂ (λ (a b : List ℕ). a ++ b)
        (build_same before at (λ (x : ℕ). 0) left_of ∙ build_const before 0)
        (build_add n first (λ (k : ℕ). at (before + k))
        ∙ ap₂ (λ (a b : List ℕ). a ++ b)
        (build_same n (λ (k : ℕ). at (before + k)) (λ (k : ℕ). f (first + k)) within)
        (build_same first (λ (k : ℕ). at (before + (n + k))) (λ (k : ℕ). 0) right_of ∙ build_const first 0))

-- ---- row y of a moved image

module _ (w h : ℕ) (samples : List ℕ) (s : Shift) where
  abbrev pub moved_row : ℕ → List ℕ
  moved_row y = build w (λ (x : ℕ). at_sources w h s x y (λ (u v : ℕ). sample samples w u v))

  by_row : (y : ℕ) {p : Source} → source y s.y h ≡ p
      → moved_row y ≡ build w (λ (x : ℕ). value_at_source (source x s.x w) (λ (u : ℕ). value_at_source p (λ (v : ℕ). sample samples w u v)))
  unfolding at_sources
  by_row y e = ap (λ (p : Source). build w (λ (x : ℕ). value_at_source (source x s.x w) (λ (u : ℕ). value_at_source p (λ (v : ℕ). sample samples w u v)))) e

  pub row_outside : (y : ℕ) → source y s.y h ≡ outside → moved_row y ≡ replicate w 0
  row_outside y e =
      by_row y e
      ∙ build_same w (λ (x : ℕ). value_at_source (source x s.x w) (λ (u : ℕ). 0)) (λ (x : ℕ). 0) (λ x l. none (source x s.x w))
      ∙ build_const w 0
    where
      none : (p : Source) → value_at_source p (λ (u : ℕ). 0) ≡ 0
      none (inside i) = refl
      none outside = refl

  pub row_inside : {before first : ℕ} → Covering w s.x before first → (y v : ℕ) → source y s.y h ≡ inside v
      → moved_row y ≡ replicate before 0 ++ (build (w - before - first) (λ (k : ℕ). get_or samples (v * w + first + k) 0) ++ replicate first 0)
  row_inside {before} {first} r y v e =
      let n = w - before - first in
      by_row y e
      ∙ row_runs r (λ (u : ℕ). sample samples w u v)
      ∙ ap (λ (l : List ℕ). replicate before 0 ++ (l ++ replicate first 0))
      (build_same n (λ (k : ℕ). get_or samples (v * w + (first + k)) 0) (λ (k : ℕ). get_or samples (v * w + first + k) 0)
      (λ k h. ap (λ (i : ℕ). get_or samples i 0) (sym (add_assoc (v * w) first k))))

  -- an image that is moved off to a side
  pub moved_off : w ≤ ahead s.x + behind s.x → shifted w h samples s ≡ replicate (w * h) 0
  unfolding shifted at_sources
  moved_off l =
      joined_same h moved_row (λ (y : ℕ). replicate w 0)
      (λ y _. build_same w (λ (x : ℕ). at_sources w h s x y (λ (u v : ℕ). sample samples w u v)) (λ (x : ℕ). 0)
      (λ x k. ap (λ (p : Source). value_at_source p (λ (u : ℕ). value_at_source (source y s.y h) (λ (v : ℕ). sample samples w u v))) (outside_all w s.x l x k))
      ∙ build_const w 0)
      ∙ joined_const h w 0
      ∙ ap (λ (k : ℕ). replicate {A = ℕ} k 0) (mul_comm h w)
