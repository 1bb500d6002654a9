-- Planes as frames of the aligner's stacks: those of one mosaic with even sides as they stand (`even_stack`), and one plane of several
-- mosaics (`plane_stack`).
use Prim.Native.Nat.{ℕ, zero, suc, ◌+◌, ◌-◌, ◌*◌, ◌/◌, ◌%◌, ◌<◌, ◌≤◌}
use Rattle.std.proofs.Common.{arith, ◌∙◌, take_at, drop_at}
use Rattle.std.specs.Prelude.{◌≡◌, refl, Bool, false, ◌&&◌, List, [], ◌∷◌, map, drop, replicate}
use Rattle.std.proofs.Math.Path.{sym, ap, ap₂}
use Rattle.std.proofs.Math.Bool.{not}
use Rattle.std.proofs.Math.Dec.{eqb}
use Rattle.std.proofs.Math.ListN.{length, get_or, take, length-replicate, get_or-replicate}
use borrow.Author.Tests.{eq-eqb}
use Rattle.definitions.specs.Build.{joined}
use Rattle.definitions.specs.Align.{Options, stack_of, exposure, neighbour, walk, step_bytes, step_words, stack_need}
use Rattle.definitions.specs.Refusals.{accepted, answer, side_over, percentile_over, pair_differs, stack_checks, stack_scratch_checks}
use Rattle.laws.specs.general.Lists.{joined_length}
use Rattle.laws.specs.search.Walk.{neighbour_among, walk_length, walked}
use Rattle.laws.specs.checks.Checks.{skip, skip_all, done, side_skip, length_skip, scratch_skip}
use Rattle.laws.specs.checks.ChecksStack.{past_lists, past_entries, past_reference}
use Rattle.mosaic_format.specs.Mosaic.{half, plane_width, plane_height, plane, apart}
use Rattle.mosaic_format.specs.Planes.{one_of, plane_length, plane_small}

-- What it is to be a stack of n frames of a by b: frame k is r k, and the call is accepted wherever the caller brings a percentile of at
-- most 100 for each frame, a reference among them, a shift list of their number and the scratch.
pub record Stands (n a b : ℕ) (samples : List ℕ) (r : ℕ → List ℕ) : Type 0 where
  pub frame : (percentiles : List ℕ) (reference : ℕ) (options : Options) (k : ℕ) → k < n
      → (exposure (stack_of (replicate n a) (replicate n b) percentiles samples reference options) k).samples ≡ r k
  pub passes : (percentiles : List ℕ) (reference bits shift_list bytes words : ℕ) → length percentiles ≡ n → answer (map percentile_over percentiles) (tt {0}) ≡ accepted tt
      → reference < n → shift_list ≡ 2 * n → stack_need n (step_bytes a b bits) ≤ bytes → stack_need n (step_words a b) ≤ words
      → accepted (tt {0}) ≡ answer (stack_checks (replicate n a) (replicate n b) percentiles reference bits (length samples) shift_list bytes words) tt

-- ---- frames of one size

sides_pass : (n a : ℕ) → a ≤ 8192 → answer (map side_over (replicate n a)) (tt {0}) ≡ accepted tt
sides_pass zero a l = sym (done tt)
sides_pass (suc n) a l = sym (side_skip tt a (map side_over (replicate n a)) l (sym (sides_pass n a l)))

module _ (n a b reference : ℕ) (among : reference < n) where
  pair_passes : (k : ℕ) → k < n → (pair_differs (replicate n a) (replicate n b) reference k).fails ≡ false
  unfolding pair_differs
  pair_passes k l =
      let j = neighbour reference k in
      let m : j < n = neighbour_among reference k n among l in
      let wide : eqb (get_or (replicate n a) j 0) (get_or (replicate n a) k 0) ≡ eqb a a = ap₂ eqb (get_or-replicate n j a 0 m) (get_or-replicate n k a 0 l) in
      let high : eqb (get_or (replicate n b) j 0) (get_or (replicate n b) k 0) ≡ eqb b b = ap₂ eqb (get_or-replicate n j b 0 m) (get_or-replicate n k b 0 l) in
      ap₂ (λ (p q : Bool). not (p && q)) (wide ∙ eq-eqb a a refl) (high ∙ eq-eqb b b refl)

  pairs_pass : (l : List ℕ) → ((i : ℕ) → i < length l → get_or l i 0 < n) → accepted (tt {0}) ≡ answer (map (pair_differs (replicate n a) (replicate n b) reference) l) tt
  pairs_pass [] e = done tt
  pairs_pass (k ∷ l) e = skip tt (pair_differs (replicate n a) (replicate n b) reference k) _ (pair_passes k (e 0 (omega arith))) (pairs_pass l (λ i h. e (suc i) (omega arith)))

module _ (n a b : ℕ) (r : ℕ → List ℕ) (few : n ≤ 16) (wide : a ≤ 8192) (high : b ≤ 8192) (long : (k : ℕ) → k < n → length (r k) ≡ a * b) where
  part : (k : ℕ) → k < n → take (a * b) (drop (k * (a * b)) (joined n r)) ≡ r k
  part k l =
      let o = one_of n k r l in
      let before : length (joined k r) ≡ k * (a * b) = joined_length k (a * b) r (λ i h. long i (omega arith)) in
      ap (λ (m : List ℕ). take (a * b) (drop (k * (a * b)) m)) o.parts
      ∙ ap (take (a * b)) (drop_at (joined k r) _ (k * (a * b)) before)
      ∙ take_at (r k) o.rest (a * b) (long k l)

  pub stands : Stands n a b (joined n r) r
  unfolding exposure stack_of stack_checks stack_scratch_checks
  stands = record {
    frame = λ percentiles reference options k l.
        ap₂ (λ (x y : ℕ). take (x * y) (drop (k * (x * y)) (joined n r))) (get_or-replicate n 0 a 0 (omega arith)) (get_or-replicate n 0 b 0 (omega arith)) ∙ part k l;
    passes = λ percentiles reference bits shift_list bytes words each cut among list pixels maps.
        let w : get_or (replicate n a) 0 0 ≡ a = get_or-replicate n 0 a 0 (omega arith) in
        let h : get_or (replicate n b) 0 0 ≡ b = get_or-replicate n 0 b 0 (omega arith) in
        let m : length (replicate n a) ≡ n = length-replicate n a in
        let m' : length (replicate n b) ≡ n = length-replicate n b in
        let whole : length (joined n r) ≡ n * (a * b) = joined_length n (a * b) r long in
        let pairs : accepted (tt {0}) ≡ answer (map (pair_differs (replicate n a) (replicate n b) reference) (walk reference (length (replicate n a)))) tt =
        pairs_pass n a b reference among (walk reference (length (replicate n a)))
        (λ i k. walk_among reference i among m k) in
        skip_all tt _ _
        (sym
        (past_lists (replicate n a) (replicate n b) percentiles reference (omega arith) (omega arith) (m' ∙ sym m)
        (length_skip tt _ _ _ (each ∙ sym m)
        (past_entries (replicate n a) (replicate n b) percentiles reference (sides_pass n a wide) (sides_pass n b high) cut
        (past_reference (replicate n a) (replicate n b) percentiles reference (omega arith) pairs)))))
        (length_skip tt _ _ _ (whole ∙ sym (ap₂ ◌*◌ m (ap₂ ◌*◌ w h)))
        (length_skip tt _ _ _ (list ∙ sym (ap (λ (k : ℕ). 2 * k) m))
        (scratch_skip tt _ _ _ (need (λ (x y : ℕ). step_bytes x y bits) m w h pixels)
        (scratch_skip tt _ _ _ (need step_words m w h maps) (done tt)))));
  }
    where
      walk_among : (reference i : ℕ) → reference < n → length (replicate n a) ≡ n → i < length (walk reference (length (replicate n a)))
          → get_or (walk reference (length (replicate n a))) i 0 < n
      walk_among reference i among m k =
          rw m
          (walked reference n i among (omega (arith, walk_length reference n among, ap (λ (j : ℕ). length (walk reference j)) m))).among

      need : (f : ℕ → ℕ → ℕ) {x y k room : ℕ} → k ≡ n → x ≡ a → y ≡ b → stack_need n (f a b) ≤ room → stack_need k (f x y) ≤ room
      need f e p q l = rw e (rw p (rw q l))

-- ---- the planes

-- of a mosaic with even sides all four planes have one size, so that they are a stack as they stand
pub even_stack : (w h : ℕ) (s : List ℕ) → w % 2 ≡ 0 → h % 2 ≡ 0 → w ≤ 8192 → h ≤ 8192 → Stands 4 (w / 2) (h / 2) (apart w h s) (plane w h s)
unfolding apart plane_width plane_height half
even_stack w h s even even' a b =
    stands 4 (w / 2) (h / 2) (plane w h s) (omega arith) (omega arith) (omega arith)
    (λ p l. plane_length w h s p ∙ ap₂ ◌*◌ (across p) (down p l))
  where
    across : (p : ℕ) → (w + 1 - p % 2) / 2 ≡ w / 2
    across p = omega arith

    down : (p : ℕ) → p < 4 → (h + 1 - p / 2) / 2 ≡ h / 2
    down p l = omega arith

-- plane p of up to 16 mosaics of one size, one after another, is a stack whatever the sides
pub plane_stack : (n w h p : ℕ) (mosaics : ℕ → List ℕ) → n ≤ 16 → w ≤ 8192 → h ≤ 8192 → p < 4
    → Stands n (plane_width w p) (plane_height h p) (joined n (λ (k : ℕ). plane w h (mosaics k) p)) (λ (k : ℕ). plane w h (mosaics k) p)
plane_stack n w h p mosaics few a b l =
    let small = plane_small w h (mosaics 0) p l a b in
    stands n (plane_width w p) (plane_height h p) (λ (k : ℕ). plane w h (mosaics k) p) few (omega (arith, small.0)) (omega (arith, small.1))
    (λ k _. plane_length w h (mosaics k) p)
