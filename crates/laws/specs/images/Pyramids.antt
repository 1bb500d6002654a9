-- The levels of a pyramid: their sides and samples, how little they come to, and where each stands in the scratch.
use Rattle.std.specs.Prelude.{◌≡◌, Bool, List, [], ◌++◌, drop}
use Rattle.std.proofs.Math.Path.{refl, sym, ap, ap₂}
use Rattle.std.proofs.Common.{◌∙◌, append_assoc, add-zero, mul-le-mul, eq-or-lt_of_le, le_of_suc-le-suc, not-suc-le-zero, length-take-le, take_all, drop_at}
use Rattle.std.proofs.Math.Bool.{true, false, cond}
use Rattle.std.proofs.Math.Logic.{⊎_elim}
use Prim.Native.Nat.{ℕ, zero, suc, ◌+◌, ◌*◌, ◌/◌, ◌<◌, ◌≤◌}
use Rattle.std.proofs.Math.Nat.{mul_comm}
use Rattle.std.proofs.Math.Numerals.{add-one}
use native.Mathlib.Omega.{arith}
use borrow.Author.Tests.{ltb-false, leb-true, eqb-true, eqb-false, not-false, eq-eqb, ne_eqb, le-leb, lt-leb}
use Rattle.std.proofs.Math.Dec.{eqb, leb}
use Rattle.std.proofs.Math.ListN.{length, take, length-drop}
use Rattle.std.proofs.lemmas.List.Edits.{sets, sets-eq}
use Rattle.std.proofs.lemmas.List.{drop-append-le}
use Rattle.std.proofs.Math.Seq.{drop-append-add, take-append-le, take-length}
use Rattle.definitions.specs.Sum.{sum}
use Rattle.definitions.specs.Build.{joined}
use Rattle.definitions.specs.Shrink.{Shrink, halved_sample, shrink2, side_at, samples_at, level_of, halved_samples, level_start, pyramid, level_part, LevelPlace, nowhere, place_of, part_at}
use Rattle.definitions.specs.Align.{levels}
use Rattle.definitions.specs.Refusals.{Check, accepted, answer, after, side_over, wrong_length, scratch_short, pyramid_checks}
use Rattle.laws.specs.checks.Checks.{passed, after_holds, after_by}
use Rattle.laws.specs.general.Lists.{image_length}
use Rattle.laws.specs.general.Members.{joined_sum}
use Rattle.laws.specs.general.Sums.{sum_none, sum_more, sum_ext, sum_mono}

-- ---- lists of several lengths, one after another

module _ {A : Type 0} (r : ℕ → List A) (f : ℕ → ℕ) (long : (i : ℕ) → length (r i) ≡ f i) where
  pub joined_lengths : (n : ℕ) → length (joined n r) ≡ sum n f
  joined_lengths n = joined_sum n r ∙ sum_ext n (λ (i : ℕ). length (r i)) f (λ i l. long i)

  -- list j starts past those before it
  pub joined_part : (n j : ℕ) → j < n → take (f j) (drop (sum j f) (joined n r)) ≡ r j
  unfolding joined
  joined_part zero j l = absurd (not-suc-le-zero l)
  joined_part (suc n) j l = ⊎_elim
      (λ (e : j ≡ n).
      rw e (ap (take (f n)) (drop_at (joined n r) (r n) (sum n f) (joined_lengths n)) ∙ ap (λ (m : ℕ). take m (r n)) (sym (long n)) ∙ take-length (r n)))
      (λ (k : j < n).
      let room : sum j f + f j ≤ length (joined n r) = omega (arith, joined_lengths n, sum_more j f, sum_mono (j + 1) n f (omega arith)) in
      ap (take (f j)) (drop-append-le (sum j f) (joined n r) (r n) (omega arith))
      ∙ take-append-le (f j) (drop (sum j f) (joined n r)) (r n) (simp length-drop (omega arith))
      ∙ joined_part n j k)
      (eq-or-lt_of_le (le_of_suc-le-suc l))

-- a part of a run of stores
pub sets_part : {A : Type 0} (l vs : List A) (at i n : ℕ) → at + length vs ≤ length l → i + n ≤ length vs → take n (drop (at + i) (sets l at vs)) ≡ take n (drop i vs)
sets_part {A} l vs at i n p q =
    let rest = vs ++ drop (at + length vs) l in
    let front : length (take at l) ≡ at = length-take-le at l (omega arith) in
    ap (λ (m : List A). take n (drop (at + i) m)) (sets-eq vs l at p ∙ append_assoc (take at l) vs (drop (at + length vs) l))
    ∙ ap (λ (k : ℕ). take n (drop (k + i) (take at l ++ rest))) (sym front)
    ∙ ap (take n) (drop-append-add (take at l) rest i ∙ drop-append-le i vs (drop (at + length vs) l) (omega arith))
    ∙ take-append-le n (drop i vs) (drop (at + length vs) l) (simp length-drop (omega arith))

-- what a run of stores has stored
pub sets_there : {A : Type 0} (l vs : List A) (at n : ℕ) → length vs ≡ n → at + n ≤ length l → take n (drop at (sets l at vs)) ≡ vs
sets_there l vs at n e h =
    ap (λ (k : ℕ). take n (drop k (sets l at vs))) (sym (add-zero at))
    ∙ sets_part l vs at 0 n (omega arith) (omega arith)
    ∙ take_all n vs (omega arith)

-- ---- sides

pub side_none : (side : ℕ) → side_at 0 side ≡ side
unfolding side_at
side_none side = refl

pub side_more : (k side : ℕ) {a : ℕ} → a ≡ side_at k side → a / 2 ≡ side_at (k + 1) side
unfolding side_at
side_more k side e = ap (λ (b : ℕ). b / 2) e ∙ sym (ap (λ (j : ℕ). side_at j side) (add-one k))

pub side_le : (k side : ℕ) → side_at k side ≤ side
unfolding side_at
side_le zero side = omega arith
side_le (suc k) side = omega (arith, side_le k side)

-- ---- samples

quarter : (a b : ℕ) → 4 * (a / 2 * (b / 2)) ≤ a * b
quarter a b =
    let p : 2 * (a / 2) ≤ a = omega arith in
    let q : 2 * (b / 2) ≤ b = omega arith in
    omega (arith, mul-le-mul p q)

module _ (w h : ℕ) where
  -- a level's samples by its sides
  pub samples_are : (k : ℕ) {a b : ℕ} → a ≡ side_at k w → b ≡ side_at k h → a * b ≡ samples_at k w h
  unfolding samples_at
  samples_are k p q = ap₂ (λ (a b : ℕ). a * b) p q

  samples_none : samples_at 0 w h ≡ w * h
  samples_none = sym (samples_are 0 (sym (side_none w)) (sym (side_none h)))

  pub samples_quarter : (k : ℕ) → 4 * samples_at (suc k) w h ≤ samples_at k w h
  unfolding samples_at side_at
  samples_quarter k = quarter (side_at k w) (side_at k h)

  pub halved_none : halved_samples w h 0 ≡ 0
  unfolding halved_samples
  halved_none = sum_none (λ (k : ℕ). samples_at (suc k) w h)

  pub halved_suc : (n : ℕ) → halved_samples w h (suc n) ≡ halved_samples w h n + samples_at (suc n) w h
  unfolding halved_samples sum
  halved_suc n = refl

  pub halved_more : (n : ℕ) → halved_samples w h (n + 1) ≡ halved_samples w h n + samples_at (n + 1) w h
  halved_more n = rw add-one (halved_suc n)

  pub halved_one : w / 2 * (h / 2) ≡ halved_samples w h 1
  halved_one = omega (arith, samples_are 1 (side_more 0 w (sym (side_none w))) (side_more 0 h (sym (side_none h))), halved_none, halved_suc 0)

  -- the levels come to a third of the frame at most
  third : (n : ℕ) → 3 * halved_samples w h n + samples_at n w h ≤ w * h
  third zero = omega (arith, halved_none, samples_none)
  third (suc n) = omega (arith, third n, halved_suc n, samples_quarter n)

  pub halved_third : (n : ℕ) → 3 * halved_samples w h n ≤ w * h
  halved_third n = omega (arith, third n)

  pub halved_le : (m n : ℕ) → m ≤ n → halved_samples w h m ≤ halved_samples w h n
  unfolding halved_samples
  halved_le m n l = sum_mono m n (λ (k : ℕ). samples_at (suc k) w h) l

  -- where a level starts, and where it ends
  start_suc : (k : ℕ) → level_start w h (suc k) ≡ halved_samples w h k
  unfolding level_start
  start_suc k = ap (halved_samples w h) (omega arith)

  pub level_end : (k : ℕ) → 1 ≤ k → level_start w h k + samples_at k w h ≡ halved_samples w h k
  level_end zero l = absurd (not-suc-le-zero l)
  level_end (suc k) l = omega (arith, start_suc k, halved_suc k)

-- ---- levels

module _ (mode : Shrink) (w h : ℕ) (s : List ℕ) where
  pub level_one : level_of mode w h s 1 ≡ shrink2 mode w h s
  unfolding level_of side_at
  level_one = refl

  pub level_more : (k : ℕ) → level_of mode w h s (k + 1) ≡ shrink2 mode (side_at k w) (side_at k h) (level_of mode w h s k)
  unfolding level_of
  level_more k = ap (level_of mode w h s) (add-one k)

  halved_length : (k : ℕ) → length (level_of mode w h s (suc k)) ≡ samples_at (suc k) w h
  unfolding level_of shrink2 samples_at side_at
  halved_length k =
      image_length (side_at k w / 2) (side_at k h / 2) (halved_sample mode (level_of mode w h s k) (side_at k w))
      ∙ mul_comm (side_at k h / 2) (side_at k w / 2)

  pub level_length : (k : ℕ) → length s ≡ w * h → length (level_of mode w h s k) ≡ samples_at k w h
  unfolding level_of
  level_length zero e = e ∙ sym (samples_none w h)
  level_length (suc k) e = halved_length k

  pub pyramid_none : pyramid mode w h s 0 ≡ []
  unfolding pyramid joined
  pyramid_none = refl

  pub pyramid_one : pyramid mode w h s 1 ≡ shrink2 mode w h s
  unfolding pyramid joined level_of side_at
  pyramid_one = refl

  pub pyramid_more : (n : ℕ) → pyramid mode w h s (n + 1) ≡ pyramid mode w h s n ++ level_of mode w h s (n + 1)
  unfolding pyramid joined
  pyramid_more n = rw add-one refl

  pub pyramid_length : (n : ℕ) → length (pyramid mode w h s n) ≡ halved_samples w h n
  unfolding pyramid halved_samples
  pyramid_length n = joined_lengths (λ (k : ℕ). level_of mode w h s (suc k)) (λ (k : ℕ). samples_at (suc k) w h) halved_length n

  -- level k stands in the pyramid where it starts
  pub level_part_lem : (n k : ℕ) → 1 ≤ k → k ≤ n → take (samples_at k w h) (drop (level_start w h k) (pyramid mode w h s n)) ≡ level_of mode w h s k
  unfolding pyramid halved_samples
  level_part_lem n zero p q = absurd (not-suc-le-zero p)
  level_part_lem n (suc k) p q = rw (start_suc w h k) (joined_part (λ (j : ℕ). level_of mode w h s (suc j)) (λ (j : ℕ). samples_at (suc j) w h) halved_length n k q)

-- ---- where a level stands

module _ (w h n k : ℕ) where
  abbrev frame_whole : LevelPlace
  frame_whole = record { in_scratch = false; start = 0; samples = w * h }

  abbrev scratch_part : LevelPlace
  scratch_part = record { in_scratch = true; start = level_start w h k; samples = samples_at k w h }

  pub place_frame : k ≡ 0 → frame_whole ≡ place_of w h n k
  unfolding place_of
  place_frame e = rw (eq-eqb k 0 e)

  pub place_past_lem : (k ≡ 0 → ⊥) → n < k → nowhere ≡ place_of w h n k
  unfolding place_of
  place_past_lem e l = rw (ne_eqb k 0 e, lt-leb k n l)

  pub place_level : (k ≡ 0 → ⊥) → k ≤ n → scratch_part ≡ place_of w h n k
  unfolding place_of
  place_level e l = rw (ne_eqb k 0 e, le-leb k n l)

  module _ (frame scratch : List ℕ) (whole : length frame ≡ w * h) where
    -- the level is the part that stands there
    pub part_stands : level_part w h n frame scratch k ≡ part_at (place_of w h n k) frame scratch
    unfolding level_part place_of nowhere
    part_stands = on (eqb k 0) (leb k n)
      where
        on : (first halved : Bool)
            → cond first frame (cond halved (take (samples_at k w h) (drop (level_start w h k) scratch)) [])
            ≡ part_at (cond first frame_whole (cond halved scratch_part nowhere)) frame scratch
        on true halved = sym (take_all (w * h) frame (omega arith))
        on false true = refl
        on false false = refl

    -- and the place lies inside its list
    pub place_inside : halved_samples w h n ≤ length scratch → let p = place_of w h n k in p.start + p.samples ≤ length (cond p.in_scratch scratch frame)
    unfolding place_of nowhere
    place_inside room = on (eqb k 0) refl (leb k n) refl
      where
        on : (first : Bool) → eqb k 0 ≡ first → (halved : Bool) → leb k n ≡ halved
            → let p = cond first frame_whole (cond halved scratch_part nowhere) in
            p.start + p.samples ≤ length (cond p.in_scratch scratch frame)
        on true e halved f = omega arith
        on false e true f = omega (arith, level_end w h k (omega (arith, eqb-false k 0 e)), halved_le w h k n (leb-true k n f))
        on false e false f = omega arith

-- ---- what a call whose checks pass was given

pub record InOrder (w h samples bits scratch : ℕ) : Type 0 where
  pub wide : w ≤ 8192
  pub high : h ≤ 8192
  pub whole : samples ≡ w * h
  pub room : halved_samples w h (levels w h bits) ≤ scratch

pub in_order : (w h samples bits scratch : ℕ) → accepted (tt {0}) ≡ answer (pyramid_checks w h samples bits scratch) tt → InOrder w h samples bits scratch
unfolding pyramid_checks side_over wrong_length scratch_short
in_order w h samples bits scratch e =
    let a = passed (tt {0}) _ _ (sym e) in
    let b = passed (tt {0}) _ _ a.1 in
    let c = passed (tt {0}) _ _ b.1 in
    let d = passed (tt {0}) _ _ c.1 in
    record {
      wide = ltb-false 8192 w a.0;
      high = ltb-false 8192 h b.0;
      whole = eqb-true samples (w * h) (not-false _ c.0);
      room = ltb-false scratch (halved_samples w h (levels w h bits)) d.0;
    }

-- ---- a level that is asked for, by its checks

module _ (w h bits k : ℕ) (frame scratch : List ℕ) where
  abbrev checks : List Check
  checks = pyramid_checks w h (length frame) bits (length scratch)

  abbrev asked : LevelPlace
  asked = after checks (place_of w h (levels w h bits) k) nowhere

  pub level_stands : after checks (level_part w h (levels w h bits) frame scratch k) [] ≡ part_at asked frame scratch
  unfolding nowhere
  level_stands =
      after_by checks (place_of w h (levels w h bits) k) nowhere (λ (p : LevelPlace). part_at p frame scratch)
      (λ e. part_stands w h (levels w h bits) k frame scratch (in_order w h (length frame) bits (length scratch) e).whole)
      refl

  pub level_inside : asked.start + asked.samples ≤ length (cond asked.in_scratch scratch frame)
  unfolding nowhere
  level_inside =
      after_holds checks (place_of w h (levels w h bits) k) nowhere
      (λ (p : LevelPlace). p.start + p.samples ≤ length (cond p.in_scratch scratch frame))
      (λ e. let f = in_order w h (length frame) bits (length scratch) e in place_inside w h (levels w h bits) k frame scratch f.whole f.room)
      (omega arith)
