-- The checks of a stack: the frames by the facts that a branch gives, as in `Checks.antt`, and what a stack whose
-- checks pass was given.
use Rattle.std.specs.Prelude.{◌≡◌, refl, false, List, [], ◌∷◌, ◌++◌, map, ℕ, zero, suc, ◌*◌, ◌<◌, ◌≤◌, length, get_or}
use Rattle.std.proofs.Common.{sym, ap, ◌∙◌, lt-ltb, le-ltb, le-leb, ltb-false, leb-false, eqb-true}
use Rattle.std.proofs.lemmas.Bool.{lt-leb, not-false}
use Rattle.definitions.specs.Align.{Options, Stack, neighbour, walk, stack_of, step_bytes, step_words, stack_need, stack_bytes, stack_words}
use Rattle.definitions.specs.Refusals.{Check, Answer, accepted, refused, answer, side_over, wrong_length, percentile_over, unequal, no_reference}
use Rattle.definitions.specs.Refusals.{frames_over, scratch_short, pair_differs, frames_checks, stack_scratch_checks, stack_checks}
use Rattle.laws.specs.checks.Checks.{stop, skip, passed, stop_all, skip_all, passed_all, length_skip}
use Rattle.laws.specs.images.Sizes.{Limits}
use Rattle.laws.specs.search.StepBounds.{Small}

-- ---- each check by the fact that a branch gives

module _ {A : Type 0} (a : A) where
  pub frames_stop : (n : ℕ) (l : List Check) → 16 < n → refused 6 [] ≡ answer (frames_over n ∷ l) a
  unfolding frames_over
  frames_stop n l h = stop a (frames_over n) l (lt-ltb 16 n h)

  pub frames_skip : (n : ℕ) (l : List Check) {r : Answer A} → n ≤ 16 → r ≡ answer l a → r ≡ answer (frames_over n ∷ l) a
  unfolding frames_over
  frames_skip n l h q = skip a (frames_over n) l (le-ltb 16 n h) q

  pub reference_stop : (k n : ℕ) (l : List Check) → n ≤ k → refused 5 (k ∷ n ∷ []) ≡ answer (no_reference k n ∷ l) a
  unfolding no_reference
  reference_stop k n l h = stop a (no_reference k n) l (le-leb n k h)

  pub reference_skip : (k n : ℕ) (l : List Check) {r : Answer A} → k < n → r ≡ answer l a → r ≡ answer (no_reference k n ∷ l) a
  unfolding no_reference
  reference_skip k n l h q = skip a (no_reference k n) l (lt-leb n k h) q

-- ---- a pair of the walk, of frame k and its neighbour j

abbrev pub sizes_apart : List ℕ → List ℕ → ℕ → ℕ → Check
sizes_apart widths heights j k = record {
  fails = unequal (get_or widths j 0) (get_or heights j 0) (get_or widths k 0) (get_or heights k 0);
  number = 4;
  values = get_or widths j 0 ∷ get_or heights j 0 ∷ get_or widths k 0 ∷ get_or heights k 0 ∷ k ∷ [];
}

pub pair_is : (widths heights : List ℕ) (r : ℕ) {i j k : ℕ} → k ≡ i → j ≡ neighbour r k → pair_differs widths heights r i ≡ sizes_apart widths heights j k
unfolding pair_differs
pair_is widths heights r {k = k} e g =
    ap (pair_differs widths heights r) (sym e) ∙ ap (λ (m : ℕ). sizes_apart widths heights m k) (sym g)

-- ---- the frames in stages: past the numbers of widths and heights, the entries of all three lists, and the reference

module _ (widths heights percentiles : List ℕ) (reference : ℕ) where
  abbrev pub pairs_left : List Check
  pairs_left = map (pair_differs widths heights reference) (walk reference (length widths))

  abbrev pub reference_left : List Check
  reference_left = no_reference reference (length widths) ∷ pairs_left

  abbrev sides : List Check
  sides = map side_over widths ++ map side_over heights

  abbrev cuts : List Check
  cuts = map percentile_over percentiles

  abbrev pub entries : List Check
  entries = sides ++ cuts

  module _ {r : Answer (Unit {0})} where
    pub past_lists : length widths ≤ 16 → length heights ≤ 16 → length heights ≡ length widths
        → r ≡ answer (wrong_length (length percentiles) (length widths) ∷ entries ++ reference_left) tt → r ≡ answer (frames_checks widths heights percentiles reference) tt
    unfolding frames_checks
    past_lists p q e h = frames_skip tt _ _ p (frames_skip tt _ _ q (length_skip tt _ _ _ e h))

    pub past_reference : reference < length widths → r ≡ answer pairs_left tt → r ≡ answer reference_left tt
    past_reference q h = reference_skip tt reference (length widths) _ q h

  -- what the entries answer, list by list, is what all of them do
  module _ {r : Answer (Unit {0})} (p : answer (map side_over widths) (tt {0}) ≡ accepted tt) where
    heights_next : r ≡ answer (map side_over heights) tt → r ≡ answer sides tt
    heights_next q = skip_all tt (map side_over widths) (map side_over heights) p q

    cuts_next : answer (map side_over heights) (tt {0}) ≡ accepted tt → r ≡ answer cuts tt → r ≡ answer entries tt
    cuts_next q h = skip_all tt sides cuts (sym (skip_all tt (map side_over widths) (map side_over heights) p (sym q))) h

  pub past_entries : {r : Answer (Unit {0})} → answer (map side_over widths) (tt {0}) ≡ accepted tt → answer (map side_over heights) (tt {0}) ≡ accepted tt
      → answer cuts (tt {0}) ≡ accepted tt → r ≡ answer reference_left tt → r ≡ answer (entries ++ reference_left) tt
  past_entries p q s h = skip_all tt entries reference_left (sym (cuts_next p q (sym s))) h

  module _ {n : ℕ} {v : List ℕ} where
    pub widths_stop : answer (map side_over widths) (tt {0}) ≡ refused n v → refused n v ≡ answer (entries ++ reference_left) (tt {0})
    widths_stop p = stop_all tt entries reference_left (sym (stop_all tt sides cuts (sym (stop_all tt (map side_over widths) (map side_over heights) p))))

    pub heights_stop : answer (map side_over widths) (tt {0}) ≡ accepted tt → answer (map side_over heights) (tt {0}) ≡ refused n v
        → refused n v ≡ answer (entries ++ reference_left) (tt {0})
    heights_stop p q = stop_all tt entries reference_left (sym (stop_all tt sides cuts (sym (heights_next p (sym q)))))

    pub cuts_stop : answer (map side_over widths) (tt {0}) ≡ accepted tt → answer (map side_over heights) (tt {0}) ≡ accepted tt → answer cuts (tt {0}) ≡ refused n v
        → refused n v ≡ answer (entries ++ reference_left) (tt {0})
    cuts_stop p q s = stop_all tt entries reference_left (sym (cuts_next p q (sym s)))

-- ---- what a stack whose checks pass was given

pub record FramesInOrder (widths heights percentiles : List ℕ) (reference : ℕ) : Type 0 where
  pub limits : Limits (get_or widths 0 0) (get_or heights 0 0) (length widths) reference
  pub same : length heights ≡ length widths
  pub each : length percentiles ≡ length widths
  pub cut : (k : ℕ) → get_or percentiles k 0 ≤ 100

-- the checks f k of a list pass, and so does that of 0, which stands for an entry past the last
each_passes : (f : ℕ → Check) → (f 0).fails ≡ false → (l : List ℕ) → answer (map f l) (tt {0}) ≡ accepted tt → (k : ℕ) → (f (get_or l k 0)).fails ≡ false
each_passes f z [] e k = z
each_passes f z (n ∷ l) e zero = (passed (tt {0}) _ _ e).0
each_passes f z (n ∷ l) e (suc k) = each_passes f z l (passed (tt {0}) _ _ e).1 k

first_side : (l : List ℕ) → answer (map side_over l) (tt {0}) ≡ accepted tt → get_or l 0 0 ≤ 8192
unfolding side_over
first_side l e = ltb-false 8192 (get_or l 0 0) (each_passes side_over refl l e 0)

each_cut : (l : List ℕ) → answer (map percentile_over l) (tt {0}) ≡ accepted tt → (k : ℕ) → get_or l k 0 ≤ 100
unfolding percentile_over
each_cut l e k = ltb-false 100 (get_or l k 0) (each_passes percentile_over refl l e k)

pub frames_in_order : (widths heights percentiles : List ℕ) (reference : ℕ)
    → accepted (tt {0}) ≡ answer (frames_checks widths heights percentiles reference) tt → FramesInOrder widths heights percentiles reference
unfolding frames_checks frames_over wrong_length no_reference
frames_in_order widths heights percentiles reference e =
    let a = passed (tt {0}) _ _ (sym e) in
    let b = passed (tt {0}) _ _ a.1 in
    let c = passed (tt {0}) _ _ b.1 in
    let p = passed (tt {0}) _ _ c.1 in
    let d = passed_all (tt {0}) (map side_over widths ++ map side_over heights ++ map percentile_over percentiles) _ p.1 in
    let f = passed_all (tt {0}) (map side_over widths ++ map side_over heights) (map percentile_over percentiles) d.0 in
    let sides = passed_all (tt {0}) (map side_over widths) (map side_over heights) f.0 in
    let g = passed (tt {0}) _ _ d.1 in
    record {
      limits = record {
        width = first_side widths sides.0;
        height = first_side heights sides.1;
        frames = ltb-false 16 (length widths) a.0;
        reference = leb-false (length widths) reference g.0;
      };
      same = eqb-true (length heights) (length widths) (not-false _ c.0);
      each = eqb-true (length percentiles) (length widths) (not-false _ p.0);
      cut = each_cut percentiles f.1;
    }

-- by the numbers of its heights and percentiles and the lengths of its shift list and its scratch
pub record StackInOrder (a : Stack) (heights percentiles shift_list bytes words : ℕ) : Type 0 where
  pub small : Small a
  pub cut : (k : ℕ) → a.percentile k ≤ 100
  pub same : heights ≡ a.frames
  pub each : percentiles ≡ a.frames
  pub whole : length a.samples ≡ a.frames * (a.width * a.height)
  pub list : shift_list ≡ 2 * a.frames
  pub pixels : stack_bytes a ≤ bytes
  pub maps : stack_words a ≤ words

pub stack_in_order : (widths heights percentiles samples : List ℕ) (reference : ℕ) (o : Options) (shift_list bytes words : ℕ)
    → accepted (tt {0}) ≡ answer (stack_checks widths heights percentiles reference o.bits (length samples) shift_list bytes words) tt
    → StackInOrder (stack_of widths heights percentiles samples reference o) (length heights) (length percentiles) shift_list bytes words
unfolding stack_of stack_checks wrong_length scratch_short stack_scratch_checks
stack_in_order widths heights percentiles samples reference o shift_list bytes words e =
    let n = length widths in
    let w = get_or widths 0 0 in
    let h = get_or heights 0 0 in
    let a = passed_all (tt {0}) (frames_checks widths heights percentiles reference) _ (sym e) in
    let b = passed (tt {0}) _ _ a.1 in
    let c = passed (tt {0}) _ _ b.1 in
    let d = passed (tt {0}) _ _ c.1 in
    let f = passed (tt {0}) _ _ d.1 in
    let frames = frames_in_order widths heights percentiles reference (sym a.0) in
    record {
      small = frames.limits;
      cut = frames.cut;
      same = frames.same;
      each = frames.each;
      whole = eqb-true (length samples) (n * (w * h)) (not-false _ b.0);
      list = eqb-true shift_list (2 * n) (not-false _ c.0);
      pixels = ltb-false bytes (stack_need n (step_bytes w h o.bits)) d.0;
      maps = ltb-false words (stack_need n (step_words w h)) f.0;
    }
