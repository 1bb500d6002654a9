-- What the survey of a frame knows: the counts of two packed pairs, the bitmaps of the frame and its neighbour once they are packed, and
-- the stack's shifts in a list.
use mathlib.Core.Path.{◌≡◌, sym, ap, ap₂, ◌∙◌, subst, fun_ext}
use mathlib.Core.Bool.{true}
use mathlib.Core.List.{List}
use mathlib.Core.Logic.{⊎_elim}
use Prim.Native.Nat.{ℕ, ◌+◌, ◌-◌, ◌*◌, ◌/◌, ◌<◌, ◌≤◌}
use native.Mathlib.Nat.{mul_comm}
use native.Mathlib.Omega.{arith}
use borrow.Author.Tests.{ltb-true}
use lib.Dec.{ltb}
use lib.IntN.{ℤ}
use lib.ListN.{length, take}
use lib.Seq.{sets}
use Rattle.definitions.specs.Geometry as geometry
use Rattle.definitions.specs.Shrink.{side_at, level_of}
use Rattle.definitions.specs.Bitmap.{bitmap_words, total}
use Rattle.definitions.specs.Difference as difference
use Rattle.definitions.specs.Align.{Stack, exposure, bitmaps_at, counts_at, neighbour, step_of, shift_of, step_words, stack_words}
use Rattle.definitions.specs.Refusals.{FreeUpTo}
use Rattle.definitions.specs.Report.{frame_counts}
use Rattle.laws.specs.bitmaps.Bands.{band_part, band_none}
use Rattle.laws.specs.general.Cases.{lt_or_le}
use Rattle.laws.specs.bitmaps.CountBounds.{counts_few, compared_most}
use Rattle.laws.specs.search.ShiftLists.{less, step_less}
use Rattle.laws.specs.images.Sizes.{area}
use Rattle.laws.specs.search.Walk.{neighbour_among, need_free}
use Rattle.laws.specs.search.StepBounds.{Within, within_wider, Small, shift_small, step_of_small}
use Rattle.mtb_align.specs.declared.difference.Counts.{Counts}
use Rattle.mtb_align.specs.declared.stack.Stack as code
use Rattle.mtb_align.specs.Answers.{counts_in}
use Rattle.mtb_align.specs.declared.packed.Packed.{Packed}
use Rattle.mtb_align.specs.Layout.{map_at, pair_counts}
use Rattle.mtb_align.specs.Packed.{counts_of, sampled_of}
use Rattle.mtb_align.specs.Stack.{stack_in, four_in, listed_at, Placed}
use Rattle.mtb_align.specs.Survey.{sample_of}
use Rattle.mtb_align.proofs.Four.{TwoPairs, four_front, four_free, four_pairs, four_counts}
use Rattle.mtb_align.proofs.Taken.{maps_fit}
use Rattle.mtb_align.proofs.Walked.{placed_at}

-- ---- two packed pairs

module _ (p : Packed) where
  abbrev bitmap : ℕ → List ℕ
  bitmap i = map_at p.words.now p.width p.height i

  -- both counts are at most the pixels of the largest frame
  pub counted_few : (s : geometry.Shift) (c : Counts) → counts_in c ≡ counts_of p s → (c.disagreeing ≤ 67108864) × (c.compared ≤ 67108864)
  unfolding pair_counts
  counted_few s c e =
      let few = counts_few p.width p.height (bitmap 0) (bitmap 1) (bitmap 2) (bitmap 3) s in
      let most = area p.width p.height p.wide p.high in (
        omega (arith, few.0, most, mul_comm p.width p.height, ap (λ (n : difference.Counts). n.disagreeing) e),
        omega (arith, few.1, most, mul_comm p.width p.height, ap (λ (n : difference.Counts). n.compared) e),
      )

  -- a sample of a count is part of it
  pub sample_part : (s : geometry.Shift) → sampled_of p s ≤ (counts_of p s).disagreeing
  unfolding sample_of pair_counts
  sample_part s =
      let lost = geometry.ahead s.y + geometry.behind s.y in
      let rows = (p.height - lost) / 8 in
      ⊎_elim
      (λ (l : lost < p.height). band_part p.width (bitmap 0) (bitmap 1) (bitmap 2) (bitmap 3) s rows p.height (omega arith))
      (λ (l : p.height ≤ lost). omega (arith, band_none p.width (bitmap 0) (bitmap 1) (bitmap 2) (bitmap 3) s rows (omega arith)))
      (lt_or_le lost p.height)

  -- where the reference's exclusion bitmap has too few pixels, no shift compares as many as the floor asks for
  pub none_reach : (floor : ℕ) → ltb (total (bitmap 1) p.width p.height) floor ≡ true → (s : geometry.Shift) → (counts_of p s).compared < floor
  unfolding pair_counts
  none_reach floor e s =
      omega (arith, ltb-true (total (bitmap 1) p.width p.height) floor e, compared_most p.width p.height (bitmap 0) (bitmap 1) (bitmap 2) (bitmap 3) s)

-- ---- a frame and its neighbour

-- the counts of their bitmaps are the frame's
counts_frame : (a : Stack) (k : ℕ) → pair_counts (four_in a (neighbour a.reference k) k) a.width a.height ≡ frame_counts a k
unfolding frame_counts counts_at bitmaps_at side_at level_of
counts_frame a k = fun_ext (λ (s : geometry.Shift).
    four_counts a.width a.height a.options.tolerance (exposure a (neighbour a.reference k)) (exposure a k) s)

-- two frames are more than one
pub two_frames : {n r k : ℕ} → (k ≡ r → ⊥) → r < n → k < n → 1 < n
two_frames {n} {r} {k} apart p q = ⊎_elim
    (λ (l : 1 < n). l)
    (λ (l : n ≤ 1). let same : k ≡ r = omega arith in absurd (apart same))
    (lt_or_le 1 n)

-- once they are packed at the front of the words v
module _ (f : code.Stack) (v : List ℕ) (room : stack_words (stack_in f) ≤ length v) (two : 1 < length f.percentiles.now) (k : ℕ) {v' : List ℕ}
    (stored : v' ≡ sets v 0 (four_in (stack_in f) (neighbour f.reference k) k)) where
  abbrev a : Stack
  a = stack_in f

  abbrev four : List ℕ
  four = four_in a (neighbour f.reference k) k

  space : 4 * bitmap_words f.width f.height ≤ length v
  unfolding step_words
  space = maps_fit f room two

  front : (m : ℕ) → m ≡ 4 * bitmap_words f.width f.height → take m v' ≡ four
  front m e = four_front f.width f.height f.options.tolerance (exposure a (neighbour f.reference k)) (exposure a k) v space stored m e

  pub packed_pairs : (m : ℕ) → m ≡ 4 * bitmap_words f.width f.height → TwoPairs (take m v') f.width f.height
  packed_pairs m e =
      subst (λ (l : List ℕ). TwoPairs l f.width f.height) (sym (front m e))
      (four_pairs f.width f.height f.options.tolerance (exposure a (neighbour f.reference k)) (exposure a k)
      f.wide f.high)

  pub packed_counts : (m : ℕ) → m ≡ 4 * bitmap_words f.width f.height
      → pair_counts (take m v') f.width f.height ≡ frame_counts (stack_in f) k
  packed_counts m e = ap (λ (l : List ℕ). pair_counts l f.width f.height) (front m e) ∙ counts_frame a k

  pub packed_free : FreeUpTo (stack_words (stack_in f)) v v'
  unfolding step_words
  packed_free =
      need_free (length f.percentiles.now) (step_words f.width f.height) two
      (four_free f.width f.height f.options.tolerance (exposure a (neighbour f.reference k)) (exposure a k) v space stored)

-- ---- the shifts of a stack in a list

module _ (a : Stack) {list : List ℤ} (p : Placed a list) where
  module _ (small : Small a) where
    pub placed_near : (i : ℕ) → i < a.frames → Within 1048576 (listed_at list i)
    placed_near i l = subst (Within 1048576) (sym (placed_at a p i l)) (within_wider (omega arith) (shift_small a small i l))

    -- the step of frame k is its shift less its neighbour's
    pub placed_step : (k : ℕ) → k < a.frames → (k ≡ a.reference → ⊥) → (j : ℕ) → j ≡ neighbour a.reference k
        → less (listed_at list k) (listed_at list j) ≡ step_of a k
    placed_step k l apart j e =
        let among : j < a.frames = omega (arith, neighbour_among a.reference k a.frames small.reference l) in
        ap₂ (λ (s t : geometry.Shift). less s t) (placed_at a p k l) (placed_at a p j among ∙ ap (shift_of a) e) ∙ step_less a k apart

pub step_near : (a : Stack) → Small a → (k : ℕ) {s : geometry.Shift} → s ≡ step_of a k → Within 65536 s
step_near a small k e = subst (Within 65536) (sym e) (within_wider (omega arith) (step_of_small a small k))
