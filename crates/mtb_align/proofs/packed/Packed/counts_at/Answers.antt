use mathlib.Core.Path.{◌≡◌, refl, ap, ap₂, ◌∙◌}
use mathlib.Core.List.{List}
use Prim.Native.Nat.{ℕ, ◌+◌, ◌-◌, ◌*◌, ◌≤◌}
use native.Mathlib.Omega.{arith}
use lib.ListN.{length, take, drop}
use Rattle.definitions.specs.Bitmap.{bitmap_words}
use Rattle.definitions.specs.Difference.{bitmaps_in, counts}
use Rattle.definitions.specs.Geometry.{Shift}
use Rattle.laws.specs.bitmaps.Bitmaps.{words_of_rows}
use Rattle.mtb_align.specs.Layout.{map_at, pair_counts}
use Rattle.mtb_align.proofs.packed.Packed.counts_at.Goals.{After-words_per_row}
use Rattle.mtb_align.proofs.packed.Packed.counts_at.Goals as goal

-- four parts of l that are its four bitmaps of w by h
record Parts (w h : ℕ) (l rt re st se : List ℕ) : Type 0 where
  first : rt ≡ map_at l w h 0
  second : re ≡ map_at l w h 1
  third : st ≡ map_at l w h 2
  fourth : se ≡ map_at l w h 3

-- those that the code takes, n words each
module _ (w h n : ℕ) (e : n ≡ bitmap_words w h) (l : List ℕ) where
  part : (i from to : ℕ) → from ≡ i * n → to ≡ from + n → take (to - from) (drop from l) ≡ map_at l w h i
  part i from to p q = let d : to - from ≡ bitmap_words w h = omega (arith, e) in ap₂ (λ (a b : ℕ). take a (drop b l)) d (p ∙ ap (λ (k : ℕ). i * k) e)

  parts : Parts w h l (take (n - 0) l) (take (2 * n - n) (drop n l)) (take (3 * n - 2 * n) (drop (2 * n) l)) (take (4 * n - 3 * n) (drop (3 * n) l))
  parts = record {
    first = part 0 0 n (omega arith) (omega arith);
    second = part 1 n (2 * n) (omega arith) (omega arith);
    third = part 2 (2 * n) (3 * n) refl (omega arith);
    fourth = part 3 (3 * n) (4 * n) refl (omega arith);
  }

-- so their counts are the contract's
counts-are : {w h : ℕ} {l rt re st se : List ℕ} → Parts w h l rt re st se → (s : Shift) → counts w h (bitmaps_in w rt re) (bitmaps_in w st se) s ≡ pair_counts l w h s
unfolding pair_counts
counts-are p s = rw (p.first, p.second, p.third, p.fourth)

-- the words of one bitmap
size : (c : After-words_per_row)
    → let p = c.args.self.now in
    let n = p.height * c.words_per_row.result in
    (n ≡ bitmap_words p.width p.height) × (n ≤ 1048576) × (4 * n ≡ length p.words.now)
size c =
    let p = c.args.self.now in
    let s = words_of_rows p.width p.height p.wide p.high c.words_per_row.ensures in
    (s.0, s.1, omega (arith, s.0, p.long))

pub returns : goal.returns
returns c = c.count.ensures ∙ counts-are (parts _ _ _ (size (goal.at.returns c).After-words_per_row).0 c.args.self.now.words.now) _
