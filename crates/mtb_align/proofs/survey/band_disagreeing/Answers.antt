use mathlib.Core.Path.{◌≡◌, refl, sym, ap, ap₂, ◌∙◌, subst}
use mathlib.Core.List.{List}
use Prim.Native.Nat.{ℕ, ◌+◌, ◌-◌, ◌*◌, ◌≤◌}
use native.Mathlib.Nat.{add-mul, mul-le-mul_right}
use native.Mathlib.Omega.{arith}
use lib.IntN.{ℤ, pos}
use lib.ListN.{length, take, drop}
use mir.Facts.{to_z-of_z}
use mir.Syntax.{w32}
use mir.Val.{to_z, of_z}
use Rattle.definitions.specs.Difference.{bitmaps_in, counts}
use Rattle.definitions.specs.Difference as difference
use Rattle.laws.specs.bitmaps.Bands.{band, band_bitmap, part_part}
use Rattle.laws.specs.bitmaps.Bitmaps.{IsBitmap, bitmap_most}
use Rattle.mtb_align.specs.Packed.{map_of}
use Rattle.mtb_align.proofs.survey.band_disagreeing.Goals.{After-words_per_row-n}
use Rattle.mtb_align.proofs.survey.band_disagreeing.Goals as goal

-- the sizes that the code computes
sizes : (c : After-words_per_row-n)
    → let a = c.args in
    let n = c.words_per_row-n.result in
    (a.packed.now.height * n ≤ 1048576)
    × (4 * (a.packed.now.height * n) ≡ length a.packed.now.words.now)
    × (a.up * n + a.rows * n ≤ a.packed.now.height * n)
    × (a.down * n + a.rows * n ≤ a.packed.now.height * n)
sizes c =
    let a = c.args in
    let n = c.words_per_row-n.result in
    let e = ap (λ (k : ℕ). a.packed.now.height * k) c.words_per_row-n.ensures in (
      omega (arith, e, bitmap_most a.packed.now.width a.packed.now.height c.args.packed.now.wide c.args.packed.now.high),
      omega (arith, e, c.args.packed.now.long),
      omega (arith, add-mul a.up a.rows n, mul-le-mul_right n c.requires.0),
      omega (arith, add-mul a.down a.rows n, mul-le-mul_right n c.requires.1),
    )

-- a part that the code takes is the band of one of the four bitmaps
part : (c : After-words_per_row-n) (i at start end : ℕ)
    → let a = c.args in
    let n = c.words_per_row-n.result in
    at * n + a.rows * n ≤ a.packed.now.height * n → start ≡ i * (a.packed.now.height * n) + at * n → end ≡ start + a.rows * n
    → take (end - start) (drop start a.packed.now.words.now) ≡ band a.packed.now.width (map_of a.packed.now i) at a.rows
unfolding band
part c i at start end h p q =
    let a = c.args in
    let n = c.words_per_row-n.result in
    let e = c.words_per_row-n.ensures in
    let len : end - start ≡ a.rows * n = omega arith in
    ap₂ (λ (k j : ℕ). take k (drop j a.packed.now.words.now)) len p
    ∙ sym (part_part (a.rows * n) (at * n) (a.packed.now.height * n) (i * (a.packed.now.height * n)) a.packed.now.words.now h)
    ∙ ap (λ (k : ℕ). take (a.rows * k) (drop (at * k) (take (a.packed.now.height * k) (drop (i * (a.packed.now.height * k)) a.packed.now.words.now)))) e

is-map : {w h : ℕ} {l m : List ℕ} → l ≡ m → IsBitmap m w h → IsBitmap l w h
is-map {w} {h} e b = subst (λ (k : List ℕ). IsBitmap k w h) (sym e) b

-- the four
module _ (c : After-words_per_row-n) where
  abbrev n : ℕ
  n = c.words_per_row-n.result

  abbrev words : List ℕ
  words = c.args.packed.now.words.now

  abbrev of : ℕ → ℕ → List ℕ
  of i at = let a = c.args in band a.packed.now.width (map_of a.packed.now i) at a.rows

  first : let a = c.args in take (a.up * n + a.rows * n - a.up * n) (drop (a.up * n) words) ≡ of 0 a.up
  first = let a = c.args in part c 0 a.up _ _ (sizes c).2 (omega arith) refl

  second : let a = c.args in take (a.packed.now.height * n + a.up * n + a.rows * n - (a.packed.now.height * n + a.up * n)) (drop (a.packed.now.height * n + a.up * n) words) ≡ of 1 a.up
  second = let a = c.args in part c 1 a.up _ _ (sizes c).2 (omega arith) refl

  third : let a = c.args in take (2 * (a.packed.now.height * n) + a.down * n + a.rows * n - (2 * (a.packed.now.height * n) + a.down * n))
      (drop (2 * (a.packed.now.height * n) + a.down * n) words) ≡ of 2 a.down
  third = let a = c.args in part c 2 a.down _ _ (sizes c).3 refl refl

  fourth : let a = c.args in take (3 * (a.packed.now.height * n) + a.down * n + a.rows * n - (3 * (a.packed.now.height * n) + a.down * n))
      (drop (3 * (a.packed.now.height * n) + a.down * n) words) ≡ of 3 a.down
  fourth = let a = c.args in part c 3 a.down _ _ (sizes c).3 refl refl

pub slice_bounds-count-end-4 : goal.slice_bounds-count-end-4
slice_bounds-count-end-4 c = omega (arith, sizes (goal.at.slice_bounds-count-end-4 c).After-words_per_row-n)

pub count-counts-requires : goal.count-counts-requires
count-counts-requires c =
    let m = c.args.packed.now in
    let a = c.args in
    let w = (goal.at.count-counts-requires c).After-words_per_row-n in (
      is-map (first w) (band_bitmap a.packed.now.width _ a.up a.rows a.packed.now.height m.reference_threshold c.requires.0),
      is-map (second w) (band_bitmap a.packed.now.width _ a.up a.rows a.packed.now.height m.reference_exclusion c.requires.0),
      is-map (third w) (band_bitmap a.packed.now.width _ a.down a.rows a.packed.now.height m.target_threshold c.requires.1),
      is-map (fourth w) (band_bitmap a.packed.now.width _ a.down a.rows a.packed.now.height m.target_exclusion c.requires.1),
    )

pub returns : goal.returns
returns c =
    let a = c.args in
    let w = (goal.at.returns c).After-words_per_row-n in
    let x = to_z-of_z c.ranges.x in
    let reference = bitmaps_in a.packed.now.width (of w 0 a.up) (of w 1 a.up) in
    let target = bitmaps_in a.packed.now.width (of w 2 a.down) (of w 3 a.down) in
    ap (λ (n : difference.Counts). n.disagreeing)
    (c.count-counts.ensures
    ∙ ap₂ (λ (r t : difference.Bitmaps). counts a.packed.now.width a.rows r t (record { x = to_z w32 (of_z w32 a.x); y = pos 0 }))
    (ap₂ (bitmaps_in a.packed.now.width) (first w) (second w))
    (ap₂ (bitmaps_in a.packed.now.width) (third w) (fourth w))
    ∙ ap (λ (z : ℤ). counts a.packed.now.width a.rows reference target (record { x = z; y = pos 0 })) x)
