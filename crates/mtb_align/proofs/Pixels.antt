-- What the branches of a bitmap's calls give, by the words of a row as the code has them, n: a word of a row lies inside the
-- bitmap, and each check refuses or is passed.
use mathlib.Core.Path.{◌≡◌, sym, ap, ◌∙◌}
use mathlib.Core.List.{List, [], ◌∷◌}
use Prim.Native.Nat.{ℕ, ◌+◌, ◌*◌, ◌/◌, ◌≤◌, ◌<◌}
use native.Mathlib.Omega.{arith}
use Rattle.std.proofs.Common.{ltb-false, leb-false, eqb-true}
use Rattle.std.proofs.lemmas.Bool.{not-false}
use Rattle.definitions.specs.Bitmap.{words_per_row, bitmap_words}
use Rattle.definitions.specs.Refusals.{Check, Answer, accepted, refused, answer, side_over, wrong_length, pixel_outside, pixel_checks}
use Rattle.laws.specs.bitmaps.Bitmaps.{bitmap_most, word_inside}
use Rattle.laws.specs.checks.Checks.{sides_skip, length_stop, length_skip, pixel_stop, pixel_skip, done, passed}
use Rattle.laws.specs.images.Sizes.{row_inside}

module _ (w h n : ℕ) (e : n ≡ words_per_row w) (s : (w ≤ 8192) × (h ≤ 8192)) where
  are : h * n ≡ bitmap_words w h
  are = ap (λ (k : ℕ). h * k) e

  pub bitmap_fits : h * n ≤ 1048576
  bitmap_fits = omega (arith, are, bitmap_most w h s.0 s.1)

  -- word k of row y
  pub inside : (k y : ℕ) → k < words_per_row w → y < h → (y * n + k < h * n) × (h * n ≤ 1048576)
  inside k y p q = (omega (arith, row_inside n h y q), bitmap_fits)

  module _ {A : Type 0} (a : A) (words : ℕ) where
    -- the sides pass, and the length refuses or passes
    pub long_stop : (l : List Check) → (words ≡ h * n → ⊥) → refused 2 [] ≡ answer (side_over w ∷ side_over h ∷ wrong_length words (bitmap_words w h) ∷ l) a
    long_stop l ne = sides_skip a w h _ s (length_stop a words (bitmap_words w h) l (λ p. ne (p ∙ sym are)))

    module _ (long : words ≡ h * n) where
      pub long_skip : (l : List Check) {r : Answer A} → r ≡ answer l a → r ≡ answer (side_over w ∷ side_over h ∷ wrong_length words (bitmap_words w h) ∷ l) a
      long_skip l p = sides_skip a w h _ s (length_skip a words (bitmap_words w h) l (long ∙ are) p)

      -- a pixel: its column refuses, its row refuses, or both pass
      pub column_stop : (x y : ℕ) → w ≤ x → refused 11 [] ≡ answer (pixel_checks w h words x y) a
      unfolding pixel_checks
      column_stop x y p = long_skip _ (pixel_stop a x w _ p)

      pub row_stop : (x y : ℕ) → x < w → h ≤ y → refused 11 [] ≡ answer (pixel_checks w h words x y) a
      unfolding pixel_checks
      row_stop x y p q = long_skip _ (pixel_skip a x w _ p (pixel_stop a y h _ q))

      pub pixel_taken : (x y : ℕ) → x < w → y < h → accepted a ≡ answer (pixel_checks w h words x y) a
      unfolding pixel_checks
      pixel_taken x y p q = long_skip _ (pixel_skip a x w _ p (pixel_skip a y h _ q (done a)))

-- past the checks of a pixel: its word lies in the bitmap
pub word_of_pixel : (w h n words x y : ℕ) → n ≡ words_per_row w → accepted (tt {0}) ≡ answer (pixel_checks w h words x y) tt
    → (y * n + x / 64 < words) × (words ≤ 1048576)
unfolding pixel_checks side_over wrong_length pixel_outside
word_of_pixel w h n words x y e p =
    let a = passed (tt {0}) _ _ (sym p) in
    let b = passed (tt {0}) _ _ a.1 in
    let c = passed (tt {0}) _ _ b.1 in
    let d = passed (tt {0}) _ _ c.1 in
    let f = passed (tt {0}) _ _ d.1 in
    let long : words ≡ h * n = eqb-true words (bitmap_words w h) (not-false _ c.0) ∙ ap (λ (k : ℕ). h * k) (sym e) in
    let i = inside w h n e (ltb-false 8192 w a.0, ltb-false 8192 h b.0) (x / 64) y (word_inside w x (leb-false w x d.0)) (leb-false h y f.0) in
    (omega (arith, i, long), omega (arith, i, long))
