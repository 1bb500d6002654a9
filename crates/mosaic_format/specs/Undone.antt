-- Putting together undoes taking apart, and the other way round.
use Rattle.std.specs.Prelude.{ℕ, ◌*◌, ◌<◌, ◌≡◌, List, length}
use Rattle.std.proofs.Common.{sym, ap, ◌∙◌, arith, ext_get_or}
use Rattle.std.proofs.Math.Nat.{mul_comm}
use Rattle.std.proofs.Math.ListN.{get_or}
use Rattle.definitions.specs.Build.{sample}
use Rattle.laws.specs.general.Lists.{image_length, image_at}
use Rattle.mosaic_format.specs.Mosaic.{apart, place_of, together}
use Rattle.mosaic_format.specs.Places.{pixel_at, once}
use Rattle.mosaic_format.specs.Planes.{apart_length, found}

module _ (w h : ℕ) where
  -- lists of w * h that have the same at each pixel, or at each pixel's place in the planes, are the same
  pub same_pixels : (l m : List ℕ) → length l ≡ w * h → length m ≡ w * h → ((x y : ℕ) → x < w → y < h → sample l w x y ≡ sample m w x y) → l ≡ m
  same_pixels l m a b e =
      ext_get_or 0 l m (a ∙ sym b)
      (λ i k.
      let p = pixel_at w h i (omega (arith, mul_comm w h)) in
      ap (λ (j : ℕ). get_or l j 0) p.here ∙ e p.column p.row p.column_in p.row_in ∙ ap (λ (j : ℕ). get_or m j 0) (sym p.here))

  pub same_places : (l m : List ℕ) → length l ≡ w * h → length m ≡ w * h
      → ((x y : ℕ) → x < w → y < h → get_or l (place_of w h x y) 0 ≡ get_or m (place_of w h x y) 0) → l ≡ m
  same_places l m a b e =
      ext_get_or 0 l m (a ∙ sym b)
      (λ i k.
      let p = (once w h).every i (omega arith) in
      ap (λ (j : ℕ). get_or l j 0) (sym p.here) ∙ e p.column p.row p.column_in p.row_in ∙ ap (λ (j : ℕ). get_or m j 0) p.here)

  pub together_length : (planes : List ℕ) → length (together w h planes) ≡ w * h
  unfolding together
  together_length planes = image_length w h (λ (x y : ℕ). get_or planes (place_of w h x y) 0) ∙ mul_comm h w

  -- a pixel of the mosaic has what stands at its place
  pub together_at : (planes : List ℕ) (x y : ℕ) → x < w → y < h → sample (together w h planes) w x y ≡ get_or planes (place_of w h x y) 0
  unfolding together
  together_at planes x y a b = image_at w h (λ (u v : ℕ). get_or planes (place_of w h u v) 0) x y 0 a b

  pub together_apart : (mosaic : List ℕ) → length mosaic ≡ w * h → together w h (apart w h mosaic) ≡ mosaic
  together_apart mosaic e =
      same_pixels (together w h (apart w h mosaic)) mosaic (together_length (apart w h mosaic)) e
      (λ x y a b. together_at (apart w h mosaic) x y a b ∙ found w h mosaic x y a b)

  pub apart_together : (planes : List ℕ) → length planes ≡ w * h → apart w h (together w h planes) ≡ planes
  apart_together planes e =
      same_places (apart w h (together w h planes)) planes (apart_length w h (together w h planes)) e
      (λ x y a b. found w h (together w h planes) x y a b ∙ together_at planes x y a b)
