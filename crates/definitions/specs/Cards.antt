-- The calibration cards A to J of 01, joined into one table, by computation. Card A, which names no percentile, is for every one.
use Rattle.std.specs.Prelude.{ℕ, ◌≡◌, refl, List, [], ◌∷◌, pos, negsuc}
use Rattle.std.proofs.Common.{ap, arith}
use Rattle.definitions.specs.Sum.{sum, count_if}
use Rattle.definitions.specs.Build.{build, joined}
use Rattle.definitions.specs.Geometry.{index_of, source, at_sources, shifted, largest, common_crop}
use Rattle.definitions.specs.Gray.{grey, from_rgb}
use Rattle.definitions.specs.Shrink.{average, mean, halved_sample, shrink2}
use Rattle.definitions.specs.Threshold.{bins, target, bins_added, cut, threshold_bit, exclusion_bit}
use Rattle.definitions.specs.Bitmap.{words_per_row, word_of, packed}
use Rattle.definitions.specs.Difference.{bitmaps_of}
use Rattle.definitions.specs.Align.{shift, log_up_to, log2, levels}

-- The frame of card D.
abbrev card_d : List ℕ
card_d = 0 ∷ 10 ∷ 20 ∷ 30 ∷ []

-- The row of card H.
abbrev card_h : List ℕ
card_h = 1 ∷ 2 ∷ 3 ∷ []

pub record Cards : Type 0 where
  pub A : (p : ℕ) → cut [] p ≡ 0
  pub B : (cut (200 ∷ []) 50 ≡ 0) × ((bitmaps_of 1 (200 ∷ []) (cut (200 ∷ []) 50) 4).threshold 0 0 ≡ 1)
  pub C : cut (255 ∷ 255 ∷ []) 50 ≡ 256
  pub D : (cut card_d 50 ≡ 11)
      × (packed 4 1 (bitmaps_of 4 card_d (cut card_d 50) 4).threshold ≡ 12 ∷ [])
      × (packed 4 1 (bitmaps_of 4 card_d (cut card_d 50) 4).exclusion ≡ 13 ∷ [])
  pub E : (levels 4 4 6 ≡ 1) × (levels 3 3 6 ≡ 0) × (levels 64 64 8 ≡ 5)
  pub F : (shrink2 average 2 2 (0 ∷ 0 ∷ 1 ∷ 1 ∷ []) ≡ 1 ∷ []) × (shrink2 average 2 2 (0 ∷ 0 ∷ 0 ∷ 1 ∷ []) ≡ 0 ∷ [])
  pub G : from_rgb 1 1 (0 ∷ 0 ∷ 255 ∷ []) ≡ 18 ∷ []
  pub H : (shifted 3 1 card_h (shift (negsuc 0) (pos 0)) ≡ 2 ∷ 3 ∷ 0 ∷ []) × (shifted 3 1 card_h (shift (pos 3) (pos 0)) ≡ 0 ∷ 0 ∷ 0 ∷ [])
  pub I : common_crop (shift (pos 0) (pos 0) ∷ shift (pos 3) (negsuc 1) ∷ shift (negsuc 0) (pos 1) ∷ []) 10 8 ≡ record { x = 3; y = 1; width = 6; height = 5 }
  pub J : ((common_crop (shift (pos 12) (pos 0) ∷ []) 10 8).x ≡ 12) × ((common_crop (shift (pos 12) (pos 0) ∷ []) 10 8).width ≡ 0)

-- A share of no samples is none.
no_samples : (p : ℕ) → target [] p ≡ 0
unfolding target
no_samples p = omega arith

pub cards : Cards
unfolding sum count_if build joined index_of source at_sources shifted largest common_crop grey from_rgb mean halved_sample shrink2 bins target
    bins_added cut threshold_bit exclusion_bit words_per_row word_of packed bitmaps_of log_up_to log2 levels
cards = record {
  A = λ p. ap (λ (goal : ℕ). bins_added (bins []) goal 0) (no_samples p);
  B = (refl, refl);
  C = refl;
  D = (refl, refl, refl);
  E = (refl, refl, refl);
  F = (refl, refl);
  G = refl;
  H = (refl, refl);
  I = refl;
  J = (refl, refl);
}
