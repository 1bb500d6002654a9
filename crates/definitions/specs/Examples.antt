-- Small examples of what the cards leave open, by computation.
use Rattle.std.specs.Prelude.{ℕ, ◌≡◌, refl, true, List, [], ◌∷◌, pos, negsuc, length}
use Rattle.definitions.specs.Sum.{sum, count_if}
use Rattle.definitions.specs.Build.{build, joined, keep_if}
use Rattle.definitions.specs.Geometry.{Shift, origin, index_of, source, at_sources}
use Rattle.definitions.specs.Shrink.{average, subsample, mean, halved_sample, shrink2, side_at, samples_at, level_of, halved_samples, level_start, nowhere, place_of}
use Rattle.definitions.specs.Threshold.{bins, last_rows, target, bins_added, cut, threshold_bit, exclusion_bit}
use Rattle.definitions.specs.Bitmap.{words_per_row, bit_of, bit_at}
use Rattle.definitions.specs.Difference.{Bitmaps, bitmaps_of, bitmaps_in, compared_bit, disagreeing_bit, overlap, counts}
use Rattle.definitions.specs.Align.{Options, Stack, shift, log_up_to, log2, levels, nine, least_from, earliest_least, refine, up_to_zero, tried, refined, comparisons_at, comparisons, stepped}
use Rattle.definitions.specs.Align.{bitmaps_at, counts_at, step_at, step, stack_of, exposure, neighbour, walk, step_of}
use Rattle.definitions.specs.Report.{window, distance, is_neighbour_shift, comes_close, is_rival, survey, Terms, frame_counts, limit_of, rivals}
use Rattle.definitions.specs.Report.{Record, bytes32, twos_complement, record_bytes, field_of, signed_of, record_at, verdict}
use Rattle.definitions.specs.Refusals.{answer, refused, side_over, wrong_length, percentile_over, no_reference, frames_over, cut_checks, pair_differs, frames_checks}

-- A pixel whose threshold bit and exclusion bit are these.
abbrev pixel : ℕ → ℕ → Bitmaps
pixel t e = record { threshold = λ (x y : ℕ). t; exclusion = λ (x y : ℕ). e }

-- At -65 column 2 reads column 67, bit 3 of the second word: rounding towards zero at a word would read column 66 or 3.
across_a_word : counts 130 1 (bitmaps_in 130 (4 ∷ 0 ∷ 0 ∷ []) (4 ∷ 0 ∷ 0 ∷ [])) (bitmaps_in 130 (0 ∷ 0 ∷ 0 ∷ []) (0 ∷ 8 ∷ 0 ∷ [])) (shift (negsuc 64) (pos 0))
    ≡ record { disagreeing = 1; compared = 1 }
unfolding sum index_of source at_sources words_per_row bit_of bit_at bitmaps_in compared_bit disagreeing_bit overlap counts
across_a_word = refl

-- The target's pixel is not trusted. Masked before the XOR, the bits 1 and 0 would differ and count.
mask_after_xor : counts 1 1 (pixel 1 1) (pixel 0 0) origin ≡ record { disagreeing = 0; compared = 0 }
unfolding sum index_of source at_sources compared_bit disagreeing_bit overlap counts
mask_after_xor = refl

-- All nine alike: the centre wins, and is the only one tried if it disagrees in no pixel.
tie_to_the_centre : (refined (λ (s : Shift). 3) (shift (pos 5) (negsuc 6)) ≡ record { shift = shift (pos 5) (negsuc 6); comparisons = 9 })
    × (refined (λ (s : Shift). 0) (shift (pos 5) (negsuc 6)) ≡ record { shift = shift (pos 5) (negsuc 6); comparisons = 1 })
unfolding nine least_from earliest_least refine up_to_zero tried refined
tie_to_the_centre = (refl, refl)

-- The last two of three rows of two.
last_two_rows : last_rows 2 3 (10 ∷ 11 ∷ 20 ∷ 21 ∷ 30 ∷ 31 ∷ []) 2 ≡ 20 ∷ 21 ∷ 30 ∷ 31 ∷ []
unfolding last_rows
last_two_rows = refl

abbrev usual : Options
usual = record { bits = 6; tolerance = 4; shrink = average }

-- All samples are trusted but those at the cut.
abbrev untolerant : Options
untolerant = record { bits = 6; tolerance = 0; shrink = average }

-- The step of two empty frames, where Ward's is (-1, -1).
empty_frames : step usual 0 0 (record { samples = []; percentile = 50 }) (record { samples = []; percentile = 50 }) ≡ origin
unfolding sum side_at overlap counts levels nine least_from earliest_least refine counts_at step_at step
empty_frames = refl

-- Two samples each, both compared, both disagreeing: the first candidate beside the centre compares nothing, wins, and is the last tried.
nothing_compared_wins : stepped untolerant 2 1 (record { samples = 0 ∷ 255 ∷ []; percentile = 50 })
    (record { samples = 255 ∷ 0 ∷ []; percentile = 50 }) ≡ record { shift = shift (negsuc 0) (negsuc 0); comparisons = 2 }
unfolding sum count_if build index_of source at_sources side_at level_of bins target bins_added cut threshold_bit exclusion_bit bitmaps_of
    compared_bit disagreeing_bit overlap counts log_up_to log2 levels nine least_from earliest_least refine bitmaps_at counts_at step_at step
    up_to_zero tried comparisons_at comparisons stepped
nothing_compared_wins = refl

-- Of the shifts of a single pixel only the centre compares one: the others disagree in none, and a floor of 1 keeps them out.
below_the_floor : survey (counts 1 1 (pixel 1 1) (pixel 1 1)) (record { centre = origin; reach = 2; floor = 1; limit = 0 }) ≡ origin ∷ []
unfolding sum build joined keep_if index_of source at_sources compared_bit disagreeing_bit overlap counts window distance is_neighbour_shift comes_close is_rival survey
below_the_floor = refl

-- A survey where every shift disagrees in none.
abbrev alike : ℕ → List Shift
alike r = survey (λ (s : Shift). record { disagreeing = 0; compared = 1 }) (record { centre = shift (pos 5) (negsuc 6); reach = r; floor = 1; limit = 0 })

-- The eight shifts next door are no rivals, the centre is one, and so are the sixteen shifts two pixels away.
next_door : (alike 1 ≡ shift (pos 5) (negsuc 6) ∷ []) × (length (alike 2) ≡ 17)
unfolding build joined keep_if window distance is_neighbour_shift comes_close is_rival survey
next_door = (refl, refl)

-- Two frames of card D's row.
abbrev twice : Stack
twice = stack_of (4 ∷ 4 ∷ []) (1 ∷ 1 ∷ []) (50 ∷ 50 ∷ []) (0 ∷ 10 ∷ 20 ∷ 30 ∷ 0 ∷ 10 ∷ 20 ∷ 30 ∷ []) 0 usual

abbrev terms : ℕ → ℕ → Terms
terms f m = record { reach = 2; floor = f; margin = m }

-- The step (0, 0) compares three pixels and disagrees in none, two to either side compares one and disagrees in it: a verdict of each
-- kind, by floor and margin.
verdict_of_each_kind : (verdict twice (terms 1 0) 0 ≡ 0) × (verdict twice (terms 4 0) 1 ≡ 1) × (verdict twice (terms 1 0) 1 ≡ 2) × (verdict twice (terms 1 1) 1 ≡ 3)
unfolding sum count_if build joined keep_if index_of source at_sources side_at level_of bins target bins_added cut threshold_bit exclusion_bit bitmaps_of
    compared_bit disagreeing_bit overlap counts log_up_to log2 levels nine least_from earliest_least refine bitmaps_at counts_at step_at step
    stack_of exposure neighbour step_of window distance is_neighbour_shift comes_close is_rival survey frame_counts limit_of rivals verdict
verdict_of_each_kind = (refl, refl, refl, refl)

-- Two frames of one pixel each, s at percentile p and s' at p'. The first is the reference, and the second's neighbour.
abbrev one_pixel : ℕ → ℕ → ℕ → ℕ → Stack
one_pixel s p s' p' = stack_of (1 ∷ 1 ∷ []) (1 ∷ 1 ∷ []) (p ∷ p' ∷ []) (s ∷ s' ∷ []) 0 untolerant

-- Of a pixel of 200 the cut is 0 at 50, below it, and 201 at 100, above it: two such frames disagree at 50 and 100, and not at 100 both. A
-- pixel of 0 is at its cut at 50, so not trusted, and below it at 100: it disagrees with 200 at 50, and is not compared if each has the other's.
each_at_its_own : (frame_counts (one_pixel 200 50 200 100) 1 origin ≡ record { disagreeing = 1; compared = 1 })
    × (frame_counts (one_pixel 200 100 200 100) 1 origin ≡ record { disagreeing = 0; compared = 1 })
    × (frame_counts (one_pixel 0 100 200 50) 1 origin ≡ record { disagreeing = 1; compared = 1 })
    × (frame_counts (one_pixel 0 50 200 100) 1 origin ≡ record { disagreeing = 0; compared = 0 })
unfolding sum count_if build joined index_of source at_sources side_at level_of bins target bins_added cut threshold_bit exclusion_bit bitmaps_of
    compared_bit disagreeing_bit overlap counts bitmaps_at counts_at stack_of exposure neighbour frame_counts
each_at_its_own = (refl, refl, refl, refl)

-- Where the pixel of 200 disagrees with itself, the second candidate wins, since it compares nothing.
one_pixel_step : stepped untolerant 1 1 (record { samples = 200 ∷ []; percentile = 50 })
    (record { samples = 200 ∷ []; percentile = 100 }) ≡ record { shift = shift (negsuc 0) (negsuc 0); comparisons = 2 }
unfolding sum count_if build joined index_of source at_sources side_at level_of bins target bins_added cut threshold_bit exclusion_bit bitmaps_of
    compared_bit disagreeing_bit overlap counts log_up_to log2 levels nine least_from earliest_least refine up_to_zero tried bitmaps_at counts_at step_at
    comparisons_at step comparisons stepped
one_pixel_step = refl

-- The mean of four samples, and the upper left one.
two_ways_to_halve : (shrink2 average 2 2 (0 ∷ 0 ∷ 1 ∷ 1 ∷ []) ≡ 1 ∷ []) × (shrink2 subsample 2 2 (0 ∷ 0 ∷ 1 ∷ 1 ∷ []) ≡ 0 ∷ [])
unfolding build joined mean halved_sample shrink2
two_ways_to_halve = (refl, refl)

-- An odd column is dropped, and Subsample takes the upper left sample.
odd_side_dropped : (shrink2 subsample 3 2 (1 ∷ 2 ∷ 3 ∷ 4 ∷ 5 ∷ 6 ∷ []) ≡ 1 ∷ []) × (shrink2 average 3 2 (1 ∷ 2 ∷ 3 ∷ 4 ∷ 5 ∷ 6 ∷ []) ≡ 3 ∷ [])
unfolding build joined mean halved_sample shrink2
odd_side_dropped = (refl, refl)

-- Of 8 by 8 halved twice, level 2 stands past the 16 samples of level 1, and there is no level 3.
second_level_stands : (place_of 8 8 2 2 ≡ record { in_scratch = true; start = 16; samples = 4 }) × (place_of 8 8 2 3 ≡ nowhere)
unfolding sum side_at samples_at halved_samples level_start place_of
second_level_stands = (refl, refl)

-- Down from the reference, then up; frame 4 steps against frame 3, not against the reference.
walk_and_neighbour : (walk 2 5 ≡ 1 ∷ 0 ∷ 3 ∷ 4 ∷ []) × (neighbour 2 4 ≡ 3) × (neighbour 2 0 ≡ 1)
unfolding build walk neighbour
walk_and_neighbour = (refl, refl, refl)

-- A record of frame 1 at (-1, 2) with 3 of 260, and its bytes.
abbrev one : Record
one = record { frame = 1; shift = shift (negsuc 0) (pos 2); counts = record { disagreeing = 3; compared = 260 } }

abbrev twenty : List ℕ
twenty = 1 ∷ 0 ∷ 0 ∷ 0 ∷ 255 ∷ 255 ∷ 255 ∷ 255 ∷ 2 ∷ 0 ∷ 0 ∷ 0 ∷ 3 ∷ 0 ∷ 0 ∷ 0 ∷ 4 ∷ 1 ∷ 0 ∷ 0 ∷ []

bytes_of_a_record : (record_bytes one ≡ twenty) × (record_at twenty 0 ≡ one)
unfolding bytes32 twos_complement record_bytes field_of signed_of record_at
bytes_of_a_record = (refl, refl)

-- A wrong length and a percentile over 100: 2 comes first.
first_check_first : answer {A = ℕ} (cut_checks 2 2 3 101) 0 ≡ refused 2 []
unfolding answer side_over wrong_length percentile_over cut_checks
first_check_first = refl

-- Frames of 8 by 8 but for frame 0 and frame 3, the reference 1: the walk meets frame 0 first.
first_unequal_pair : answer {A = ℕ} (frames_checks (8 ∷ 8 ∷ 8 ∷ 9 ∷ []) (7 ∷ 8 ∷ 8 ∷ 8 ∷ []) (83 ∷ 50 ∷ 50 ∷ 17 ∷ []) 1) 0 ≡ refused 4 (8 ∷ 8 ∷ 8 ∷ 7 ∷ 0 ∷ [])
unfolding answer side_over wrong_length percentile_over no_reference frames_over pair_differs frames_checks build walk neighbour
first_unequal_pair = refl

-- Two frames with one percentile, which is over 100, and no such reference: the list's length comes first.
percentiles_in_first_lengths : answer {A = ℕ} (frames_checks (8 ∷ 8 ∷ []) (8 ∷ 8 ∷ []) (101 ∷ []) 2) 0 ≡ refused 2 []
unfolding answer side_over wrong_length percentile_over no_reference frames_over pair_differs frames_checks build walk neighbour
percentiles_in_first_lengths = refl

-- The last of two percentiles is over 100, and there is no such reference: 3 comes first.
any_percentile_over : answer {A = ℕ} (frames_checks (8 ∷ 8 ∷ []) (8 ∷ 8 ∷ []) (100 ∷ 101 ∷ []) 2) 0 ≡ refused 3 []
unfolding answer side_over wrong_length percentile_over no_reference frames_over pair_differs frames_checks build walk neighbour
any_percentile_over = refl
