-- Mosaics of a few samples taken apart and put together, and refusals, computed by the definitions.
use Rattle.std.specs.Prelude.{ℕ, ◌≡◌, refl, List, [], ◌∷◌}
use Rattle.definitions.specs.Sum.{sum}
use Rattle.definitions.specs.Build.{build, joined}
use Rattle.definitions.specs.Refusals.{answer, accepted, refused, side_over, either_over, wrong_length}
use Rattle.mosaic_format.specs.Mosaic.{half, plane_width, plane_height, plane_start, plane, apart, plane_of, place_of, together, mosaic_checks}
use Rattle.mosaic_format.specs.Mosaic.{plane_at, planes_of, planes_checks, part_of}

-- 3 by 3, so that all four planes differ in size:
--   1 2 3
--   4 5 6
--   7 8 9
abbrev nine : List ℕ
nine = 1 ∷ 2 ∷ 3 ∷ 4 ∷ 5 ∷ 6 ∷ 7 ∷ 8 ∷ 9 ∷ []

abbrev nine_apart : List ℕ
nine_apart = 1 ∷ 3 ∷ 7 ∷ 9 ∷ 2 ∷ 8 ∷ 4 ∷ 6 ∷ 5 ∷ []

nine_apart_lem : apart 3 3 nine ≡ nine_apart
unfolding sum build joined half plane_width plane_height plane_start plane apart
nine_apart_lem = refl

nine_together : together 3 3 nine_apart ≡ nine
unfolding sum build joined half plane_width plane_height plane_start plane_of place_of together
nine_together = refl

nine_planes : planes_of 3 3
    ≡ record { width = 2; height = 2; start = 0 } ∷ record { width = 1; height = 2; start = 4 }
    ∷ record { width = 2; height = 1; start = 6 } ∷ record { width = 1; height = 1; start = 8 } ∷ []
unfolding sum build half plane_width plane_height plane_start plane_at planes_of
nine_planes = refl

-- its even rows' odd columns are 2 and 8; of a list that ends before 8 they are no part
nine_part : (part_of (plane_at 3 3 1) nine_apart ≡ 2 ∷ 8 ∷ []) × (part_of (plane_at 3 3 1) (1 ∷ 3 ∷ 7 ∷ 9 ∷ 2 ∷ []) ≡ [])
unfolding sum either_over half plane_width plane_height plane_start plane_at part_of
nine_part = (refl, refl)

-- 1 by 3: no odd columns, so that two planes are empty, yet have rows
column : (apart 1 3 (1 ∷ 2 ∷ 3 ∷ []) ≡ 1 ∷ 3 ∷ 2 ∷ [])
    × (planes_of 1 3
    ≡ record { width = 1; height = 2; start = 0 } ∷ record { width = 0; height = 2; start = 2 }
    ∷ record { width = 1; height = 1; start = 2 } ∷ record { width = 0; height = 1; start = 3 } ∷ [])
unfolding sum build joined half plane_width plane_height plane_start plane apart plane_at planes_of
column = (refl, refl)

-- a side over 8,192 goes before a wrong length, and one sample too few or too many is wrong of either list
refusals : (answer (mosaic_checks 8193 0 1 0) (tt {0}) ≡ refused 1 []) × (answer (mosaic_checks 0 8193 0 1) (tt {0}) ≡ refused 1 [])
    × (answer (mosaic_checks 3 3 8 9) (tt {0}) ≡ refused 2 []) × (answer (mosaic_checks 3 3 9 10) (tt {0}) ≡ refused 2 [])
    × (answer (mosaic_checks 3 3 9 9) (tt {0}) ≡ accepted tt) × (answer (planes_checks 3 8193) (tt {0}) ≡ refused 1 [])
unfolding answer side_over wrong_length mosaic_checks planes_checks
refusals = (refl, refl, refl, refl, refl, refl)
