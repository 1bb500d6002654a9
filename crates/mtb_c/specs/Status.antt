-- What the exported functions return and store.
use Rattle.std.specs.Prelude.{ℕ, Bool, cond, List, [], length}
use Rattle.std.proofs.lemmas.List.Edits.{sets}
use Rattle.definitions.specs.Shrink.{average, subsample}
use Rattle.definitions.specs.Bitmap.{row_of}
use Rattle.definitions.specs.Align.{Options}
use Rattle.definitions.specs.Refusals.{Answer, accepted, refused, after, row_checks}
use Rattle.definitions.specs.Report.{Terms}

-- An answer as a status: 0 for an accepted call, else the number of its refusal.
abbrev pub status_of : {A : Type 0} → Answer A → ℕ
status_of (accepted a) = 0
status_of (refused n values) = n

-- The list of a refusal's values: those of a refused call stand at its front, and the rest of it is as it was.
abbrev pub values_after : {A : Type 0} → Answer A → List ℕ → List ℕ
values_after (accepted a) old = old
values_after (refused n values) old = sets old 0 values

-- Row y of a bitmap, or nothing where the call is refused.
abbrev pub row_part : List ℕ → ℕ → ℕ → ℕ → List ℕ
row_part words w h y = after (row_checks w h (length words) y) (row_of words w y) []

-- The options of a search.
abbrev pub options_of : ℕ → ℕ → Bool → Options
options_of bits tolerance subsampled = record { bits = bits; tolerance = tolerance; shrink = cond subsampled subsample average }

-- 01's r, f and m.
abbrev pub terms_of : ℕ → ℕ → ℕ → Terms
terms_of reach floor margin = record { reach = reach; floor = floor; margin = margin }
