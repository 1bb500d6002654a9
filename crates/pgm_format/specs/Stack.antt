-- Images that stand one behind another in a file, as a stack's widths, heights and samples; and frames written one behind another.
use Rattle.std.specs.Prelude.{ℕ, zero, suc, ◌≤◌, List, [], ◌∷◌, ◌++◌, map, ltb, length}
use Rattle.definitions.specs.Refusals.{Check, Answer, answer, wrong_length, frames_over}
use Rattle.pgm_format.specs.Pgm.{Image, ImageAt, read_checks, image_read, samples_of, Frame, pgm}

-- Some images stand in a file from a place on, each where the one before it ends, the last up to `end`.
pub data Run (file : List ℕ) : ℕ → List Image → ℕ → Type 0 where
  ended : (at : ℕ) → at ≤ length file → Run file at [] at
  image : (at : ℕ) (i : Image) (l : List Image) (end : ℕ) → ImageAt file at i → Run file i.next l end → Run file at (i ∷ l) end

-- ---- the reader

-- n images from a place on.
unfoldable pub images_from : List ℕ → ℕ → ℕ → List Image
images_from file at zero = []
images_from file at (suc n) = image_read file at ∷ images_from file (image_read file at).next n

-- The place behind them.
unfoldable pub next_from : List ℕ → ℕ → ℕ → ℕ
next_from file at zero = at
next_from file at (suc n) = next_from file (image_read file at).next n

-- 13: the place is past the file's end.
unfoldable pub place_past : List ℕ → ℕ → Check
place_past file at = record { fails = ltb (length file) at; number = 13; values = [] }

-- The checks of one image after another. Behind an image that was read the place is in the file.
unfoldable pub images_checks : List ℕ → ℕ → ℕ → List Check
images_checks file at zero = place_past file at ∷ []
images_checks file at (suc n) = read_checks file at ++ images_checks file (image_read file at).next n

-- What a stack takes of them: their widths, their heights, and their samples, one image's behind the other's.
unfoldable pub widths_of : List Image → List ℕ
widths_of = map (λ (i : Image). i.width)

unfoldable pub heights_of : List Image → List ℕ
heights_of = map (λ (i : Image). i.height)

unfoldable pub joined_samples : List ℕ → List Image → List ℕ
joined_samples file [] = []
joined_samples file (i ∷ l) = samples_of file i ++ joined_samples file l

-- Laying images out as a stack, by the lengths of its lists: 6 and 2 as a stack has them, the images, and 2 for the samples.
unfoldable pub read_stack_checks : List ℕ → ℕ → ℕ → ℕ → ℕ → List Check
read_stack_checks file at widths heights samples =
    frames_over widths ∷ frames_over heights ∷ wrong_length heights widths
    ∷ images_checks file at widths
    ++ wrong_length samples (length (joined_samples file (images_from file at widths))) ∷ []

-- The answer is the place behind the last image.
unfoldable pub read_stack : List ℕ → ℕ → ℕ → ℕ → ℕ → Answer ℕ
read_stack file at widths heights samples = answer (read_stack_checks file at widths heights samples) (next_from file at widths)

-- ---- the writer

-- The files of some frames, one behind another.
unfoldable pub files_of : List Frame → List ℕ
files_of [] = []
files_of (f ∷ l) = pgm f ++ files_of l
