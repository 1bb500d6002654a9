-- A mosaic of two by two samples, its four planes, and the calls that go from one to the other. Columns and rows count from 0.
use Rattle.std.specs.Prelude.{ℕ, ◌+◌, ◌-◌, ◌*◌, ◌/◌, ◌%◌, cond, ◌||◌, List, [], ◌∷◌, ltb, length, get_or, take, drop}
use Rattle.definitions.specs.Sum.{sum}
use Rattle.definitions.specs.Build.{build, joined, image, sample}
use Rattle.definitions.specs.Refusals.{Check, side_over, either_over, wrong_length}

-- ---- the four planes, by number: 0 has the even rows' even columns, 1 the even rows' odd columns, 2 the odd rows' even columns and 3
-- the odd rows' odd columns. Plane p has the rows of parity p / 2 and the columns of parity p % 2.

-- How many columns or rows of a side are even (parity 0) or odd (parity 1): of an odd side there is one more even one.
unfoldable pub half : ℕ → ℕ → ℕ
half parity side = (side + 1 - parity) / 2

-- The sides of plane p. Either may be 0.
unfoldable pub plane_width : ℕ → ℕ → ℕ
plane_width w p = half (p % 2) w

unfoldable pub plane_height : ℕ → ℕ → ℕ
plane_height h p = half (p / 2) h

-- Where plane p starts in the list of all planes: behind the samples of those before it.
unfoldable pub plane_start : ℕ → ℕ → ℕ → ℕ
plane_start w h p = sum p (λ (q : ℕ). plane_width w q * plane_height h q)

-- Plane p of a mosaic of w by h: its column u and row v are the mosaic's column 2 u + p % 2 and row 2 v + p / 2.
unfoldable pub plane : ℕ → ℕ → List ℕ → ℕ → List ℕ
plane w h s p = image (plane_width w p) (plane_height h p) (λ (u v : ℕ). sample s w (2 * u + p % 2) (2 * v + p / 2))

-- ---- taking apart, and putting together

-- The four planes, one after another.
unfoldable pub apart : ℕ → ℕ → List ℕ → List ℕ
apart w h s = joined 4 (plane w h s)

-- The plane that has the mosaic's column x and row y.
unfoldable pub plane_of : ℕ → ℕ → ℕ
plane_of x y = 2 * (y % 2) + x % 2

-- Where their sample stands in the list of all planes: in that plane at column x / 2 and row y / 2.
unfoldable pub place_of : ℕ → ℕ → ℕ → ℕ → ℕ
place_of w h x y = plane_start w h (plane_of x y) + ((y / 2) * plane_width w (plane_of x y) + x / 2)

-- The mosaic of a list of planes: each sample from its place.
unfoldable pub together : ℕ → ℕ → List ℕ → List ℕ
together w h planes = image w h (λ (x y : ℕ). get_or planes (place_of w h x y) 0)

-- Both calls, by the size and the lengths of mosaic and planes: 1, then 2 for either.
unfoldable pub mosaic_checks : ℕ → ℕ → ℕ → ℕ → List Check
mosaic_checks w h mosaic planes = side_over w ∷ side_over h ∷ wrong_length mosaic (w * h) ∷ wrong_length planes (w * h) ∷ []

-- ---- a plane's sides and its part of the list

-- A plane by its sides and where it starts.
pub record Plane : Type 0 where
  pub width : ℕ
  pub height : ℕ
  pub start : ℕ

-- Plane p of a mosaic of w by h.
unfoldable pub plane_at : ℕ → ℕ → ℕ → Plane
plane_at w h p = record { width = plane_width w p; height = plane_height h p; start = plane_start w h p }

-- All four, in their order.
unfoldable pub planes_of : ℕ → ℕ → List Plane
planes_of w h = build 4 (plane_at w h)

-- Asking for them: 1.
unfoldable pub planes_checks : ℕ → ℕ → List Check
planes_checks w h = side_over w ∷ side_over h ∷ []

-- A plane's part of a list: as many samples as its sides' product, from its start on. The empty part where a side is over 8,192 or the list
-- ends before.
unfoldable pub part_of : Plane → List ℕ → List ℕ
part_of p l =
    cond (either_over p.width p.height || ltb (length l) (p.start + p.width * p.height)) []
    (take (p.width * p.height) (drop p.start l))
