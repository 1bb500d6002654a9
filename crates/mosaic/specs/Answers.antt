-- The code's answers in document 02's terms: each refusal's number, and each answer as accepted or refused.
use Rattle.std.specs.Prelude.{ℕ, List, [], ◌∷◌, Result, Ok, Err}
use Rattle.definitions.specs.Refusals.{Answer, accepted, refused}
use Rattle.mosaic_format.specs.Mosaic as format
use Rattle.mosaic.specs.declared.MosaicError.{MosaicError}
use Rattle.mosaic.specs.declared.MosaicError.TheVariants.{Side, Length}
use Rattle.mosaic.specs.declared.Plane.{Plane}
use Rattle.mosaic.specs.declared.Planes.{Planes}

-- The number of a refusal, both 01's.
abbrev pub number_of : MosaicError → ℕ
number_of Side = 1
number_of Length = 2

-- A refusal as an answer of any kind. None has values.
abbrev pub refusal : {A : Type 0} → MosaicError → Answer A
refusal e = refused (number_of e) []

-- What a call returns, as an answer: its value as f shows it, or the refusal.
abbrev pub answered : {T A : Type 0} → (T → A) → Result T MosaicError → Answer A
answered f (Ok v) = accepted (f v)
answered f (Err e) = refusal e

abbrev pub plane_in : Plane → format.Plane
plane_in p = record { width = p.width; height = p.height; start = p.start }

-- The four planes by number: even rows first, of either the even columns first.
abbrev pub planes_in : Planes → List format.Plane
planes_in p = plane_in p.even_even ∷ plane_in p.even_odd ∷ plane_in p.odd_even ∷ plane_in p.odd_odd ∷ []
