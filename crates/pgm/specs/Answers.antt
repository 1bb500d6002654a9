-- The code's answers in document 02's terms: each refusal's number, and each answer as accepted or refused.
use Rattle.std.specs.Prelude.{ℕ, [], Result, Ok, Err}
use Rattle.definitions.specs.Refusals.{Answer, accepted, refused}
use Rattle.pgm_format.specs.Pgm as format
use Rattle.pgm.specs.declared.PgmError.{PgmError}
use Rattle.pgm.specs.declared.PgmError.TheVariants.{Side, Length, Frames, Header, Highest, Short}
use Rattle.pgm.specs.declared.Image.{Image}
use Rattle.pgm.specs.declared.stack.Extent.{Extent}

-- The number of a refusal: 1, 2 and 6 are 01's, the others 02's.
abbrev pub number_of : PgmError → ℕ
number_of Side = 1
number_of Length = 2
number_of Frames = 6
number_of Header = 13
number_of Highest = 14
number_of Short = 15

-- A refusal as an answer of any kind. None has values.
abbrev pub refusal : {A : Type 0} → PgmError → Answer A
refusal e = refused (number_of e) []

abbrev pub image_in : Image → format.Image
image_in i = record { width = i.width; height = i.height; start = i.start; next = i.next }

-- How many samples the images of a run have, and the place behind them.
pub record Run : Type 0 where
  pub samples : ℕ
  pub next : ℕ

abbrev pub run_in : Extent → Run
run_in e = record { samples = e.samples; next = e.next }

-- What a call returns, as an answer: its value as f shows it, or the refusal.
abbrev pub answered : {T A : Type 0} → (T → A) → Result T PgmError → Answer A
answered f (Ok v) = accepted (f v)
answered f (Err e) = refusal e
