-- Answers as the numbers that end a line.
use Rattle.std.specs.Prelude.{ℕ, ◌≤◌, ◌≡◌, cond, List, ◌∷◌, Result, Ok, Err, eqb, length, get_or, drop}
use Rattle.mtb_align.specs.Answers.{number_of, values_of}
use Rattle.mtb_align.specs.declared.error.Error.{Error}
use Rattle.mtb_align.specs.declared.shrink.Shrink.{Shrink}
use Rattle.mtb_align.specs.declared.shrink.Shrink.TheVariants.{Average, Subsample}
use Rattle.replay.specs.Lists.{Marked}

-- A refusal: its number, and its values behind their count.
abbrev pub refusal_line : Error → List ℕ
refusal_line e = number_of e ∷ length (values_of e) ∷ values_of e

-- The line ends with this answer of a call that writes bytes: 0 and the list that it wrote, or a refusal, which left the marks.
abbrev pub BytesAnswer : List ℕ → Result (Unit {0}) Error → List ℕ → Type 0
BytesAnswer line (Ok done) got = line ≡ 0 ∷ length got ∷ got
BytesAnswer line (Err e) got = (line ≡ refusal_line e) × Marked 165 got

-- Scratch keeps the mark past a number of bytes and a number of words, with which the line begins.
pub record PastMarked (line bytes words : List ℕ) : Type 0 where
  pub free : get_or line 0 0 ≤ length bytes
  pub free_words : get_or line 1 0 ≤ length words
  pub past : Marked 165 (drop (get_or line 0 0) bytes)
  pub past_words : Marked 11936128518282651045 (drop (get_or line 1 0) words)

-- How a frame is halved: 1 for Subsample, and else Average.
abbrev pub mode_at : ℕ → Shrink
mode_at n = cond (eqb n 1) Subsample Average
