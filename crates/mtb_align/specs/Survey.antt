-- The report's answer in document 01's terms, what its survey asks, and what its inner functions compute of a stack.
use Rattle.std.specs.Prelude.{ℕ, ◌+◌, ◌-◌, ◌*◌, ◌/◌, ◌≤◌, ◌≡◌, List, length, take}
use Rattle.definitions.specs.Geometry as geometry
use Rattle.definitions.specs.Difference.{Counts}
use Rattle.definitions.specs.Align.{Stack}
use Rattle.definitions.specs.Report.{Terms, Question, Record, verdicts, records_needed, records, records_bytes}
use Rattle.laws.specs.bitmaps.Bands.{band_disagreeing}
use Rattle.mtb_align.specs.declared.report.Terms as code
use Rattle.mtb_align.specs.declared.question.Question as asked
use Rattle.mtb_align.specs.declared.report.Summary.{Summary}
use Rattle.mtb_align.specs.declared.entry.Entry.{Entry}
use Rattle.mtb_align.specs.declared.rivals.Verdict.{Verdict}
use Rattle.mtb_align.specs.declared.rivals.Verdict.TheVariants.{Reference, Weak, Alone, Contested}
use Rattle.mtb_align.specs.Answers.{rect_in, shift_in, counts_in}
use Rattle.mtb_align.specs.Layout.{map_at}

-- ---- the answer

-- 01's r, f and m.
abbrev pub terms_in : code.Terms → Terms
terms_in q = record { reach = q.reach; floor = q.floor; margin = q.margin }

-- The crop and the record count.
pub record Reported : Type 0 where
  pub crop : geometry.Rect
  pub records : ℕ

abbrev pub reported_in : Summary → Reported
reported_in s = record { crop = rect_in s.crop; records = s.records }

-- ---- the verdicts

-- The byte of a verdict.
abbrev pub verdict_in : Verdict → ℕ
verdict_in Reference = 0
verdict_in Weak = 1
verdict_in Alone = 2
verdict_in Contested = 3

-- ---- the survey

-- What a survey of the code asks.
abbrev pub question_in : asked.Question → Question
question_in u = record { centre = shift_in u.centre; reach = u.reach; floor = u.floor; limit = u.limit }

-- What a record of the code says.
abbrev pub record_in : Entry → Record
record_in e = record { frame = e.frame; shift = shift_in e.shift; counts = counts_in e.counts }

-- What the report asks around a step: a rival disagrees in at most m pixels more than the step.
abbrev pub question_around : (geometry.Shift → Counts) → geometry.Shift → Terms → Question
question_around at step q = record { centre = step; reach = q.reach; floor = q.floor; limit = (at step).disagreeing + q.margin }

-- What it found: the verdicts at the front of a list, how many records there are, and, where there was room for all, their bytes.
pub record Found (a : Stack) (q : Terms) (judged kept : List ℕ) (needed : ℕ) : Type 0 where
  pub long : a.frames ≤ length judged
  pub judgements : take a.frames judged ≡ verdicts a q
  pub number : needed ≡ records_needed a q
  pub bytes : 20 * needed ≤ length kept → take (20 * needed) kept ≡ records_bytes (records a q)

-- ---- a sample of a count

-- In how many pixels of the first rows that they share two pairs disagree at a shift: an eighth of those rows.
unfoldable pub sample_of : List ℕ → ℕ → ℕ → geometry.Shift → ℕ
sample_of words w h s =
    band_disagreeing w (map_at words w h 0) (map_at words w h 1) (map_at words w h 2) (map_at words w h 3) s
    ((h - (geometry.ahead s.y + geometry.behind s.y)) / 8)
