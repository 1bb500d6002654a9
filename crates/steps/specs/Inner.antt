-- What the inner functions compute: a text put into a buffer, and the text of the records that a list of bytes holds.
use Rattle.std.specs.Prelude.{ℕ, ◌+◌, ◌*◌, min, ◌≡◌, List, ◌++◌, eqb, ℤ, pos, length, get_or}
use Rattle.std.proofs.lemmas.List.Edits.{sets}
use Rattle.definitions.specs.Build.{build, keep_if}
use Rattle.definitions.specs.Report.{Record, record_at}
use Rattle.steps.specs.declared.records.Record as code
use Rattle.steps.specs.Text.{frame_line, lines_of_records}

-- A text that is put into a buffer from a place on, as far as there is room: what the buffer holds then, and where the next byte goes.
-- Past the end of a list `sets` stores nothing.
pub record Put (old : List ℕ) (at : ℕ) (text new : List ℕ) (next : ℕ) : Type 0 where
  pub held : new ≡ sets old at text
  pub ends : next ≡ min (at + length text) (length old)

-- ---- records, 20 bytes each

-- A record that is read from its bytes.
abbrev pub record_in : code.Record → Record
record_in e = record { frame = e.frame; shift = record { x = e.x; y = e.y }; counts = record { disagreeing = e.disagreeing; compared = e.compared } }

-- The records of frame k among the first n that a list of bytes holds.
unfoldable pub records_of : List ℕ → ℕ → ℕ → List Record
records_of bytes n k = keep_if (λ (e : Record). eqb e.frame k) (build n (record_at bytes))

-- Frame k's line and those of its records, from a list of shifts, one of verdicts, and n records.
unfoldable pub frame_text_in : List ℤ → List ℕ → List ℕ → ℕ → ℕ → List ℕ
frame_text_in shifts verdicts bytes n k =
    let l = records_of bytes n k in
    frame_line k (record { x = get_or shifts (2 * k) (pos 0); y = get_or shifts (2 * k + 1) (pos 0) }) (get_or verdicts k 0) (length l) ++ lines_of_records l
