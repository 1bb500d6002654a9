-- A step, a stack and a report as they are asked for, and what each call promises. The exported calls promise the same, with a status
-- in place of the answer: what a call says is a function of the defined answer.
use Rattle.std.specs.Prelude.{ℕ, ◌*◌, ◌≡◌, List, ◌++◌, ℤ, length, drop}
use Rattle.definitions.specs.Geometry.{listed}
use Rattle.definitions.specs.Align.{Options, Stack, Stepped, stepped, stack_of, shifts, step_bytes, step_words, stack_bytes, stack_words}
use Rattle.definitions.specs.Refusals.{Check, Answer, answer, after, Scratch, step_checks, stack_checks, survey_checks, report_checks}
use Rattle.definitions.specs.Report.{Terms, verdicts, records_needed, records, records_bytes, report_crop}
use Rattle.mtb_align.specs.Survey.{Reported}

-- A call that says the answer itself.
abbrev pub itself : {A : Type 0} → Answer A → Answer A
itself r = r

-- ---- the step

-- What the caller passes, and how long the buffers are that he lends.
pub record StepAsked : Type 0 where
  pub width : ℕ
  pub height : ℕ
  pub percentile : ℕ
  pub target_width : ℕ
  pub target_height : ℕ
  pub target_percentile : ℕ
  pub reference : List ℕ
  pub target : List ℕ
  pub options : Options
  pub bytes : ℕ
  pub words : ℕ

-- Its checks, and what it answers where they pass.
abbrev pub checks_of_step : StepAsked → List Check
checks_of_step a =
    step_checks a.width a.height a.percentile a.target_width a.target_height a.target_percentile a.options.bits
    (length a.reference) (length a.target) a.bytes a.words

abbrev pub step_asked : StepAsked → Stepped
step_asked a =
    stepped a.options a.width a.height
    (record { samples = a.reference; percentile = a.percentile })
    (record { samples = a.target; percentile = a.target_percentile })

-- What the scratch holds, before a call or after it.
pub record StepLent : Type 0 where
  pub bytes : List ℕ
  pub words : List ℕ

pub record StepPromise {X : Type 0} (said : Answer Stepped → X) (a : StepAsked) (r : X) (old new : StepLent) : Type 0 where
  pub answered : r ≡ said (answer (checks_of_step a) (step_asked a))
  pub pixels : Scratch (checks_of_step a) (step_bytes a.width a.height a.options.bits) old.bytes new.bytes
  pub maps : Scratch (checks_of_step a) (step_words a.width a.height) old.words new.words

-- ---- the stack

pub record StackAsked : Type 0 where
  pub widths : List ℕ
  pub heights : List ℕ
  pub percentiles : List ℕ
  pub samples : List ℕ
  pub reference : ℕ
  pub options : Options
  pub shifts : ℕ
  pub bytes : ℕ
  pub words : ℕ

abbrev pub stack_asked : StackAsked → Stack
stack_asked a = stack_of a.widths a.heights a.percentiles a.samples a.reference a.options

abbrev pub checks_of_stack : StackAsked → List Check
checks_of_stack a =
    stack_checks a.widths a.heights a.percentiles a.reference a.options.bits (length a.samples) a.shifts a.bytes a.words

-- What the lent lists hold, before a call or after it.
pub record StackLent : Type 0 where
  pub shifts : List ℤ
  pub bytes : List ℕ
  pub words : List ℕ

pub record StackPromise {X : Type 0} (said : Answer (Unit {0}) → X) (a : StackAsked) (r : X) (old new : StackLent) : Type 0 where
  pub answered : r ≡ said (answer (checks_of_stack a) tt)
  pub placed : new.shifts ≡ after (checks_of_stack a) (listed (shifts (stack_asked a))) old.shifts
  pub pixels : Scratch (checks_of_stack a) (stack_bytes (stack_asked a)) old.bytes new.bytes
  pub maps : Scratch (checks_of_stack a) (stack_words (stack_asked a)) old.words new.words

-- ---- the report

-- A stack, and what is asked of it.
pub record ReportAsked : Type 0 where
  pub stack : StackAsked
  pub terms : Terms
  pub verdicts : ℕ
  pub records : ℕ

abbrev pub stack_reported : ReportAsked → Stack
stack_reported a = stack_asked a.stack

-- Its checks up to the scratch, and all of them.
abbrev pub first_checks : ReportAsked → List Check
first_checks a =
    survey_checks a.stack.widths a.stack.heights a.stack.percentiles a.stack.reference a.stack.options.bits
    (length a.stack.samples) a.stack.shifts a.verdicts a.terms.reach a.stack.bytes a.stack.words

abbrev pub all_checks : ReportAsked → List Check
all_checks a = report_checks (first_checks a) (records_needed (stack_reported a) a.terms) a.records

-- What is answered where they pass.
abbrev pub reported_of : Stack → Terms → Reported
reported_of a q = record { crop = report_crop a; records = records_needed a q }

-- What is then in the record space: the records, and behind them what was there.
abbrev pub record_space : Stack → Terms → List ℕ → List ℕ
record_space a q old = records_bytes (records a q) ++ drop (20 * records_needed a q) old

-- What the lists hold that a report writes, and the scratch, before a call or after it.
pub record ReportLists : Type 0 where
  pub shifts : List ℤ
  pub verdicts : List ℕ
  pub records : List ℕ

pub record ReportLent : Type 0 where
  pub lists : ReportLists
  pub bytes : List ℕ
  pub words : List ℕ

-- What is answered and written of a stack by a call that has these checks.
pub record Written {X : Type 0} (said : Answer Reported → X) (checks : List Check) (a : Stack) (q : Terms) (r : X) (old new : ReportLists) : Type 0 where
  pub answered : r ≡ said (answer checks (reported_of a q))
  pub placed : new.shifts ≡ after checks (listed (shifts a)) old.shifts
  pub judged : new.verdicts ≡ after checks (verdicts a q) old.verdicts
  pub recorded : new.records ≡ after checks (record_space a q old.records) old.records

pub record ReportPromise {X : Type 0} (said : Answer Reported → X) (a : ReportAsked) (r : X) (old new : ReportLent) : Type 0 where
  pub written : Written said (all_checks a) (stack_reported a) a.terms r old.lists new.lists
  pub pixels : Scratch (first_checks a) (stack_bytes (stack_reported a)) old.bytes new.bytes
  pub maps : Scratch (first_checks a) (stack_words (stack_reported a)) old.words new.words
