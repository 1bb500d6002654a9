-- Demand 3 of what a call of the report wrote: whoever holds the promise of a call has what 01 says, of the bytes read back and of the
-- numbers in the lists. Assumes nothing but the promise.
use Rattle.std.specs.Prelude.{ℕ, ◌*◌, ◌≤◌, ◌<◌, ◌≡◌, false}
use Rattle.std.proofs.Math.Path.{sym, ap, ap₂, subst}
use Rattle.std.proofs.Common.{◌∙◌, ⊎_elim, arith}
use mathlib.Core.List.{List, [], ◌∷◌, ◌++◌, Memᴰ}
use Rattle.std.proofs.Math.ListN.{length, get_or, drop}
use Rattle.std.proofs.Math.Seq.{drop_at}
use Rattle.definitions.specs.Build.{build}
use Rattle.definitions.specs.Geometry.{listed}
use Rattle.definitions.specs.Align.{shifts, stack_bytes, stack_words}
use Rattle.definitions.specs.Refusals.{Check, Answer, accepted, refused, answer, FreeUpTo}
use Rattle.definitions.specs.Report.{Record, records, records_needed, records_bytes, record_at, verdict, verdicts}
use Rattle.laws.specs.checks.Checks.{FirstFails, first_fails, all_pass, same_value, accepted_too, after_accepted, after_refused}
use Rattle.laws.specs.checks.ChecksReport.{SurveyInOrder, survey_in_order, survey_refused, accepted_fits, refused_either}
use Rattle.laws.specs.report.Demand.{NamesRivals, Judges, Crops, demand_three}
use Rattle.laws.specs.search.Free.{free_after, kept_after}
use Rattle.laws.specs.general.Lists.{build_length, build_at}
use Rattle.laws.specs.report.Records.{records_number, report_bytes}
use Rattle.laws.specs.search.StepBounds.{Small}
use Rattle.mtb_align.specs.Survey.{Reported}
use Rattle.mtb_align.specs.Asked.{itself, ReportAsked, stack_reported, first_checks, all_checks, reported_of, ReportLent, ReportPromise}

-- What an accepted report answers.
abbrev promised : ReportAsked → Reported
promised a = reported_of (stack_reported a) a.terms

-- The first n records that the record space holds, read back from their bytes.
abbrev pub records_read : ℕ → ReportLent → List Record
records_read n lent = build n (record_at lent.lists.records)

-- Both kinds of scratch are free in content as far as they are needed.
pub record ScratchFree (a : ReportAsked) (old new : ReportLent) : Type 0 where
  pub bytes : FreeUpTo (stack_bytes (stack_reported a)) old.bytes new.bytes
  pub words : FreeUpTo (stack_words (stack_reported a)) old.words new.words

-- An accepted report.
pub record Acceptance (a : ReportAsked) (s : Reported) (old new : ReportLent) : Type 0 where
  -- every check passes, so that 01's limits hold: at most 16 frames of at most 8,192 by 8,192, a reference among them, a percentile of at
  -- most 100 for each, a reach of at most 64
  pub passes : (c : Check) → Memᴰ c (all_checks a) → c.fails ≡ false
  pub small : Small (stack_reported a)
  pub each : length a.stack.percentiles ≡ (stack_reported a).frames
  pub cut : (k : ℕ) → (stack_reported a).percentile k ≤ 100
  pub near : a.terms.reach ≤ 64
  -- the answered number of records, read back from the space, are the report's; the bytes past them are as they were
  pub room : 20 * s.records ≤ a.records
  pub read : records_read s.records new ≡ records (stack_reported a) a.terms
  pub past : drop (20 * s.records) new.lists.records ≡ drop (20 * s.records) old.lists.records
  -- what is read back names each rival of each frame exactly once and no other shift, with both counts, in order
  pub rivals : NamesRivals (stack_reported a) a.terms (records_read s.records new)
  -- a verdict for each frame, which means what 01 says
  pub number : length new.lists.verdicts ≡ (stack_reported a).frames
  pub judged : (k : ℕ) → k < (stack_reported a).frames → Judges (stack_reported a) a.terms k (get_or new.lists.verdicts k 0)
  -- the shifts of the stack, and a crop of exactly the places that every moved frame covers
  pub moved : new.lists.shifts ≡ listed (shifts (stack_reported a))
  pub cropped : Crops (stack_reported a) s.crop
  pub scratch : ScratchFree a old new

-- A report that is refused with 10: the values are the number of records, which the space does not hold.
pub record Ten (a : ReportAsked) (values : List ℕ) (old new : ReportLent) : Type 0 where
  pub number : values ≡ length (records (stack_reported a) a.terms) ∷ []
  pub short : a.records < 20 * length (records (stack_reported a) a.terms)
  pub rivals : NamesRivals (stack_reported a) a.terms (records (stack_reported a) a.terms)
  pub scratch : ScratchFree a old new

-- A refused report: the number and the values of the first check that fails, and every list as it was, but for the scratch of 10.
pub record Refusal (a : ReportAsked) (number : ℕ) (values : List ℕ) (old new : ReportLent) : Type 0 where
  pub first : FirstFails (all_checks a) number values
  pub shifts : new.lists.shifts ≡ old.lists.shifts
  pub verdicts : new.lists.verdicts ≡ old.lists.verdicts
  pub records : new.lists.records ≡ old.lists.records
  pub scratch : (number ≡ 10 → ⊥) → (new.bytes ≡ old.bytes) × (new.words ≡ old.words)
  pub ten : number ≡ 10 → Ten a values old new

-- What is owed for an answer.
abbrev pub Owed : ReportAsked → Answer Reported → ReportLent → ReportLent → Type 0
Owed a (accepted s) old new = Acceptance a s old new
Owed a (refused number values) old new = Refusal a number values old new

module _ (a : ReportAsked) (old new : ReportLent) where
  -- the checks up to the scratch pass: 01's limits hold
  module _ (first : answer (first_checks a) (tt {0}) ≡ accepted tt) where
    in_order : SurveyInOrder (stack_reported a) (length a.stack.heights) (length a.stack.percentiles) a.stack.shifts a.verdicts a.terms.reach a.stack.bytes a.stack.words
    in_order =
        let s = a.stack in
        survey_in_order s.widths s.heights s.percentiles s.samples s.reference s.options _ _ _ _ _ (sym first)

    within : Small (stack_reported a)
    within = in_order.stack.small

    free : {r : Answer Reported} → ReportPromise itself a r old new → ScratchFree a old new
    free p = record {
      bytes = free_after (first_checks a) (stack_bytes (stack_reported a)) first p.pixels;
      words = free_after (first_checks a) (stack_words (stack_reported a)) first p.maps;
    }

  acceptance : (s : Reported) → ReportPromise itself a (accepted s) old new → Acceptance a s old new
  unfolding verdicts
  acceptance s p =
      let st = stack_reported a in
      let q = a.terms in
      let needed = records_needed st q in
      let all = sym p.written.answered in
      let fit = accepted_fits (first_checks a) needed a.records (promised a) all in
      let said : s ≡ promised a = same_value (p.written.answered ∙ accepted_too (promised a) (promised a) (all_checks a) all) in
      let count : s.records ≡ needed = ap (λ (r : Reported). r.records) said in
      let small = within fit.0 in
      let near = (in_order fit.0).near in
      let table = demand_three st q in
      let rest = drop (20 * needed) old.lists.records in
      let space : new.lists.records ≡ records_bytes (records st q) ++ rest = p.written.recorded ∙ after_accepted (promised a) (all_checks a) _ _ all in
      let judgements : new.lists.verdicts ≡ build st.frames (verdict st q) = p.written.judged ∙ after_accepted (promised a) (all_checks a) _ _ all in
      let read : records_read s.records new ≡ records st q =
      ap₂ (λ (n : ℕ) (b : List ℕ). build n (record_at b)) (count ∙ sym (records_number st q)) space ∙ table.read_back small near rest in
      record {
        passes = all_pass (promised a) (all_checks a) all;
        small = small;
        each = (in_order fit.0).stack.each;
        cut = (in_order fit.0).stack.cut;
        near = near;
        room = omega (arith, fit.1, count);
        read = read;
        past =
            ap₂ (λ (n : ℕ) (b : List ℕ). drop (20 * n) b) count space
            ∙ drop_at (records_bytes (records st q)) rest (20 * needed) (report_bytes st q)
            ∙ ap (λ (n : ℕ). drop (20 * n) old.lists.records) (sym count);
        rivals = subst (NamesRivals st q) (sym read) table.rivals;
        number = ap length judgements ∙ build_length st.frames (verdict st q);
        judged = λ k h. subst (Judges st q k) (sym (ap (λ (l : List ℕ). get_or l k 0) judgements ∙ build_at st.frames (verdict st q) k 0 h)) (table.judged k);
        moved = p.written.placed ∙ after_accepted (promised a) (all_checks a) _ _ all;
        cropped = subst (Crops st) (sym (ap (λ (r : Reported). r.crop) said)) table.cropped;
        scratch = free fit.0 p;
      }

  refusal : (number : ℕ) (values : List ℕ) → ReportPromise itself a (refused number values) old new → Refusal a number values old new
  refusal number values p =
      let st = stack_reported a in
      let q = a.terms in
      let all = sym p.written.answered in
      let needed = records_number st q in
      let either = refused_either (first_checks a) (records_needed st q) a.records (promised a) all in
      record {
        first = first_fails (promised a) (all_checks a) all;
        shifts = p.written.placed ∙ after_refused (promised a) (all_checks a) _ _ all;
        verdicts = p.written.judged ∙ after_refused (promised a) (all_checks a) _ _ all;
        records = p.written.recorded ∙ after_refused (promised a) (all_checks a) _ _ all;
        scratch = λ ne. ⊎_elim
            (λ e. (kept_after (first_checks a) (stack_bytes (stack_reported a)) e p.pixels, kept_after (first_checks a) (stack_words (stack_reported a)) e p.maps))
            (λ t. absurd (ne t.1))
            either;
        ten = λ e. ⊎_elim
            (λ f. absurd (omega (arith, e, survey_refused _ _ _ _ _ _ _ _ _ _ _ f)))
            (λ t. record {
              number = t.2 ∙ ap (λ (n : ℕ). n ∷ []) (sym needed);
              short = omega (arith, t.3, needed);
              rivals = (demand_three st q).rivals;
              scratch = free t.0 p;
            })
            either;
      }

  -- whoever holds the promise of a call is owed it
  pub report_owed : (r : Answer Reported) → ReportPromise itself a r old new → Owed a r old new
  report_owed (accepted s) p = acceptance s p
  report_owed (refused number values) p = refusal number values p
