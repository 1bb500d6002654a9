use mathlib.Core.Path.{◌≡◌, refl, sym, ap, ◌∙◌, subst}
use mathlib.Core.List.{List, []}
use Prim.Native.Nat.{ℕ}
use native.Mathlib.Omega.{arith}
use lib.ListN.{length}
use Rattle.definitions.specs.Align.{Stack, stack_of, stack_bytes, stack_words}
use Rattle.definitions.specs.Refusals.{FreeUpTo, report_checks, accepted, answer}
use Rattle.definitions.specs.Report.{records_needed}
use Rattle.laws.specs.checks.Checks.{refused_too, after_refused}
use Rattle.laws.specs.checks.ChecksReport.{SurveyInOrder, survey_in_order, space_alone, space_alone_after, refused_before}
use Rattle.laws.specs.search.Free.{scratch_free, scratch_kept}
use Rattle.mtb_align.specs.declared.align.Options.{Options}
use Rattle.mtb_align.specs.declared.report.Terms.{Terms}
use Rattle.mtb_align.specs.Answers.{answered, refusal}
use Rattle.mtb_align.specs.Asked.{itself, Written, ReportAsked, stack_reported, first_checks, all_checks, reported_of}
use Rattle.mtb_align.specs.Search.{options_in}
use Rattle.mtb_align.specs.Survey.{Reported, reported_in, terms_in}
use Rattle.mtb_align.proofs.report.report.Goals.{In_ok-report_fits}
use Rattle.mtb_align.proofs.Answered.{passed_on}
use Rattle.mtb_align.proofs.report.report.Goals as goal

-- what is asked
abbrev ask : (widths heights percentiles samples : List ℕ) (reference : ℕ) (options : Options) (terms : Terms)
    (shifts verdicts records bytes words : ℕ) → ReportAsked
ask widths heights percentiles samples reference options terms shifts verdicts records bytes words = record {
  stack = record {
    widths = widths;
    heights = heights;
    percentiles = percentiles;
    samples = samples;
    reference = reference;
    options = options_in options;
    shifts = shifts;
    bytes = bytes;
    words = words;
  };
  terms = terms_in terms;
  verdicts = verdicts;
  records = records;
}

-- how many records there are, and what an accepted report answers
abbrev needs_all : ReportAsked → ℕ
needs_all a = records_needed (stack_reported a) a.terms

abbrev reported : ReportAsked → Reported
reported a = reported_of (stack_reported a) a.terms

-- ---- past the first checks

abbrev asked : In_ok-report_fits → ReportAsked
asked c =
    let a = c.args in
    ask a.widths.now a.heights.now a.percentiles.now a.samples.now a.reference a.options a.terms (length a.shifts.now)
    (length a.verdicts.now) (length a.records.now) (length a.bytes.now) (length a.words.now)

passes : (c : In_ok-report_fits) → accepted (tt {0}) ≡ answer (first_checks (asked c)) tt
passes c = c.in_ok-report_fits.ensures

held : (c : In_ok-report_fits) → let a = asked c in
    SurveyInOrder (stack_reported a) (length a.stack.heights) (length a.stack.percentiles) a.stack.shifts a.verdicts a.terms.reach a.stack.bytes a.stack.words
held c = let a = (asked c).stack in survey_in_order a.widths a.heights a.percentiles a.samples a.reference a.options _ _ _ _ _ (passes c)

-- the stack of what is asked, by any number of frames
abbrev sized : ReportAsked → ℕ → Stack
sized a n =
    let s = stack_reported a in
    record {
      width = s.width;
      height = s.height;
      frames = n;
      samples = s.samples;
      reference = s.reference;
      percentile = s.percentile;
      options = s.options;
    }

-- there are as many percentiles as frames
by_percentiles : (c : In_ok-report_fits) → let a = asked c in sized a (length a.stack.percentiles) ≡ stack_reported a
unfolding stack_of
by_percentiles c = let a = asked c in ap (sized a) (omega (arith, (held c).stack.each))

held_too : (c : In_ok-report_fits) → let a = asked c in
    SurveyInOrder (sized a (length a.stack.percentiles)) (length a.stack.heights) (length a.stack.percentiles) a.stack.shifts a.verdicts a.terms.reach
    a.stack.bytes a.stack.words
held_too c =
    let a = asked c in
    subst (λ (st : Stack). SurveyInOrder st (length a.stack.heights) (length a.stack.percentiles) a.stack.shifts a.verdicts a.terms.reach a.stack.bytes a.stack.words)
    (sym (by_percentiles c)) (held c)

pub bounds-widths-0 : goal.bounds-widths-0
unfolding stack_of
bounds-widths-0 c = omega (arith, (held (goal.at.bounds-widths-0 c).In_ok-report_fits).stack.small.reference)

pub bounds-heights-0 : goal.bounds-heights-0
unfolding stack_of
bounds-heights-0 c = let f = (held (goal.at.bounds-heights-0 c).In_ok-report_fits).stack in omega (arith, f.small.reference, f.same)

pub invariant_of-stack : goal.invariant_of-stack
unfolding stack_of
invariant_of-stack c =
    let q = (held_too (goal.at.invariant_of-stack c).In_ok-report_fits).stack in
    record {
      wide = q.small.width;
      high = q.small.height;
      few = q.small.frames;
      inside = q.small.reference;
      cut = q.cut;
      whole = omega (arith, q.whole);
    }

pub invariant_of-asked : goal.invariant_of-asked
unfolding stack_of
invariant_of-asked c = record { near = (held (goal.at.invariant_of-asked c).In_ok-report_fits).near }

pub report_within-requires : goal.report_within-requires
unfolding stack_of
report_within-requires c =
    let q = held_too (goal.at.report_within-requires c).In_ok-report_fits in
    record {
      room = (q.stack.pixels, q.stack.maps);
      count_in_bounds = (omega (arith, q.stack.small.frames), q.stack.small.frames);
      shifts_len = (q.stack.list, q.judged);
    }

pub returns : goal.returns
unfolding stack_of
returns c =
    let w = (goal.at.returns c).In_ok-report_fits in
    let a = asked w in
    let first = first_checks a in
    let space = length c.args.records.now in
    let p = passes w in
    let same = by_percentiles w in
    let e = c.report_within.ensures in
    let g = subst (λ (st : Stack). Written itself (report_checks [] (records_needed st a.terms) space) st a.terms (answered reported_in c.report_within.result)
    (record { shifts = c.args.shifts.now; verdicts = c.args.verdicts.now; records = c.args.records.now })
    (record { shifts = c.report_within.new.shifts; verdicts = c.report_within.new.verdicts; records = c.report_within.new.records })) same e.written in
    record {
      written = record {
        answered = g.answered ∙ space_alone first (needs_all a) space p (reported a);
        placed = g.placed ∙ space_alone_after first (needs_all a) space p _ _;
        judged = g.judged ∙ space_alone_after first (needs_all a) space p _ _;
        recorded = g.recorded ∙ space_alone_after first (needs_all a) space p _ _;
      };
      pixels = scratch_free first _ p (subst (λ (st : Stack). FreeUpTo (stack_bytes st) c.args.bytes.now c.report_within.new.bytes) same e.bytes);
      maps = scratch_free first _ p (subst (λ (st : Stack). FreeUpTo (stack_words st) c.args.words.now c.report_within.new.words) same e.words);
    }

-- ---- refused by one of them

pub returns-in_err-report_fits : goal.returns-in_err-report_fits
returns-in_err-report_fits c =
    let s = c.args in
    let a =
    ask s.widths.now s.heights.now s.percentiles.now s.samples.now s.reference s.options s.terms (length s.shifts.now)
    (length s.verdicts.now) (length s.records.now) (length s.bytes.now) (length s.words.now) in
    let first = first_checks a in
    let all = all_checks a in
    let r = reported a in
    let p : refusal c.in_err-report_fits.field-0.0 ≡ answer first (tt {0}) = c.in_err-report_fits.ensures in
    let e : refusal c.in_err-report_fits.field-0.0 ≡ answer all r =
    refused_before first (needs_all a) a.records r (refused_too (tt {0}) r first (sym p)) in
    record {
      written = record {
        answered = passed_on reported_in _ _ c.from_residual.ensures ∙ e;
        placed = sym (after_refused r all _ _ (sym e));
        judged = sym (after_refused r all _ _ (sym e));
        recorded = sym (after_refused r all _ _ (sym e));
      };
      pixels = scratch_kept first _ p refl;
      maps = scratch_kept first _ p refl;
    }
