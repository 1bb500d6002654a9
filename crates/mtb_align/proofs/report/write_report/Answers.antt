use mathlib.Core.Path.{◌≡◌, sym, ap, ◌∙◌}
use mathlib.Core.List.{List, [], ◌∷◌, ◌++◌}
use Prim.Native.Nat.{ℕ, ◌*◌, ◌≤◌}
use native.Mathlib.Omega.{arith}
use lib.IntN.{ℤ}
use lib.ListN.{length, take, drop}
use lib.Seq.{sets}
use Rattle.definitions.specs.Geometry.{Shift, shifts_of, common_crop}
use Rattle.definitions.specs.Align.{Stack, shifts}
use Rattle.definitions.specs.Refusals.{accepted, refused, answer, report_checks}
use Rattle.definitions.specs.Report.{Terms, records_needed, records, records_bytes, report_crop}
use Rattle.laws.specs.checks.Checks.{done, after_accepted, after_refused, refused_for_space, accepted_for_space}
use Rattle.laws.specs.images.Crop.{shifts_listed}
use Rattle.laws.specs.report.Records.{records_number, report_bytes}
use Rattle.laws.specs.report.Surveys.{frames_few}
use Rattle.laws.specs.general.Writes.{sets_front}
use Rattle.mtb_align.specs.Asked.{reported_of, record_space}
use Rattle.mtb_align.specs.Stack.{stack_in}
use Rattle.mtb_align.specs.Survey.{terms_in}
use Rattle.mtb_align.proofs.report.write_report.Goals as goal

-- the records, and then what was there
space_front : (a : Stack) (q : Terms) (old : List ℕ) → 20 * records_needed a q ≤ length old → {new : List ℕ}
    → new ≡ sets old 0 (records_bytes (records a q)) → new ≡ record_space a q old
space_front a q old h e =
    let bytes = records_bytes (records a q) in
    let long : length bytes ≡ 20 * records_needed a q = report_bytes a q in
    e ∙ sets_front old bytes (omega (arith, long, h)) ∙ ap (λ (m : ℕ). bytes ++ drop m old) long

pub overflow_mul-needed : goal.overflow_mul-needed
unfolding records
overflow_mul-needed c =
    let a = stack_in c.args.walked.now.asked.stack in
    let q = terms_in c.args.walked.now.asked.terms in
    let few : c.args.needed ≤ 266256 =
    omega (arith, c.requires.found.number, records_number a q, frames_few a q (length c.args.walked.now.asked.stack.percentiles.now) c.args.walked.now.asked.near c.args.walked.now.asked.stack.few) in
    record { fits = omega (arith, few) }

pub returns-then-records-needed-clause-written : goal.returns-then-records-needed-clause-written
returns-then-records-needed-clause-written c =
    let a = stack_in c.args.walked.now.asked.stack in
    let q = terms_in c.args.walked.now.asked.terms in
    let needed = records_needed a q in
    let space = length c.args.records.now in
    let checks = report_checks [] needed space in
    let r = reported_of a q in
    let number = c.requires.found.number in
    let e : answer checks r ≡ refused 10 (needed ∷ []) =
    refused_for_space r [] needed space (sym (done r)) (omega (arith, c.if-records-needed.true, number)) in
    record {
      answered = ap (λ (n : ℕ). refused 10 (n ∷ [])) number ∙ sym e;
      placed = sym (after_refused r checks _ _ e);
      judged = sym (after_refused r checks _ _ e);
      recorded = sym (after_refused r checks _ _ e);
    }

pub returns-clause-written : goal.returns-clause-written
unfolding report_crop
returns-clause-written c =
    let f = c.args.walked.now.asked.stack in
    let a = stack_in f in
    let q = terms_in c.args.walked.now.asked.terms in
    let needed = records_needed a q in
    let space = length c.args.records.now in
    let checks = report_checks [] needed space in
    let r = reported_of a q in
    let number = c.requires.found.number in
    let fits : 20 * needed ≤ space = omega (arith, c.if-records-needed.false, number) in
    let e : answer checks r ≡ accepted r = accepted_for_space r [] needed space (sym (done r)) fits in
    let moved =
    c.copy_from_slice.ensures.after ∙ ap (λ (m : ℕ). take m c.args.walked.now.shifts.now) c.requires.shifts_len.0 ∙ c.args.walked.now.placed.front in
    let crop =
    c.crop_of-crop.ensures
    ∙ ap (λ (l : List ℤ). common_crop (shifts_of l) f.width f.height) moved
    ∙ ap (λ (l : List Shift). common_crop l f.width f.height) (shifts_listed (shifts a)) in
    record {
      answered = ap accepted (λ i. record { crop = crop i; records = number i }) ∙ sym e;
      placed = moved ∙ sym (after_accepted r checks _ _ e);
      judged = c.put_found.ensures.verdicts_after ∙ sym (after_accepted r checks _ _ e);
      recorded = space_front a q c.args.records.now fits c.put_found.ensures.records_after ∙ sym (after_accepted r checks _ _ e);
    }
