use mathlib.Core.Path.{◌≡◌, refl, sym, ap, ◌∙◌}
use mathlib.Core.List.{List}
use lib.ListN.{length}
use Rattle.definitions.specs.Refusals.{Check, accepted, answer, step_checks}
use Rattle.laws.specs.checks.Checks.{accepted_too, refused_too}
use Rattle.laws.specs.checks.ChecksStep.{step_in_order}
use Rattle.laws.specs.search.Free.{scratch_free, scratch_kept}
use Rattle.mtb_align.specs.Answers.{refusal, stepped_in}
use Rattle.mtb_align.proofs.align.shift.Goals.{Start}
use Rattle.mtb_align.proofs.Answered.{passed_on}
use Rattle.mtb_align.proofs.align.shift.Goals as goal

abbrev checks : Start → List Check
checks c =
    let x = c.args in
    step_checks x.width x.height x.percentile x.target_width x.target_height x.target_percentile x.options.bits
    (length x.reference.now) (length x.target.now) (length x.bytes.now) (length x.words.now)

pub invariant_of-pair : goal.invariant_of-pair
invariant_of-pair c =
    let f = step_in_order _ _ _ _ _ _ _ _ _ _ _ c.in_ok-step_fits.ensures in
    record {
      wide = f.wide;
      high = f.high;
      first_in = f.first;
      second_in = f.second;
      reference_whole = f.reference_whole;
      target_whole = f.target_whole;
    }

pub step_of-requires : goal.step_of-requires
step_of-requires c =
    let f = step_in_order _ _ _ _ _ _ _ _ _ _ _ c.in_ok-step_fits.ensures in
    (f.room, f.space)

pub returns : goal.returns
returns c =
    let l = checks (goal.at.returns c).Start in
    let e = c.step_of.ensures in
    record {
      answered = ap accepted e.result_value ∙ sym (accepted_too (tt {0}) _ l (sym c.in_ok-step_fits.ensures));
      pixels = scratch_free l _ c.in_ok-step_fits.ensures e.free_up_to;
      maps = scratch_free l _ c.in_ok-step_fits.ensures e.free_up_to_2;
    }

pub returns-in_err-step_fits : goal.returns-in_err-step_fits
returns-in_err-step_fits c =
    let l = checks (goal.at.returns-in_err-step_fits c).Start in
    let p : refusal c.in_err-step_fits.field-0.0 ≡ answer l (tt {0}) = c.in_err-step_fits.ensures in
    record { answered = passed_on stepped_in _ _ c.from_residual.ensures ∙ sym (refused_too (tt {0}) _ l (sym p)); pixels = scratch_kept l _ p refl; maps = scratch_kept l _ p refl }
