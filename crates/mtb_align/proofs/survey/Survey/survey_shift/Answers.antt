use mathlib.Core.Path.{◌≡◌, sym, ap, ◌∙◌}
use mathlib.Core.Bool.{Bool, true, false, cond}
use Prim.Native.Nat.{ℕ}
use borrow.Author.Tests.{ltb-true}
use native.Mathlib.Omega.{arith}
use Rattle.laws.specs.report.Kept.{no_rival_kept, rival_kept}
use Rattle.laws.specs.report.Surveys.{neighbour_no_rival, over_limit}
use Rattle.mtb_align.specs.Answers.{shift_in}
use Rattle.mtb_align.specs.Packed.{counts_of, sampled_of}
use Rattle.mtb_align.specs.Survey.{question_in}
use Rattle.mtb_align.proofs.Surveyed.{sample_part, counted_few}
use Rattle.mtb_align.proofs.survey.Survey.survey_shift.Goals as goal

-- what a sample showed, if one was taken
shown : (likely : Bool) {t : Bool} → cond likely false t ≡ true → t ≡ true
shown true e = absurd (let z : 0 ≡ 1 = ap (λ (t : Bool). cond {A = ℕ} t 1 0) e in omega arith)
shown false e = e

pub returns-then-is_neighbour_shift : goal.returns-then-is_neighbour_shift
returns-then-is_neighbour_shift c =
    let a = c.args in
    no_rival_kept _ _ _ _ (neighbour_no_rival (counts_of a.self.now.packed) (question_in a.self.now.question) (shift_in a.shift)
    (sym c.is_neighbour_shift.ensures ∙ c.if-is_neighbour_shift.true))

pub returns-then-ruled_out : goal.returns-then-ruled_out
returns-then-ruled_out c =
    let a = c.args in
    let at = counts_of a.self.now.packed in
    let sample = sampled_of a.self.now.packed (shift_in a.shift) in
    let over = ltb-true a.self.now.question.limit sample (shown a.likely (sym c.ruled_out.ensures ∙ c.if-ruled_out.true)) in
    let more = sample_part c.args.self.now.packed (shift_in a.shift) in
    no_rival_kept _ _ _ _ (over_limit at (question_in a.self.now.question) (shift_in a.shift) (omega (arith, over, more)))

pub invariant_of-entry : goal.invariant_of-entry
invariant_of-entry c =
    let few = counted_few c.args.self.now.packed _ _ c.counts_at-counts.ensures in
    record { few = omega (arith, few.0); few_compared = omega (arith, few.1) }

pub returns : goal.returns
returns c =
    rival_kept _ _ _ _ (sym c.is_neighbour_shift.ensures ∙ c.if-is_neighbour_shift.false) c.counts_at-counts.ensures c.keep_rival.ensures
