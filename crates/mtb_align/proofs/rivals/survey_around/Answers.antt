use borrow.Author.Rules.{rules}
use native.Mathlib.Omega.{arith}
use mir.Syntax.{w32}
use mir.Val.{Fits}
use Rattle.mtb_align.proofs.Surveyed.{counted_few}
use Rattle.mtb_align.proofs.rivals.survey_around.Goals as goal

pub overflow_add-question : goal.overflow_add-question
overflow_add-question c =
    let few = counted_few c.args.packed.now _ _ c.counts_at-counts.ensures in
    let margin : Fits w32 c.args.terms.margin = search rules in
    record { fits = omega (arith, few.0, margin.fits) }
