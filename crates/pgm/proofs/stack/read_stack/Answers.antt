-- Each return is the answer of the first check that fails, with the lists as they were; the last has them laid out.
use mathlib.Core.Path.{◌∙◌}
use native.Mathlib.Omega.{arith}
use lib.ListN.{length}
use Rattle.pgm.proofs.Passing.{passed_on}
use Rattle.pgm.proofs.StackAnswers.{ListsFit, frames_many, lists_differ, run_refused, images_pass, samples_are, samples_wrong, laid_out, as_they_were, as_laid}
use Rattle.pgm.proofs.stack.read_stack.Goals.{Else-heights-n}
use Rattle.pgm.proofs.stack.read_stack.Goals as goal

-- the first three checks pass
lists-fit : (c : Else-heights-n) → let a = c.args in ListsFit (length a.widths.now) (length a.heights.now)
lists-fit c = (c.if-n-gt-MOST_FRAMES.false, c.if-heights-n.false)

pub returns-then-n-gt-MOST_FRAMES : goal.returns-then-n-gt-MOST_FRAMES
returns-then-n-gt-MOST_FRAMES c = as_they_were _ _ _ _ _ (frames_many _ _ _ _ _ c.then-n-gt-MOST_FRAMES.either)

pub returns-then-heights-n : goal.returns-then-heights-n
returns-then-heights-n c = as_they_were _ _ _ _ _ (lists_differ _ _ _ _ _ c.if-n-gt-MOST_FRAMES.false c.if-heights-gt-MOST_FRAMES.false c.if-heights-n.true)

pub returns-then-samples-run : goal.returns-then-samples-run
returns-then-samples-run c =
    as_they_were _ _ _ _ _ (samples_wrong _ _ _ _ _ c.in_ok-run.ensures (lists-fit (goal.at.returns-then-samples-run c).Else-heights-n) (omega arith))

pub lay-requires : goal.lay-requires
lay-requires c =
    (c.if-heights-n.false, images_pass _ _ _ c.in_ok-run.ensures, c.if-samples-run.false ∙ samples_are _ _ _ c.in_ok-run.ensures)

pub returns-in_err-run : goal.returns-in_err-run
returns-in_err-run c =
    rw (passed_on _ c.from_residual.ensures)
    (as_they_were _ _ _ _ _ (run_refused _ _ _ _ _ (lists-fit (goal.at.returns-in_err-run c).Else-heights-n) c.in_err-run.ensures))

pub returns : goal.returns
returns c =
    let a = c.args in
    as_laid a.file.now a.at a.widths.now a.heights.now a.samples.now
    (laid_out _ _ _ _ _ c.in_ok-run.ensures (lists-fit (goal.at.returns c).Else-heights-n) c.if-samples-run.false)
    c.lay.ensures.widths
    c.lay.ensures.heights
    c.lay.ensures.samples
