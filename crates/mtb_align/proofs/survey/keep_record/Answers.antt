use mathlib.Core.Path.{sym, ◌∙◌}
use native.Mathlib.Omega.{arith}
use Rattle.definitions.specs.Report.{record_bytes}
use Rattle.laws.specs.report.Kept.{kept_all, kept_over}
use Rattle.laws.specs.report.RecordBytes.{record_length}
use Rattle.mtb_align.specs.Survey.{record_in}
use Rattle.mtb_align.proofs.survey.keep_record.Goals as goal

pub returns-then-at-space : goal.returns-then-at-space
returns-then-at-space c = c.put_record.ensures
    ∙ sym (kept_all c.args.space.now c.args.number 1 (record_bytes (record_in c.args.entry)) (record_length (record_in c.args.entry))
    (omega (arith, c.if-at-space.true)))

pub returns-else-at-space : goal.returns-else-at-space
returns-else-at-space c = sym (kept_over c.args.space.now c.args.number (omega (arith, c.if-at-space.false)) (record_bytes (record_in c.args.entry)))
