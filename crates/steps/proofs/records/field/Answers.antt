use Rattle.std.proofs.Common.{arith}
use Rattle.definitions.specs.Report.{field_of}
use Rattle.steps.proofs.records.field.Goals as goal

pub returns : goal.returns
unfolding field_of
returns c = omega arith
