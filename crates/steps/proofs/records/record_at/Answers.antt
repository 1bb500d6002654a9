use Rattle.std.proofs.Common.{arith}
use Rattle.definitions.specs.Report.{record_at}
use Rattle.steps.proofs.Numbers.{signed_cast}
use Rattle.steps.proofs.records.record_at.Goals as goal

pub returns : goal.returns
unfolding record_at
returns c = λ j. record {
  frame = c.field.ensures j;
  shift = record {
    x = signed_cast c.cast_signed.ensures (omega arith) c.field-2.ensures j;
    y = signed_cast c.cast_signed-2.ensures (omega arith) c.field-3.ensures j;
  };
  counts = record { disagreeing = c.field-4.ensures j; compared = c.field-5.ensures j };
}
