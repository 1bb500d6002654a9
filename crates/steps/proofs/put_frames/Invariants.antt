use Rattle.std.proofs.Common.{◌/◌, length}
use Rattle.definitions.specs.Build.{joined}
use Rattle.steps.specs.Inner.{Put, frame_text_in}
use Rattle.steps.proofs.put_frames.Given as goal

abbrev pub invariant-loop-k : goal.invariant-loop-k
invariant-loop-k l = Put l.initial.out l.at (joined l.k (frame_text_in l.lists.shifts.now l.lists.verdicts.now l.lists.records.now (length l.lists.records.now / 20))) l.out l.next
