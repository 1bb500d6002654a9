-- The loop has stored the first y rows of both bitmaps.
use Rattle.std.proofs.Common.{◌≡◌}
use Rattle.std.proofs.lemmas.List.Edits.{sets}
use Rattle.definitions.specs.Build.{joined}
use Rattle.definitions.specs.Threshold.{threshold_bit, exclusion_bit}
use Rattle.mtb_align.proofs.Rows.{row_at}
use Rattle.mtb_align.proofs.strips.pack.Given as goal

abbrev pub invariant-loop-y : goal.invariant-loop-y
invariant-loop-y l = (l.threshold ≡ sets l.initial.threshold 0 (joined l.y (row_at l.frame.samples.now (threshold_bit l.cut) l.frame.width l.frame.height)))
    × (l.exclusion ≡ sets l.initial.exclusion 0 (joined l.y (row_at l.frame.samples.now (exclusion_bit l.cut l.tolerance) l.frame.width l.frame.height)))
