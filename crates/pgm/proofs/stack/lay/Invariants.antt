-- The loop keeps: the lists as they are, with what is left of the run stored behind what is laid out, are the whole run's.
use Prim.Native.Nat.{◌-◌}
use lib.ListN.{length}
use Rattle.pgm.proofs.Laying.{Laid}
use Rattle.pgm.proofs.stack.lay.Given as goal

abbrev pub invariant-loop-k : goal.invariant-loop-k
invariant-loop-k l = Laid l.file l.at (length l.initial.widths) l.widths l.heights l.samples l.place l.from l.k (length l.initial.widths - l.k)
