-- The blocks before the k-th are put.
use mathlib.Core.Path.{◌≡◌}
use Prim.Native.Nat.{◌*◌}
use lib.ListN.{take}
use lib.Seq.{sets}
use Rattle.pgm.proofs.put_samples.Given as goal

abbrev pub invariant-loop-k : goal.invariant-loop-k
invariant-loop-k l = l.buffer ≡ sets l.initial.buffer l.at (take (l.k * 2097152) l.samples)
