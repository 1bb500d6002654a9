-- The loop has both bits of the samples from the i-th on.
use mathlib.Core.Path.{◌≡◌}
use Prim.Native.Nat.{◌+◌, ◌-◌}
use Rattle.mtb_align.specs.Packing.{two_of}
use Rattle.mtb_align.proofs.bitmap.pack_half.Given as goal

abbrev pub invariant-loop-i : goal.invariant-loop-i
invariant-loop-i l = l.sum ≡ two_of l.samples l.table.cut l.table.tolerance (l.from + l.i) (l.span - l.i)
