-- The loop has laid the last words of the first y rows over each other: they have a bit past the pixels exactly if these rows have
-- a padding bit.
use Prim.Native.Nat.{◌%◌}
use Rattle.definitions.specs.Sum.{sum}
use Rattle.laws.specs.bitmaps.Bitmaps.{padding_in, ClearFrom}
use Rattle.mtb_align.proofs.bitmap.padding_set.Given as goal

abbrev pub invariant-loop-y : goal.invariant-loop-y
invariant-loop-y l = ClearFrom (l.width % 64) l.any (sum l.y (padding_in l.words l.width))
