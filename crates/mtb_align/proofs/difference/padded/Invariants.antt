-- The loop has taken the last words of the first rows together: they have a bit past the pixels exactly if these rows have a
-- padding bit.
use mathlib.Core.Path.{◌≡◌}
use Prim.Native.Nat.{◌%◌}
use Rattle.definitions.specs.Sum.{sum}
use Rattle.definitions.specs.Bitmap.{word_at}
use Rattle.laws.specs.bitmaps.Bitmaps.{padding_in, ClearFrom}
use Rattle.mtb_align.proofs.difference.padded.Given as goal

abbrev pub invariant-loop : goal.invariant-loop
invariant-loop l = (l.at ≡ word_at l.width l.width l.counter)
    × ClearFrom (l.width % 64) l.in_rt (sum l.counter (padding_in l.rt l.width)) × ClearFrom (l.width % 64) l.in_re (sum l.counter (padding_in l.re l.width))
    × ClearFrom (l.width % 64) l.in_st (sum l.counter (padding_in l.st l.width)) × ClearFrom (l.width % 64) l.in_se (sum l.counter (padding_in l.se l.width))
