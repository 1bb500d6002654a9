-- The loop has the sides of level k and the sum of levels 1 to k.
use Rattle.std.proofs.Common.{◌≡◌}
use Rattle.definitions.specs.Shrink.{side_at, halved_samples}
use Rattle.mtb_align.proofs.levels.halved_samples.Given as goal

abbrev pub invariant-loop-k : goal.invariant-loop-k
invariant-loop-k l =
    let s = l.fn.sides in
    (l.w ≡ side_at l._k s.width) × (l.h ≡ side_at l._k s.height) × (l.total ≡ halved_samples s.width s.height l._k)
