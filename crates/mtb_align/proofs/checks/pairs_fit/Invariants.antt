-- The pairs from the i-th of the walk on answer as all do.
use mathlib.Core.Path.{◌≡◌}
use mathlib.Core.List.{map}
use lib.ListN.{length}
use Rattle.definitions.specs.Align.{walk}
use Rattle.definitions.specs.Refusals.{answer, pair_differs}
use Rattle.laws.specs.checks.Checks.{answer_from}
use Rattle.mtb_align.proofs.checks.pairs_fit.Given as goal

abbrev pub invariant-loop-i : goal.invariant-loop-i
invariant-loop-i l = let differs = pair_differs l.widths l.heights l.reference in
    let frames = walk l.reference (length l.widths) in
    answer_from (tt {0}) differs frames l.i ≡ answer (map differs frames) tt
