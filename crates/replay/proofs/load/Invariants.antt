-- The numbers from i on are left.
use Rattle.std.specs.Prelude.{◌≡◌, map, drop, length}
use Rattle.std.proofs.lemmas.List.Edits.{sets}
use Rattle.replay.proofs.load.Given as goal

abbrev pub invariant-loop-i : goal.invariant-loop-i
invariant-loop-i g l =
    (length l.out ≡ length l.initial.out)
    × (sets l.out l.i (drop l.i (map g.T.Entry.of l.numbers)) ≡ sets l.initial.out 0 (map g.T.Entry.of l.numbers))
