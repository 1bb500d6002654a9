-- The sizes from i on are left.
use Rattle.std.specs.Prelude.{◌≡◌, drop, length}
use Rattle.std.proofs.lemmas.List.Edits.{sets}
use Rattle.replay.proofs.answers.words_of.Given as goal

abbrev pub invariant-loop-i : goal.invariant-loop-i
invariant-loop-i l = (length l.out ≡ length l.initial.out) × (sets l.out l.i (drop l.i l.sizes) ≡ sets l.initial.out 0 l.sizes)
