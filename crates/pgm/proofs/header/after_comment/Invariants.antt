-- Both loops: from the place on the rest of the comment ends where it ends from `at` on; the first counts the blocks up to it.
use mathlib.Core.Path.{◌≡◌}
use Prim.Native.Nat.{◌+◌, ◌*◌}
use Rattle.pgm.specs.Inner.{after_comment}
use Rattle.pgm.proofs.Places.{Left}
use Rattle.pgm.proofs.header.after_comment.Given as goal

abbrev pub invariant-loop : goal.invariant-loop
invariant-loop l = (l.from ≡ l.at + l.counter * 32) × Left after_comment l.file l.at l.from

abbrev pub invariant-loop-i : goal.invariant-loop-i
invariant-loop-i l = Left after_comment l.file l.at l.i
