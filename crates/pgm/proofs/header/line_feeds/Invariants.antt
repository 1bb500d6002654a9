-- The loop counts the line feeds among the first k bytes, of which there are k at most.
use mathlib.Core.Path.{◌≡◌}
use Prim.Native.Nat.{ℕ, ◌+◌, ◌≤◌}
use lib.Dec.{eqb}
use lib.ListN.{get_or}
use Rattle.definitions.specs.Sum.{bit, sum}
use Rattle.pgm.proofs.header.line_feeds.Given as goal

abbrev pub invariant-loop-k : goal.invariant-loop-k
invariant-loop-k l = (l.k ≤ 32) × (l.found ≤ l.k) × (l.found ≡ sum l.k (λ (j : ℕ). bit (eqb (get_or l.file (l.at + j) 0) 10)))
