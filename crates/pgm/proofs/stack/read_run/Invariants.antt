-- The loop keeps: what is counted so far and what is left come to the whole run, and each image has at most 8,192 times 8,192 samples.
use Prim.Native.Nat.{◌-◌, ◌*◌, ◌≤◌}
use Rattle.pgm.proofs.Runs.{Counted}
use Rattle.pgm.proofs.stack.read_run.Given as goal

abbrev pub invariant-loop : goal.invariant-loop
invariant-loop l = (l.samples ≤ l.counter * 67108864) × Counted l.file l.at l.n l.samples l.next (l.n - l.counter)
