use Prim.Native.Nat.{◌+◌, ◌<◌, ◌≤◌}
use native.Mathlib.Omega.{arith}
use Rattle.pgm.proofs.Writing.{putting_more, rest_long, rest_short, last_place, put_all}
use Rattle.pgm.proofs.writer.put_decimal.Goals.{After-loop-at}
use Rattle.pgm.proofs.writer.put_decimal.Goals as goal

-- one place is left
one : (c : After-loop-at) → let l = c.loop-at in l.at ≤ c.args.first + 1
one c = omega arith

below_ten : (c : After-loop-at) → c.loop-at.rest < 10
below_ten c = rest_short c.loop-at.invariant c.args.first c.requires.0 (one c)

pub loop-at-preserved : goal.loop-at-preserved
loop-at-preserved c =
    let l = c.loop-at in
    putting_more l.invariant (omega arith) (rest_long l.invariant c.args.first c.requires.0 (omega arith))

pub overflow_add-file-2 : goal.overflow_add-file-2
overflow_add-file-2 c = omega (arith, below_ten (goal.at.overflow_add-file-2 c).After-loop-at)

pub overflow_cast-file-2 : goal.overflow_cast-file-2
overflow_cast-file-2 c = omega (arith, below_ten (goal.at.overflow_cast-file-2 c).After-loop-at)

pub bounds-file-first : goal.bounds-file-first
bounds-file-first c =
    let p = c.loop-at.invariant in
    omega (arith, p.ends, last_place p c.args.first c.requires.0 (one (goal.at.bounds-file-first c).After-loop-at))

pub returns : goal.returns
returns c = put_all c.loop-at.invariant c.args.first c.requires.0 (one (goal.at.returns c).After-loop-at)
