use mathlib.Core.Path.{◌≡◌}
use Prim.Native.Nat.{ℕ, ◌+◌, ◌*◌}
use native.Mathlib.Omega.{arith}
use lib.ListN.{length-replicate}
use Rattle.laws.specs.general.Writes.{stored_none, stored_run, stored_whole}
use Rattle.mtb_align.proofs.threshold.fold_lanes.Goals as goal

pub loop-part-init : goal.loop-part-init
loop-part-init c = stored_none _ _ _

pub loop-part-preserved : goal.loop-part-preserved
loop-part-preserved c =
    let l = c.loop-part in
    let next : l.part * 64 + 64 ≡ (l.part + 1) * 64 = omega arith in
    rw next at (stored_run 64 l.invariant c.fold_part.ensures)

pub returns : goal.returns
returns c = stored_whole c.loop-part.invariant (omega arith) (length-replicate {A = ℕ} 256 0)
