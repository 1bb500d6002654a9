-- Each run is written behind the one before it.
use Prim.Native.Nat.{ℕ, ◌+◌}
use lib.ListN.{get_or, replicate, length-replicate}
use Rattle.definitions.specs.Build.{build}
use Rattle.laws.specs.general.Lists.{build_length}
use Rattle.laws.specs.images.Runs.{sets_then}
use Rattle.mtb_align.proofs.geometry.move_row.Goals as goal

pub returns : goal.returns
returns c =
    let a = c.args in
    sets_then a.out.now a.at a.before (replicate a.before 0) _ (length-replicate a.before 0) c.clear_run.ensures
    (sets_then _ (a.at + a.before) a.n (build a.n (λ (k : ℕ). get_or a.samples.now (a.from + k) 0)) (replicate a.past 0) (build_length a.n _)
    c.copy_run.ensures c.clear_run-2.ensures)
