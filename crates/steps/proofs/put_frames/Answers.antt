use Rattle.std.proofs.Common.{ℕ, ◌/◌, List, length, sym}
use Rattle.laws.specs.general.Lists.{joined_none, joined_more}
use Rattle.steps.specs.Inner.{frame_text_in}
use Rattle.steps.proofs.Puts.{put_none, put_then, put_as}
use Rattle.steps.proofs.put_frames.Goals as goal

pub loop-k-init : goal.loop-k-init
loop-k-init c = put_as (put_none _ _ c.requires.0) (sym (joined_none _))

pub loop-k-preserved : goal.loop-k-preserved
loop-k-preserved c =
    let a = c.args in
    let frame : ℕ → List ℕ = frame_text_in a.lists.now.shifts.now a.lists.now.verdicts.now a.lists.now.records.now (length a.lists.now.records.now / 20) in
    put_as (put_then c.loop-k.invariant c.put_frame-next.ensures) (sym (joined_more c.loop-k.k frame))
