use Rattle.std.proofs.Common.{length}
use Rattle.steps.proofs.Decoded.{frames_whole}
use Rattle.steps.proofs.Puts.{put_then, put_as}
use Rattle.steps.proofs.put_summary.Goals as goal

pub returns : goal.returns
returns c =
    let a = c.args in
    put_then c.put_heading-at.ensures
    (put_as c.put_frames.ensures (frames_whole a.lists.now.records.now a.summary.records c.requires.0 a.lists.now.shifts.now a.lists.now.verdicts.now (length a.lists.now.verdicts.now)))
