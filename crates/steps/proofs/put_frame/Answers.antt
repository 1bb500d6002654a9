use native.Mathlib.Omega.{arith}
use mathlib.Core.Path.{◌∙◌}
use Prim.Native.Nat.{◌+◌, ◌*◌, ◌/◌}
use lib.IntN.{pos}
use lib.ListN.{length, get_or}
use mir.Facts.{to_z-of_z}
use mir.Syntax.{w32}
use mir.Val.{SFits}
use Rattle.steps.specs.Text.{frame_line}
use Rattle.steps.specs.Inner.{frame_text_in}
use Rattle.steps.proofs.Decoded.{counted}
use Rattle.steps.proofs.Puts.{put_then, put_as}
use Rattle.steps.proofs.put_frame.Goals as goal

pub returns : goal.returns
unfolding frame_text_in
returns c =
    let a = c.args in
    let x : SFits w32 (get_or a.lists.now.shifts.now (2 * a.k) (pos 0)) = record { sfits = omega arith } in
    let y : SFits w32 (get_or a.lists.now.shifts.now (2 * a.k + 1) (pos 0)) = record { sfits = omega arith } in
    let v = get_or a.lists.now.verdicts.now a.k 0 in
    let number = c.number_of-number.ensures ∙ counted a.lists.now.records.now a.k (length a.lists.now.records.now / 20) in
    put_then
    (put_as c.put_frame_line-next.ensures (λ i. frame_line a.k (record { x = to_z-of_z x i; y = to_z-of_z y i }) v (number i)))
    c.put_records.ensures
