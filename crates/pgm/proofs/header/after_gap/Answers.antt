use mathlib.Core.Path.{sym, ◌∙◌}
use Prim.Native.Nat.{◌+◌}
use native.Mathlib.Omega.{arith}
use lib.ListN.{drop}
use Rattle.pgm.proofs.Places.{left_end, no_sooner, comment_length, white_more, hash_more, gap_ends, gap_none}
use Rattle.pgm.proofs.header.after_gap.Goals as goal

pub loop-i-preserved-then-is_white : goal.loop-i-preserved-then-is_white
loop-i-preserved-then-is_white c =
    white_more c.loop-i.invariant c.loop-i-test.true (sym c.is_white.ensures ∙ c.if-is_white.true)

pub loop-i-smaller : goal.loop-i-smaller
loop-i-smaller c =
    let file = c.args.file.now in
    let i = c.loop-i.i in
    omega (arith, c.loop-i-test.true, no_sooner {at = i + 1} (omega arith) c.after_comment-i.ensures (comment_length (drop (i + 1) file)))

pub loop-i-preserved : goal.loop-i-preserved
loop-i-preserved c =
    hash_more c.loop-i.invariant c.loop-i-test.true (sym c.is_white.ensures ∙ c.if-is_white.false) c.if-byte-eq35.true c.after_comment-i.ensures

pub returns-else-byte-eq35 : goal.returns-else-byte-eq35
returns-else-byte-eq35 c =
    gap_ends c.loop-i.invariant c.loop-i-test.true (sym c.is_white.ensures ∙ c.if-is_white.false) c.if-byte-eq35.false

pub returns : goal.returns
returns c = left_end c.loop-i.invariant (omega arith) gap_none
