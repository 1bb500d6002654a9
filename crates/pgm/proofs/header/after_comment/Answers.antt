use mathlib.Core.Path.{sym, ◌∙◌}
use native.Mathlib.Omega.{arith}
use Rattle.pgm.proofs.Places.{left_end, line_feed, comment_more, comment_none, block_more}
use Rattle.pgm.proofs.header.after_comment.Goals as goal

pub loop-preserved : goal.loop-preserved
loop-preserved c = (
  omega (arith, c.loop.invariant.0),
  block_more 32 (omega (arith, c.loop.invariant.0)) (sym c.line_feeds.ensures ∙ c.if-line_feeds-ne0.false) c.loop.invariant.1,
)

pub returns-then-file-i-eq10 : goal.returns-then-file-i-eq10
returns-then-file-i-eq10 c = line_feed c.loop-i.invariant (omega arith) c.if-file-i-eq10.true

pub loop-i-preserved : goal.loop-i-preserved
loop-i-preserved c = comment_more c.loop-i.invariant (omega arith) c.if-file-i-eq10.false

pub returns : goal.returns
returns c = left_end c.loop-i.invariant (omega arith) comment_none
