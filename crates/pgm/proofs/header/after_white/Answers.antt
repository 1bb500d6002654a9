-- The byte is looked at where there is one.
use mathlib.Core.Path.{sym, ◌∙◌}
use Rattle.pgm.proofs.Headers.{white_found, white_other, white_end}
use Rattle.pgm.proofs.header.after_white.Goals.{else-at-file-via-then-at-file+else-is_white, else-at-file-via-else-at-file}
use Rattle.pgm.proofs.header.after_white.Goals as goal

pub returns-then-is_white : goal.returns-then-is_white
returns-then-is_white c = white_found c.args.file.now c.args.at c.if-at-file.true (sym c.is_white.ensures ∙ c.if-is_white.true)

pub returns : goal.returns
returns c = elim c.else-at-file.branch [
  | else-at-file-via-then-at-file+else-is_white w ↦ white_other c.args.file.now c.args.at w.if-at-file.true (sym w.is_white.ensures ∙ w.if-is_white.false)
  | else-at-file-via-else-at-file w ↦ white_end c.args.file.now c.args.at w.if-at-file.false
]
