-- P5 takes two bytes.
use native.Mathlib.Omega.{arith}
use Rattle.pgm.proofs.Headers.{magic_short, magic_other, magic_cut, magic_found}
use Rattle.pgm.proofs.header.after_magic.Goals.{else-saturating_sub-ge2-via-then-saturating_sub-ge2+then-file-at-eq80+else-file-at-eq53}
use Rattle.pgm.proofs.header.after_magic.Goals.{else-saturating_sub-ge2-via-then-saturating_sub-ge2+else-file-at-eq80}
use Rattle.pgm.proofs.header.after_magic.Goals.{else-saturating_sub-ge2-via-else-saturating_sub-ge2}
use Rattle.pgm.proofs.header.after_magic.Goals as goal

pub returns-then-file-at-eq53 : goal.returns-then-file-at-eq53
returns-then-file-at-eq53 c = magic_found c.args.file.now c.args.at (omega arith) c.if-file-at-eq80.true c.if-file-at-eq53.true

pub returns : goal.returns
returns c = elim c.else-saturating_sub-ge2.branch [
  | else-saturating_sub-ge2-via-then-saturating_sub-ge2+then-file-at-eq80+else-file-at-eq53 w ↦ magic_cut c.args.file.now c.args.at (omega arith) w.if-file-at-eq53.false
  | else-saturating_sub-ge2-via-then-saturating_sub-ge2+else-file-at-eq80 w ↦ magic_other c.args.file.now c.args.at (omega arith) w.if-file-at-eq80.false
  | else-saturating_sub-ge2-via-else-saturating_sub-ge2 w ↦ magic_short c.args.file.now c.args.at (omega arith)
]
