-- There is a gap where the place behind it is another one, and a number where the place behind its digits is.
use Rattle.pgm.proofs.Headers.{field_joined, field_bare, field_found}
use Rattle.pgm.proofs.header.read_field.Goals as goal

pub returns-then-from-at : goal.returns-then-from-at
returns-then-from-at c = field_joined c.requires c.after_gap-from.ensures c.if-from-at.true

pub returns-then-number-from : goal.returns-then-number-from
returns-then-number-from c =
    let n = c.read_number-number in
    field_bare c.requires c.after_gap-from.ensures n.result n.ensures c.if-number-from.true

pub returns : goal.returns
returns c =
    let n = c.read_number-number in
    field_found c.requires c.after_gap-from.ensures n.result n.ensures c.if-from-at.false c.if-number-from.false
