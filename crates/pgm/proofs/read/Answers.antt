-- What read_header promises of the kept numbers settles the answer.
use mathlib.Core.Path.{subst, ◌∙◌}
use lib.ListN.{drop}
use Rattle.std.specs.Prelude.{Option}
use Rattle.pgm_format.specs.Pgm.{header_of}
use Rattle.pgm.specs.declared.header.Head.{Head}
use Rattle.pgm.specs.Inner.{HeaderIs}
use Rattle.pgm.proofs.Images.{read_missing, read_found}
use Rattle.pgm.proofs.Passing.{passed_on, missed, met}
use Rattle.pgm.proofs.read.Goals as goal

pub returns-in_err-head : goal.returns-in_err-head
returns-in_err-head c =
    let a = c.args in
    let m = missed c.read_header.result c.in_err-head.ensures.value in
    rw (passed_on _ c.from_residual.ensures, m.1)
    (read_missing a.file.now a.at (subst (λ (o : Option Head). HeaderIs a.file.now (header_of (drop a.at a.file.now)) o) m.0 c.read_header.ensures))

pub returns : goal.returns
returns c =
    let a = c.args in
    let m = met c.read_header.result _ c.in_ok-head.ensures.value in
    c.image_of.ensures
    ∙ read_found a.file.now a.at _ (subst (λ (o : Option Head). HeaderIs a.file.now (header_of (drop a.at a.file.now)) o) m c.read_header.ensures)
