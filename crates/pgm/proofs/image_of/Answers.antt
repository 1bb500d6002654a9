-- One branch for each check, in order.
use Prim.Native.Nat.{◌-◌}
use native.Mathlib.Omega.{arith}
use Rattle.pgm_format.specs.Pgm.{Image, image_from}
use Rattle.pgm_format.specs.SizeChecks.{over_stop, highest_stop, short_stop, all_pass}
use Rattle.pgm.specs.declared.header.Head.{Head}
use Rattle.pgm.proofs.Images.{sizes_of}
use Rattle.pgm.proofs.image_of.Goals as goal

abbrev image : Head → Image
image h = image_from (sizes_of h) h.start

pub returns-then-longest-gt-LONGEST_SIDE : goal.returns-then-longest-gt-LONGEST_SIDE
returns-then-longest-gt-LONGEST_SIDE c =
    let a = c.args in
    over_stop (image a.head) (sizes_of a.head) (a.length - a.head.start) (omega arith)

pub returns-then-head-ne-HIGHEST : goal.returns-then-head-ne-HIGHEST
returns-then-head-ne-HIGHEST c =
    let a = c.args in
    highest_stop (image a.head) (sizes_of a.head) (a.length - a.head.start) (omega arith) c.if-head-ne-HIGHEST.true

pub returns-then-length-head : goal.returns-then-length-head
returns-then-length-head c =
    let a = c.args in
    short_stop (image a.head) (sizes_of a.head) (a.length - a.head.start) (omega arith) c.if-head-ne-HIGHEST.false c.if-length-head.true

pub returns : goal.returns
returns c =
    let a = c.args in
    all_pass (image a.head) (sizes_of a.head) (a.length - a.head.start) (omega arith) c.if-head-ne-HIGHEST.false c.if-length-head.false
