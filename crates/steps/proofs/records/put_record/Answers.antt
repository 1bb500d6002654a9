use Rattle.std.proofs.Common.{ℕ, ℤ, ◌++◌, ap, arith}
use mir.Facts.{to_z-of_z}
use mir.Syntax.{w32}
use mir.Val.{SFits}
use Rattle.definitions.specs.Decimal.{decimal}
use Rattle.steps.specs.Text.{ascii, integer, line, record_line}
use Rattle.steps.proofs.Puts.{put_then, put_as}
use Rattle.steps.proofs.records.put_record.Goals as goal

pub returns : goal.returns
unfolding ascii line record_line
returns c =
    let x : SFits w32 c.args.e.x = record { sfits = omega arith } in
    let y : SFits w32 c.args.e.y = record { sfits = omega arith } in
    put_then (put_as c.put_number-next.ensures (ap (λ (n : ℕ). decimal n) c.from.ensures))
    (put_then (put_as c.put_coordinate-next.ensures (ap (λ (z : ℤ). ascii " " ++ integer z) (to_z-of_z x)))
    (put_then (put_as c.put_coordinate-next-2.ensures (ap (λ (z : ℤ). ascii " " ++ integer z) (to_z-of_z y)))
    (put_then (put_as c.put_next-next.ensures (ap (λ (n : ℕ). ascii " " ++ decimal n) c.from-2.ensures))
    (put_then (put_as c.put_next-next-2.ensures (ap (λ (n : ℕ). ascii " " ++ decimal n) c.from-3.ensures))
    c.put_byte.ensures))))
