use mathlib.Core.Path.{ap}
use mathlib.Core.List.{◌++◌}
use lib.IntN.{ℤ}
use mir.Facts.{to_z-of_z}
use Rattle.steps.specs.Text.{ascii, integer, line, frame_line}
use Rattle.steps.proofs.Puts.{put_then, put_as}
use Rattle.steps.proofs.put_frame_line.Goals as goal

pub returns : goal.returns
unfolding ascii line frame_line
returns c =
    put_then c.put_number-next.ensures
    (put_then (put_as c.put_coordinate-next.ensures (ap (λ (z : ℤ). ascii " " ++ integer z) (to_z-of_z c.ranges.x)))
    (put_then (put_as c.put_coordinate-next-2.ensures
    (ap (λ (z : ℤ). ascii " " ++ integer z) (to_z-of_z c.ranges.y)))
    (put_then c.put_verdict-next.ensures
    (put_then c.put_next-next.ensures
    c.put_byte.ensures))))
