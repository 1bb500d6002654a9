use Rattle.std.proofs.Common.{ℕ, ◌++◌, ap}
use Rattle.definitions.specs.Decimal.{decimal}
use Rattle.steps.specs.Text.{ascii, line, refusal_text}
use Rattle.steps.proofs.Puts.{put_then, put_as}
use Rattle.steps.proofs.put_refusal.Goals as goal

pub returns : goal.returns
unfolding ascii line refusal_text
returns c =
    put_then c.put_bytes-next.ensures
    (put_then (put_as c.put_next-next.ensures (ap (λ (n : ℕ). ascii " " ++ decimal n) c.from.ensures))
    c.put_byte.ensures)
