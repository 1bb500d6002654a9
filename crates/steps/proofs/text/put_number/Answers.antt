use mathlib.Core.Path.{◌∙◌}
use Rattle.steps.proofs.Numbers.{decimal_digits}
use Rattle.steps.proofs.Puts.{put_as}
use Rattle.steps.proofs.text.put_number.Goals as goal

pub returns : goal.returns
returns c = put_as c.put_bytes.ensures (c.decimal-n.ensures.digits ∙ decimal_digits _ _ c.decimal-n.ensures.len)
