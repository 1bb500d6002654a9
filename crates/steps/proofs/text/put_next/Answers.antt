use Rattle.steps.specs.Text.{ascii}
use Rattle.steps.proofs.Puts.{put_then}
use Rattle.steps.proofs.text.put_next.Goals as goal

pub returns : goal.returns
unfolding ascii
returns c = put_then c.put_byte-next.ensures c.put_number.ensures
