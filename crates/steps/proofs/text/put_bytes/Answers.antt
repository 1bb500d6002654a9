use Rattle.std.proofs.Common.{arith}
use Rattle.steps.proofs.Puts.{put_copied}
use Rattle.steps.proofs.text.put_bytes.Goals as goal

pub returns : goal.returns
returns c = put_copied c.args.out.now c.args.bytes.now c.args.at c.requires c.min-n.ensures (omega arith) (c.copy_from_slice.ensures.after)
