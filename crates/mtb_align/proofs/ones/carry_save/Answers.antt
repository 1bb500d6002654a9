use Rattle.laws.specs.bitmaps.Adders.{carry_save_law}
use Rattle.mtb_align.proofs.ones.carry_save.Goals as goal

pub returns : goal.returns
returns c = carry_save_law c.args.a c.args.b c.args.c
