use Rattle.std.proofs.Common.{◌∙◌, arith}
use Rattle.definitions.specs.Bitmap.{words_per_row}
use Rattle.mtb_align.proofs.bitmap.words_per_row.Goals as goal

pub returns : goal.returns
unfolding words_per_row
returns c = c.div_ceil.ensures ∙ grind arith
