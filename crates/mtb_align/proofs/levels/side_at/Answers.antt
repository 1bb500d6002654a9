use Rattle.laws.specs.search.LevelSteps.{side_power}
use Rattle.mtb_align.proofs.levels.side_at.Goals as goal

pub returns : goal.returns
returns c = side_power _ _
