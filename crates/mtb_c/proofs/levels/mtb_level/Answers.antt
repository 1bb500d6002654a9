use mathlib.Core.Path.{sym, ap, ◌∙◌}
use Rattle.definitions.specs.Shrink.{LevelPlace, part_at}
use Rattle.laws.specs.images.Pyramids.{level_stands}
use Rattle.mtb_c.proofs.levels.mtb_level.Goals as goal

pub returns : goal.returns
returns c =
    let a = c.args in
    let e = c.level_place-place.ensures in (
      ap (λ (p : LevelPlace). p.samples) e,
      ap (λ (p : LevelPlace). p.in_scratch) e,
      ap (λ (p : LevelPlace). p.start) e,
      level_stands a.width a.height a.bits a.k a.frame.now a.scratch.now ∙ sym (ap (λ (p : LevelPlace). part_at p a.frame.now a.scratch.now) e),
    )
