use Rattle.std.specs.Prelude.{refl, map, pos}
use Rattle.std.proofs.Common.{◌∙◌, arith}
use Rattle.std.proofs.Math.ListN.{length-map, get_or-map}
use Rattle.std.proofs.lemmas.List.{ext_get_or}
use Rattle.replay.specs.Lists.{coordinate_of}
use Rattle.replay.proofs.same_coordinates.Goals as goal

pub returns : goal.returns
unfolding coordinate_of
returns c =
    let l = c.loop-i in
    let numbers = c.args.numbers.now in (
      λ _. ext_get_or (pos 0) (map coordinate_of numbers) c.args.got.now (length-map numbers coordinate_of ∙ l.invariant.0)
          (λ k h. get_or-map coordinate_of numbers k 0 ∙ l.invariant.1 k (omega (arith, length-map numbers coordinate_of))),
      λ _. refl,
    )
