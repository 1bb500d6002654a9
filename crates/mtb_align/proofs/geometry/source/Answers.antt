-- Each `return` is one case of `Places.antt`.
use mathlib.Core.Path.{◌≡◌, sym, ap, ◌∙◌}
use native.Mathlib.Omega.{arith}
use mir.Facts.{to_z-of_z}
use Rattle.definitions.specs.Geometry.{ahead, behind}
use Rattle.laws.specs.images.Places.{source_before, source_inside, source_past}
use Rattle.mtb_align.proofs.geometry.source.Goals.{After-below-down}
use Rattle.mtb_align.proofs.geometry.source.Goals as goal

-- what the two calls gave, of the shift itself: a signed argument is passed by its bits
abbrev Known : After-below-down → Type 0
Known c = (c.above-up.result ≡ ahead c.args.shift) × (c.below-down.result ≡ behind c.args.shift)

known : (c : After-below-down) → Known c
known c =
    let e = to_z-of_z c.ranges.shift in
    (c.above-up.ensures ∙ ap ahead e, c.below-down.ensures ∙ ap behind e)

pub returns-then-destination-up : goal.returns-then-destination-up
returns-then-destination-up c =
    let a = c.args in
    sym (source_before a.destination a.shift a.extent (omega (arith, known (goal.at.returns-then-destination-up c).After-below-down)))

pub returns-then-extent-down : goal.returns-then-extent-down
returns-then-extent-down c =
    let a = c.args in
    sym (source_past a.destination a.shift a.extent (omega (arith, known (goal.at.returns-then-extent-down c).After-below-down)))

pub returns-then-left-extent : goal.returns-then-left-extent
returns-then-left-extent c =
    let a = c.args in
    let k = known (goal.at.returns-then-left-extent c).After-below-down in
    sym (source_inside a.destination a.shift a.extent _ (omega arith) (omega arith))

pub returns-else-left-extent : goal.returns-else-left-extent
returns-else-left-extent c =
    let a = c.args in
    sym (source_past a.destination a.shift a.extent (omega (arith, known (goal.at.returns-else-left-extent c).After-below-down)))
