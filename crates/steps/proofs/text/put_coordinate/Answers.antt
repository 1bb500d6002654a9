use Rattle.std.proofs.Common.{ℕ, List, ◌++◌, ap, ◌∙◌, nat_abs}
use mir.Facts.{to_z-of_z}
use Rattle.definitions.specs.Decimal.{decimal}
use Rattle.steps.specs.Text.{ascii}
use Rattle.steps.proofs.Numbers.{integer_below, integer_above, sign_below, sign_above}
use Rattle.steps.proofs.Puts.{put_as}
use Rattle.steps.proofs.text.put_coordinate.Goals as goal

pub returns-then-coordinate-lt0 : goal.returns-then-coordinate-lt0
unfolding ascii
returns-then-coordinate-lt0 c =
    let x = c.args.coordinate in
    let f = to_z-of_z c.ranges.coordinate in
    let size = c.from-size.ensures ∙ c.unsigned_abs.ensures.value ∙ ap nat_abs f in
    put_as c.put_negative.ensures
    (ap (λ (n : ℕ). ascii " -" ++ decimal n) size ∙ ap (λ (l : List ℕ). ascii " " ++ l) (integer_below x (sign_below f c.if-coordinate-lt0.true)))

pub returns : goal.returns
unfolding ascii
returns c =
    let x = c.args.coordinate in
    let f = to_z-of_z c.ranges.coordinate in
    let size = c.from-size.ensures ∙ c.unsigned_abs.ensures.value ∙ ap nat_abs f in
    put_as c.put_next.ensures
    (ap (λ (n : ℕ). ascii " " ++ decimal n) size ∙ ap (λ (l : List ℕ). ascii " " ++ l) (integer_above x (sign_above f c.if-coordinate-lt0.false)))
