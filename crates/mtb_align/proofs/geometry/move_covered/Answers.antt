use mathlib.Core.Path.{◌≡◌, refl, ap, ◌∙◌}
use Prim.Native.Nat.{ℕ, ◌+◌, ◌*◌}
use native.Mathlib.Omega.{arith}
use lib.Seq.{sets}
use Rattle.definitions.specs.Build.{joined}
use Rattle.laws.specs.general.Writes.{rows_none}
use Rattle.mtb_align.proofs.Stretches.{row_from, row_more, whole_rows}
use Rattle.mtb_align.proofs.geometry.move_covered.Goals as goal

pub returns-then-n-width : goal.returns-then-n-width
returns-then-n-width c =
    let a = c.args in
    c.copy_run.ensures ∙ ap (sets a.out.now a.at) (whole_rows a.samples.now a.from a.width a.before a.past a.rows c.requires.0 c.if-n-width.true)

pub loop-y-init : goal.loop-y-init
loop-y-init c = (omega arith, refl, rows_none _ c.args.at _)

pub loop-y-preserved : goal.loop-y-preserved
loop-y-preserved c =
    let a = c.args in
    let r = row_more a.samples.now a.from a.width a.before a.past a.at c.loop-y.y a.out.now c.requires.0 c.loop-y.invariant.2 c.move_row.ensures in
    (omega arith, r.0, r.1)

pub returns : goal.returns
returns c =
    let a = c.args in
    let e : c.loop-y.y ≡ a.rows = omega arith in
    c.loop-y.invariant.2 ∙ ap (λ (n : ℕ). sets a.out.now a.at (joined n (λ (k : ℕ). row_from a.samples.now a.width a.before a.past (a.from + k * a.width)))) e
