use Rattle.std.specs.Prelude.{set}
use Rattle.std.proofs.Common.{ap, ◌∙◌, arith}
use Rattle.replay.proofs.Reading.{read_as, left_as, left_over, left_end, left_blank, left_more}
use Rattle.replay.proofs.read_line.Goals.{in-32, in_default}
use Rattle.replay.proofs.read_line.Goals as goal

pub returns-in-10 : goal.returns-in-10
returns-in-10 c =
    let l = c.loop-next in
    let r = read_as (c.store.ensures ∙ ap (set l.numbers l.count) c.signed.ensures) (left_end l.invariant c.loop-next-test.true c.in-10.is) in
    record { numbers_after = r.stored; count_value = r.counted; next_value = r.reached }

pub loop-next-preserved : goal.loop-next-preserved
loop-next-preserved c =
    let l = c.loop-next in
    elim c.match-text-next.branch [
      | in-32 w ↦
          left_as (w.numbers-is ∙ w.store-in-32.ensures ∙ ap (set l.numbers l.count) w.signed-in-32.ensures) w.count-is w.negative-is w.value-is
          (left_blank l.invariant c.loop-next-test.true w.in-32.is)
      | in_default w ↦
          left_as w.numbers-is w.count-is w.negative-is (w.value-is ∙ w.grown-value.ensures)
          (left_more l.invariant c.loop-next-test.true (λ e. omega arith) (λ e. omega arith))
    ]

pub returns : goal.returns
returns c =
    let l = c.loop-next in
    let r = left_over l.invariant c.loop-next-test.false in
    record { numbers_after = r.stored; count_value = r.counted; next_value = omega (arith, r.reached, l.invariant.near, c.max.ensures) }
