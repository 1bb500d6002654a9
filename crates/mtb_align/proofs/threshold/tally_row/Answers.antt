-- The row's samples come before those of the rows below it.
use mathlib.Core.Path.{◌≡◌, sym, ap, ◌∙◌}
use mathlib.Core.List.{◌++◌}
use Prim.Native.Nat.{ℕ, ◌+◌, ◌-◌, ◌*◌, ◌≤◌}
use native.Mathlib.Nat.{mul_comm}
use native.Mathlib.Omega.{arith}
use lib.ListN.{length, take, drop, length-take}
use Rattle.definitions.specs.Threshold.{last_rows}
use Rattle.laws.specs.images.Sizes.{area, row_inside}
use Rattle.laws.specs.images.LastRows.{last_rows_more, last_rows_length}
use Rattle.mtb_align.proofs.Lanes.{tally_le, tally_more}
use Rattle.mtb_align.proofs.threshold.tally_row.Goals.{Start}
use Rattle.mtb_align.proofs.threshold.tally_row.Goals as goal

-- the row lies inside the frame, which is small
inside : (s : Start) → let f = s.args.frame.now in ((f.height - 1 - s.args.k) * f.width + f.width ≤ length f.samples.now) × (length f.samples.now ≤ 67108864)
inside s =
    let f = s.args.frame.now in (
      omega (arith, row_inside f.width f.height (f.height - 1 - s.args.k) (omega (arith, s.requires.0)), mul_comm f.width f.height, f.whole),
      omega (arith, area f.width f.height f.wide f.high, f.whole),
    )

pub overflow_mul-start : goal.overflow_mul-start
overflow_mul-start c = omega (arith, inside (goal.at.overflow_mul-start c).Start)

pub overflow_add-end : goal.overflow_add-end
overflow_add-end c = omega (arith, inside (goal.at.overflow_add-end c).Start)

pub tally_samples-requires : goal.tally_samples-requires
tally_samples-requires c =
    let f = c.args.frame.now in
    let k = c.args.k in
    let start = (f.height - 1 - k) * f.width in
    let t = c.requires.1 in
    record {
      long = t.long;
      fits = λ v h.
          omega (
            arith,
            tally_le t v h,
            last_rows_length f.width f.height f.samples.now f.whole k (omega arith),
            length-take ((start + f.width) - start) (drop start f.samples.now),
            row_inside f.width f.height k (omega arith),
            mul_comm f.width f.height,
            inside (goal.at.tally_samples-requires c).Start,
            f.whole,
          );
    }

pub returns : goal.returns
returns c =
    let f = c.args.frame.now in
    let k = c.args.k in
    let w = f.width in
    let s = f.samples.now in
    let start = (f.height - 1 - k) * w in
    let below = last_rows w f.height s k in
    let wide : (start + w) - start ≡ w = omega arith in
    let more : take ((start + w) - start) (drop start s) ++ below ≡ last_rows w f.height s (k + 1) =
    ap (λ (n : ℕ). take n (drop start s) ++ below) wide ∙ sym (last_rows_more w f.height s k (omega arith)) in
    rw more at (tally_more c.requires.1 c.tally_samples.ensures)
