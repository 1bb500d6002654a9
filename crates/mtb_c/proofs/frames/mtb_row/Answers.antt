use mathlib.Core.Path.{◌≡◌, sym, ap, ◌∙◌}
use Prim.Native.Nat.{ℕ, ◌*◌}
use native.Mathlib.Omega.{arith}
use lib.ListN.{length, take, drop}
use Rattle.definitions.specs.Bitmap.{words_per_row}
use Rattle.definitions.specs.Refusals.{after, row_checks}
use Rattle.laws.specs.checks.ChecksRow.{row_long, row_start, row_start_most, row_stands}
use Rattle.mtb_c.proofs.frames.mtb_row.Goals.{After-row-n}
use Rattle.mtb_c.proofs.frames.mtb_row.Goals as goal

-- the words of the part that the code is lent
taken : (c : After-row-n)
    → let a = c.args in
    length c.row-n.result.now ≡ after (row_checks a.width a.height (length a.words.now) a.y) (words_per_row a.width) 0
taken c = let a = c.args in ap length c.row-n.ensures ∙ row_long a.words.now a.width a.height a.y

pub overflow_mul-start : goal.overflow_mul-start
overflow_mul-start c =
    let a = c.args in
    omega (arith, ap (λ (n : ℕ). a.y * n) (taken (goal.at.overflow_mul-start c).After-row-n), row_start_most a.words.now a.width a.height a.y)

pub returns : goal.returns
returns c =
    let a = c.args in
    let t = taken (goal.at.returns c).After-row-n in
    record {
      count = t;
      start = ap (λ (n : ℕ). a.y * n) t ∙ row_start a.words.now a.width a.height a.y;
      part = row_stands a.words.now a.width a.height a.y ∙ sym (ap (λ (n : ℕ). take n (drop (a.y * n) a.words.now)) t);
    }
