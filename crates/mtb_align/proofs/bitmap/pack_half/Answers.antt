use mathlib.Core.Path.{◌≡◌, ap, ◌∙◌}
use mathlib.Core.List.{List}
use Prim.Native.Nat.{ℕ, ◌+◌, ◌-◌, ◌*◌, ◌≤◌, ◌<◌}
use native.Mathlib.Omega.{arith}
use lib.ListN.{get_or}
use Rattle.mtb_align.specs.Packing.{table_of, two_of}
use Rattle.mtb_align.proofs.Two.{table_at, two_none, two_lt, two_room, two_first}
use Rattle.mtb_align.proofs.bitmap.pack_half.Goals.{In-loop-i}
use Rattle.mtb_align.proofs.bitmap.pack_half.Goals as goal

-- a turn: what is there moves up, and the table's entry of the sample before it comes below
turn : (s table : List ℕ) (c t from i span sum : ℕ) → 0 < i → i ≤ span → table ≡ table_of c t → get_or s (from + (i - 1)) 0 < 256 → sum ≡ two_of s c t (from + i) (span - i)
    → sum * 2 + get_or table (get_or s (from + (i - 1)) 0) 0 ≡ two_of s c t (from + (i - 1)) (span - (i - 1))
turn s table c t from i span sum m l e h q =
    let at = from + (i - 1) in
    let v = get_or s at 0 in
    let p : from + i ≡ at + 1 = omega arith in
    let r : span - i + 1 ≡ span - (i - 1) = omega arith in
    ap (λ (k : ℕ). k * 2 + get_or table v 0) (q ∙ ap (λ (k : ℕ). two_of s c t k (span - i)) p)
    ∙ two_first s c t at (span - i) (get_or table v 0) (ap (λ (m : List ℕ). get_or m v 0) e ∙ table_at c t v h)
    ∙ ap (two_of s c t at) r

more : (c : In-loop-i) → let x = c.args in let at = x.from + (c.loop-i.i - 1) in
    get_or x.samples.now at 0 < 256
    → c.loop-i.sum * 2 + get_or x.table.entries.now (get_or x.samples.now at 0) 0 ≡ two_of x.samples.now x.table.cut x.table.tolerance at (x.span - (c.loop-i.i - 1))
more c h =
    let x = c.args in
    turn x.samples.now x.table.entries.now x.table.cut x.table.tolerance x.from c.loop-i.i x.span c.loop-i.sum (omega arith) (omega arith) x.table.filled h c.loop-i.invariant

pub loop-i-init : goal.loop-i-init
loop-i-init c =
    let x = c.args in
    let z : 0 ≡ x.span - x.span = omega arith in
    two_none _ _ _ _ ∙ ap (two_of x.samples.now x.table.cut x.table.tolerance (x.from + x.span)) z

pub overflow_mul-sum : goal.overflow_mul-sum
overflow_mul-sum c =
    let l = c.loop-i in
    let x = c.args in
    omega (arith, l.invariant, two_room x.samples.now x.table.cut x.table.tolerance (x.from + l.i) (x.span - l.i) (omega arith))

pub overflow_add-sum-in-loop-i : goal.overflow_add-sum-in-loop-i
overflow_add-sum-in-loop-i c =
    let x = c.args in
    let h : get_or x.samples.now (x.from + (c.loop-i.i - 1)) 0 < 256 = omega (arith, c.type_inv.samples (x.from + (c.loop-i.i - 1))) in
    omega (arith, more (goal.at.overflow_add-sum-in-loop-i c).In-loop-i h, two_lt x.samples.now x.table.cut x.table.tolerance (x.from + (c.loop-i.i - 1)) (x.span - (c.loop-i.i - 1)) (omega arith))

pub loop-i-preserved : goal.loop-i-preserved
loop-i-preserved c =
    let x = c.args in
    let h : get_or x.samples.now (x.from + (c.loop-i.i - 1)) 0 < 256 = omega (arith, c.type_inv.samples (x.from + (c.loop-i.i - 1))) in
    more (goal.at.loop-i-preserved c).In-loop-i h
