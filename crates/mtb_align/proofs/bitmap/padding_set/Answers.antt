use mathlib.Core.Path.{sym, ap, subst}
use Prim.Native.Nat.{ℕ, ◌+◌, ◌*◌, ◌/◌, ◌%◌, ◌≤◌, ◌<◌}
use native.Mathlib.Omega.{arith}
use borrow.Author.Tests.{le-ltb}
use Rattle.definitions.specs.Bitmap.{padding_set}
use Rattle.definitions.specs.Sum.{sum}
use Rattle.laws.specs.bitmaps.Bitmaps.{last_inside, padding_in, padding_none, ClearFrom, clear_none, clear_more, clear_test}
use Rattle.mtb_align.proofs.Pixels.{inside}
use Rattle.mtb_align.proofs.bitmap.padding_set.Goals.{In-loop-y}
use Rattle.mtb_align.proofs.bitmap.padding_set.Goals as goal

-- the word that is read
read-inside : (c : In-loop-y) →
    let s = c.args.sides in
    (c.loop-y.y * c.words_per_row-n.result + s.width / 64 < s.height * c.words_per_row-n.result)
    × (s.height * c.words_per_row-n.result ≤ 1048576)
read-inside c =
    let s = c.args.sides in
    inside s.width s.height c.words_per_row-n.result c.words_per_row-n.ensures (s.wide, s.high) (s.width / 64)
    c.loop-y.y (last_inside s.width c.if-spare-eq0.false) (omega arith)

pub returns-then-spare-eq0 : goal.returns-then-spare-eq0
returns-then-spare-eq0 c =
    let words = c.args.words.now in
    let s = c.args.sides in
    sym (le-ltb 0 (padding_set words s.width s.height) (omega (arith, padding_none words s.width s.height c.if-spare-eq0.true)))

pub loop-y-init : goal.loop-y-init
loop-y-init c = clear_none _ _

pub bounds-words-y : goal.bounds-words-y
bounds-words-y c =
    omega (arith, read-inside (goal.at.bounds-words-y c).In-loop-y, ap (λ (n : ℕ). c.args.sides.height * n) c.words_per_row-n.ensures)

pub loop-y-preserved : goal.loop-y-preserved
loop-y-preserved c =
    let x = c.args in
    let w = x.sides.width in
    let y = c.loop-y.y in
    let at = y * c.words_per_row-n.result + w / 64 in
    let is = ap (λ (n : ℕ). y * n + w / 64) c.words_per_row-n.ensures in
    clear_more x.words.now w c.if-spare-eq0.false y at _ is (omega (arith, c.type_inv.words at)) c.loop-y.invariant

pub returns : goal.returns
unfolding padding_set
returns c =
    let w = c.args.sides.width in
    clear_test (subst (λ (y : ℕ). ClearFrom (w % 64) c.loop-y.any (sum y (padding_in c.args.words.now w))) (omega arith) c.loop-y.invariant)
