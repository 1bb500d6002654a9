use mathlib.Core.Path.{◌≡◌, sym, ◌∙◌}
use Prim.Native.Nat.{◌<◌, ◌≤◌}
use native.Mathlib.Omega.{arith}
use lib.ListN.{length}
use Rattle.definitions.specs.Align.{walk}
use Rattle.definitions.specs.Refusals.{pair_differs}
use Rattle.laws.specs.checks.Checks.{one_passes, one_fails, all_passed}
use Rattle.laws.specs.checks.ChecksStack.{pair_is}
use Rattle.laws.specs.search.Walk.{neighbour_among, walk_length, walked}
use Rattle.mtb_align.proofs.checks.pairs_fit.Goals.{After-neighbour_of-neighbour}
use Rattle.mtb_align.proofs.checks.pairs_fit.Goals as goal

-- the frame and its neighbour are among the frames
among : (c : After-neighbour_of-neighbour)
    → let n = length c.args.widths.now in
    (c.neighbour_of-neighbour.result < n) × (c.walked-k.result < n) × (length c.args.heights.now ≡ n) × (n ≤ 16)
among c =
    let c = c in
    let r = c.args.reference in
    let n = length c.args.widths.now in
    let frame = walked r n c.loop-i.i c.requires.0 (omega (arith, c.loop-i-test.true)) in
    let k : c.walked-k.result < n = omega (arith, frame.among, c.walked-k.ensures) in
    (omega (arith, c.neighbour_of-neighbour.ensures, neighbour_among r c.walked-k.result n c.requires.0 k), k, c.requires.1, c.requires.2)

pub mismatch-requires : goal.mismatch-requires
mismatch-requires c = let a = among (goal.at.mismatch-requires c).After-neighbour_of-neighbour in (a.0, a.1, a.2)

pub returns-then-sizes_differ : goal.returns-then-sizes_differ
returns-then-sizes_differ c =
    let r = c.args.reference in
    let ws = c.args.widths.now in
    let hs = c.args.heights.now in
    c.mismatch.ensures
    ∙ one_fails (tt {0}) (pair_differs ws hs r) (walk r (length ws)) c.loop-i.i c.loop-i.invariant
    (omega (arith, c.loop-i-test.true, walk_length r (length ws) c.requires.0))
    (pair_is ws hs r c.walked-k.ensures c.neighbour_of-neighbour.ensures)
    (sym c.sizes_differ.ensures ∙ c.if-sizes_differ.true)

pub loop-i-preserved : goal.loop-i-preserved
loop-i-preserved c =
    let r = c.args.reference in
    let ws = c.args.widths.now in
    let hs = c.args.heights.now in
    one_passes (tt {0}) (pair_differs ws hs r) (walk r (length ws)) c.loop-i.i c.loop-i.invariant
    (omega (arith, c.loop-i-test.true, walk_length r (length ws) c.requires.0))
    (pair_is ws hs r c.walked-k.ensures c.neighbour_of-neighbour.ensures)
    (sym c.sizes_differ.ensures ∙ c.if-sizes_differ.false)

pub returns : goal.returns
returns c =
    let r = c.args.reference in
    let ws = c.args.widths.now in
    all_passed (tt {0}) (pair_differs ws c.args.heights.now r) (walk r (length ws)) c.loop-i.i c.loop-i.invariant
    (omega (arith, c.loop-i-test.false, walk_length r (length ws) c.requires.0))

pub offset_bounds-widths-neighbour : goal.offset_bounds-widths-neighbour
offset_bounds-widths-neighbour c = omega (arith, among (goal.at.offset_bounds-widths-neighbour c).After-neighbour_of-neighbour)

pub bounds-widths-neighbour : goal.bounds-widths-neighbour
bounds-widths-neighbour c = omega (arith, among (goal.at.bounds-widths-neighbour c).After-neighbour_of-neighbour)

pub offset_bounds-heights-neighbour : goal.offset_bounds-heights-neighbour
offset_bounds-heights-neighbour c = omega (arith, among (goal.at.offset_bounds-heights-neighbour c).After-neighbour_of-neighbour)

pub bounds-heights-neighbour : goal.bounds-heights-neighbour
bounds-heights-neighbour c = omega (arith, among (goal.at.bounds-heights-neighbour c).After-neighbour_of-neighbour)

pub offset_bounds-widths-k : goal.offset_bounds-widths-k
offset_bounds-widths-k c = omega (arith, among (goal.at.offset_bounds-widths-k c).After-neighbour_of-neighbour)

pub bounds-widths-k : goal.bounds-widths-k
bounds-widths-k c = omega (arith, among (goal.at.bounds-widths-k c).After-neighbour_of-neighbour)

pub offset_bounds-heights-k : goal.offset_bounds-heights-k
offset_bounds-heights-k c = omega (arith, among (goal.at.offset_bounds-heights-k c).After-neighbour_of-neighbour)

pub bounds-heights-k : goal.bounds-heights-k
bounds-heights-k c = omega (arith, among (goal.at.bounds-heights-k c).After-neighbour_of-neighbour)
