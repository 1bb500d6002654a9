use Prim.Native.Nat.{◌+◌, ◌-◌}
use native.Mathlib.Omega.{arith}
use lib.ListN.{length, take, drop}
use Rattle.mtb_align.proofs.Costs.{Taken, words_less, sized, gives, Bounds, bounds, taken_parts}
use Rattle.mtb_align.proofs.align.step_around.Goals.{After-halved_samples-half, After-side_at-2}
use Rattle.mtb_align.proofs.align.step_around.Goals as goal

-- ---- a halved level

found : (c : After-halved_samples-half)
    → let x = c.args in
    Bounds x.pair.now.width x.pair.now.height x.last x.level
    c.halved_samples-start.result c.halved_samples-end.result c.halved_samples-half.result (length x.bytes.now)
found c =
    let p = c.requires in
    bounds p.levelled (omega (arith, c.if-level-eq0.false)) p.level_le_last.0
    c.halved_samples-start.ensures c.halved_samples-end.ensures c.halved_samples-half.ensures

parts : (c : After-side_at-2)
    → let x = c.args in
    let from = c.halved_samples-start.result in
    let end = c.halved_samples-end.result in
    let half = c.halved_samples-half.result in
    Bounds x.pair.now.width x.pair.now.height x.last x.level from end half (length x.bytes.now)
    → Taken x.pair.now x.level c.side_at.result c.side_at-2.result
    (take (end - from) (drop from x.bytes.now))
    (take (half + end - (half + from)) (drop (half + from) x.bytes.now))
parts c b =
    let p = c.requires in
    taken_parts p.levelled (omega (arith, c.if-level-eq0.false)) p.level_le_last.0 b c.side_at.ensures c.side_at-2.ensures

pub overflow_add-behind : goal.overflow_add-behind
overflow_add-behind c = let b = found c in omega arith

pub overflow_add-behind_end : goal.overflow_add-behind_end
overflow_add-behind_end c = let b = found c in omega arith

pub slice_bounds-halved-count : goal.slice_bounds-halved-count
slice_bounds-halved-count c = let b = found (goal.at.slice_bounds-halved-count c).After-halved_samples-half in omega arith

pub slice_bounds-halved-start : goal.slice_bounds-halved-start
slice_bounds-halved-start c = let b = found (goal.at.slice_bounds-halved-start c).After-halved_samples-half in omega arith

pub slice_bounds-halved-end : goal.slice_bounds-halved-end
slice_bounds-halved-end c = let b = found (goal.at.slice_bounds-halved-end c).After-halved_samples-half in omega arith

pub slice_bounds-halved-count-2 : goal.slice_bounds-halved-count-2
slice_bounds-halved-count-2 c = let b = found (goal.at.slice_bounds-halved-count-2 c).After-halved_samples-half in omega arith

pub slice_bounds-halved-start-2 : goal.slice_bounds-halved-start-2
slice_bounds-halved-start-2 c = let b = found (goal.at.slice_bounds-halved-start-2 c).After-halved_samples-half in omega arith

pub slice_bounds-halved-end-2 : goal.slice_bounds-halved-end-2
slice_bounds-halved-end-2 c = let b = found (goal.at.slice_bounds-halved-end-2 c).After-halved_samples-half in omega arith

pub invariant_of-halved : goal.invariant_of-halved
invariant_of-halved c =
    let s = goal.at.invariant_of-halved c in
    let p = c.args.pair.now in
    let q = sized (parts s.After-side_at-2 (found s.After-halved_samples-half)) in
    record { wide = q.wide; high = q.high; first_in = p.first_in; second_in = p.second_in; reference_whole = q.reference_whole; target_whole = q.target_whole }

pub level_step-requires-2 : goal.level_step-requires-2
level_step-requires-2 c =
    let s = goal.at.level_step-requires-2 c in
    let p = c.requires in
    (omega (arith, words_less (parts s.After-side_at-2 (found s.After-halved_samples-half)), p.levelled.maps), p.level_le_last.1)

pub returns : goal.returns
returns c =
    let s = goal.at.returns c in
    let e = c.level_step-2.ensures in
    let g = gives (parts s.After-side_at-2 (found s.After-halved_samples-half)) _ e.result_value e.free_up_to in
    record { result_value = g.0; free_up_to = g.1 }
