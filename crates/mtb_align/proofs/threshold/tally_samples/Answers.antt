use mathlib.Core.Path.{◌≡◌, sym, ap, ◌∙◌}
use mathlib.Core.List.{List, ◌++◌}
use Prim.Native.Nat.{ℕ, ◌+◌, ◌-◌, ◌*◌, ◌/◌, ◌%◌}
use native.Mathlib.Omega.{arith}
use lib.ListN.{length, drop, length-drop, take, take-append-drop}
use lib.Seq.{drop-length, drop-drop}
use Rattle.mtb_align.proofs.Lanes.{more_none, more_before, more_room}
use Rattle.mtb_align.proofs.threshold.tally_samples.Goals as goal

pub loop-k-init : goal.loop-k-init
loop-k-init c =
    let s = c.args.samples.now in
    let all : length s % 4 + 4 * (length s / 4) ≡ length s = omega arith in
    rw (all, drop-length s) (more_none c.requires)

pub count_four-requires : goal.count_four-requires
count_four-requires c =
    let l = c.loop-k in
    let s = c.args.samples.now in
    (more_room c.requires l.invariant (omega (arith, length-drop (length s % 4 + 4 * l.k) s)), omega arith)

pub loop-k-preserved : goal.loop-k-preserved
loop-k-preserved c =
    let l = c.loop-k in
    let s = c.args.samples.now in
    let rest = length s % 4 in
    let at = rest + 4 * (l.k - 1) in
    let next : at + 4 ≡ rest + 4 * l.k = omega arith in
    let all : take 4 (drop at s) ++ drop (rest + 4 * l.k) s ≡ drop at s =
    ap (λ (r : List ℕ). take 4 (drop at s) ++ r) (ap (λ (n : ℕ). drop n s) (sym next) ∙ sym (drop-drop 4 at s)) ∙ take-append-drop 4 (drop at s) in
    rw all at (more_before l.invariant c.count_four.ensures)

pub count_rest-requires-2 : goal.count_rest-requires-2
count_rest-requires-2 c =
    let l = c.loop-k in
    let s = c.args.samples.now in
    (omega arith, omega arith, more_room c.requires l.invariant (omega (arith, length-drop (length s % 4 + 4 * l.k) s)))

pub returns : goal.returns
returns c =
    let l = c.loop-k in
    let s = c.args.samples.now in
    let rest = length s % 4 in
    let none : rest + 4 * l.k ≡ rest = omega arith in
    rw (take-append-drop rest s) at (more_before (rw none at l.invariant) c.count_rest-2.ensures)
