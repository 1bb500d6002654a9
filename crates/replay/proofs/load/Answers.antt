use Rattle.std.specs.Prelude.{◌≡◌, ◌<◌, map, length, get_or}
use Rattle.std.proofs.Common.{arith, rules}
use Rattle.std.proofs.Math.ListN.{length-map, get_or-map}
use Rattle.replay.proofs.Entries.{store_more, store_done}
use Rattle.replay.proofs.load.Goals as goal

pub loop-i-preserved : goal.loop-i-preserved
loop-i-preserved g c =
    let l = c.loop-i in
    let of = g.T.Entry.of in
    let numbers = c.args.numbers.now in
    let h : l.i < length (map of numbers) = omega (arith, length-map numbers of) in
    let e : c.of.result ≡ get_or (map of numbers) l.i (of 0) = cc (get_or-map of numbers l.i 0) in
    let s = store_more (map of numbers) l.out l.i c.of.result (of 0) h e in
    (search rules, cc)

pub returns : goal.returns
returns g c =
    let l = c.loop-i in
    let of = g.T.Entry.of in
    let numbers = c.args.numbers.now in
    let s = store_done (map of numbers) l.out l.i (omega (arith, length-map numbers of, l.invariant.0)) in
    cc
