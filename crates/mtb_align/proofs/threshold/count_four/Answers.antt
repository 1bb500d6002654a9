use mathlib.Core.Path.{◌≡◌, refl}
use mathlib.Core.List.{List}
use Prim.Native.Nat.{ℕ, ◌+◌, ◌≤◌}
use native.Mathlib.Omega.{arith}
use lib.ListN.{length, get_or, set, take, drop}
use Rattle.laws.specs.images.Cut.{Bytes}
use Rattle.mtb_align.specs.Tally.{More, Room}
use Rattle.mtb_align.proofs.Lanes.{lane_0, lane_1, lane_2, lane_3, more_none, next_fits, next_more}
use Rattle.mtb_align.proofs.threshold.count_four.Goals as goal

-- the sample at p is counted into the lane at k
abbrev Put : List ℕ → List ℕ → List ℕ → ℕ → ℕ → Type 0
Put samples old new k p = new ≡ set old (k + get_or samples p 0) (get_or old (k + get_or samples p 0) 0 + 1)

-- the lanes after each count
module _ (s : List ℕ) (at : ℕ) (bytes : Bytes s) (h : at + 4 ≤ length s) (l : List ℕ) (r : Room l 4) where
  -- i of the four are counted
  abbrev Counted : List ℕ → ℕ → Type 0
  Counted lanes i = More l lanes (take i (drop at s))

  module _ (l1 : List ℕ) (p1 : Put s l l1 0 at) where
    one : Counted l1 1
    one = next_more s at {i = 0} (more_none r) r lane_0 bytes (omega arith) (omega arith) (omega arith) refl p1

    module _ (l2 : List ℕ) (p2 : Put s l1 l2 256 (at + 1)) where
      two : Counted l2 2
      two = next_more s at one r lane_1 bytes refl (omega arith) (omega arith) refl p2

      three : (l3 : List ℕ) → Put s l2 l3 512 (at + 2) → Counted l3 3
      three l3 p3 = next_more s at two r lane_2 bytes refl (omega arith) (omega arith) refl p3

pub count_one-requires : goal.count_one-requires
count_one-requires c =
    let x = c.args in
    let r = c.requires.0 in
    next_fits x.samples.now x.at {i = 0} (more_none r) r lane_0 (λ i h. omega (arith, c.type_inv.samples i)) (omega arith) (omega arith) (omega arith)

pub count_one-requires-2 : goal.count_one-requires-2
count_one-requires-2 c =
    let x = c.args in
    let r = c.requires.0 in
    let b : Bytes x.samples.now = λ i h. omega (arith, c.type_inv.samples i) in
    let m = one x.samples.now x.at b c.requires.1 x.lanes.now r _ c.count_one.ensures in
    next_fits x.samples.now x.at m r lane_1 b refl (omega arith) (omega arith)

pub count_one-requires-3 : goal.count_one-requires-3
count_one-requires-3 c =
    let x = c.args in
    let r = c.requires.0 in
    let b : Bytes x.samples.now = λ i h. omega (arith, c.type_inv.samples i) in
    let m = two x.samples.now x.at b c.requires.1 x.lanes.now r _ c.count_one.ensures _ c.count_one-2.ensures in
    next_fits x.samples.now x.at m r lane_2 b refl (omega arith) (omega arith)

pub count_one-requires-4 : goal.count_one-requires-4
count_one-requires-4 c =
    let x = c.args in
    let r = c.requires.0 in
    let b : Bytes x.samples.now = λ i h. omega (arith, c.type_inv.samples i) in
    let m = three x.samples.now x.at b c.requires.1 x.lanes.now r _ c.count_one.ensures _ c.count_one-2.ensures _ c.count_one-3.ensures in
    next_fits x.samples.now x.at m r lane_3 b refl (omega arith) (omega arith)

pub returns : goal.returns
returns c =
    let x = c.args in
    let r = c.requires.0 in
    let b : Bytes x.samples.now = λ i h. omega (arith, c.type_inv.samples i) in
    let m = three x.samples.now x.at b c.requires.1 x.lanes.now r _ c.count_one.ensures _ c.count_one-2.ensures _ c.count_one-3.ensures in
    next_more x.samples.now x.at m r lane_3 b refl (omega arith) (omega arith) refl c.count_one-4.ensures
