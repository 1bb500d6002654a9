-- The lanes after each sample of the rest.
use mathlib.Core.Path.{◌≡◌, refl}
use mathlib.Core.List.{List}
use Prim.Native.Nat.{ℕ, ◌+◌, ◌≤◌, ◌<◌}
use native.Mathlib.Omega.{arith}
use lib.ListN.{length, get_or, set, take}
use Rattle.laws.specs.images.Cut.{Bytes}
use Rattle.mtb_align.specs.Tally.{More, Room}
use Rattle.mtb_align.proofs.Lanes.{lane_0, lane_1, lane_2, more_none, next_fits, next_more}
use Rattle.mtb_align.proofs.threshold.count_rest.Goals as goal

-- the sample at p is counted into the lane at k
abbrev Put : List ℕ → List ℕ → List ℕ → ℕ → ℕ → Type 0
Put samples old new k p = new ≡ set old (k + get_or samples p 0) (get_or old (k + get_or samples p 0) 0 + 1)

-- the lanes after each count
module _ (s : List ℕ) (bytes : Bytes s) (l : List ℕ) (rest : ℕ) (h : rest ≤ length s) (r : Room l rest) where
  -- the first i are counted
  abbrev Counted : List ℕ → ℕ → Type 0
  Counted lanes i = More l lanes (take i s)

  -- as many are counted as are asked for
  whole : {lanes : List ℕ} (i : ℕ) → Counted lanes i → i ≡ rest → Counted lanes rest
  whole i m e = rw e at m

  one : (l1 : List ℕ) → 0 < rest → Put s l l1 0 0 → Counted l1 1
  one l1 n p = next_more s 0 {i = 0} (more_none r) r lane_0 bytes (omega arith) (omega arith) (omega arith) refl p

  two : (l1 l2 : List ℕ) → 1 < rest → Put s l l1 0 0 → Put s l1 l2 256 1 → Counted l2 2
  two l1 l2 n p q = next_more s 0 {i = 1} (one l1 (omega arith) p) r lane_1 bytes refl (omega arith) (omega arith) refl q

pub count_one-requires : goal.count_one-requires
count_one-requires c =
    let r = c.requires.2 in
    next_fits c.args.samples.now 0 {i = 0} (more_none r) r lane_0 (λ i h. omega (arith, c.type_inv.samples i)) (omega arith) (omega arith) (omega arith)

pub count_one-requires-2 : goal.count_one-requires-2
count_one-requires-2 c =
    let x = c.args in
    let r = c.requires.2 in
    let b : Bytes x.samples.now = λ i h. omega (arith, c.type_inv.samples i) in
    let m = one x.samples.now b x.lanes.now x.rest c.requires.1 r _ (omega arith) c.count_one.ensures in
    next_fits x.samples.now 0 {i = 1} m r lane_1 b refl (omega arith) (omega arith)

pub count_one-requires-3 : goal.count_one-requires-3
count_one-requires-3 c =
    let x = c.args in
    let r = c.requires.2 in
    let b : Bytes x.samples.now = λ i h. omega (arith, c.type_inv.samples i) in
    let m = two x.samples.now b x.lanes.now x.rest c.requires.1 r _ _ (omega arith) c.count_one.ensures c.count_one-2.ensures in
    next_fits x.samples.now 0 {i = 2} m r lane_2 b refl (omega arith) (omega arith)

pub returns-then-rest-eq0 : goal.returns-then-rest-eq0
returns-then-rest-eq0 c =
    let x = c.args in
    whole x.samples.now (λ i h. omega (arith, c.type_inv.samples i)) x.lanes.now x.rest c.requires.1 c.requires.2 0 (more_none c.requires.2) (omega arith)

pub returns-then-rest-eq1 : goal.returns-then-rest-eq1
returns-then-rest-eq1 c =
    let x = c.args in
    let r = c.requires.2 in
    let b : Bytes x.samples.now = λ i h. omega (arith, c.type_inv.samples i) in
    whole x.samples.now b x.lanes.now x.rest c.requires.1 r 1
    (one x.samples.now b x.lanes.now x.rest c.requires.1 r _ (omega arith) c.count_one.ensures) (omega arith)

pub returns-then-rest-eq2 : goal.returns-then-rest-eq2
returns-then-rest-eq2 c =
    let x = c.args in
    let r = c.requires.2 in
    let b : Bytes x.samples.now = λ i h. omega (arith, c.type_inv.samples i) in
    whole x.samples.now b x.lanes.now x.rest c.requires.1 r 2
    (two x.samples.now b x.lanes.now x.rest c.requires.1 r _ _ (omega arith) c.count_one.ensures c.count_one-2.ensures) (omega arith)

pub returns : goal.returns
returns c =
    let x = c.args in
    let r = c.requires.2 in
    let b : Bytes x.samples.now = λ i h. omega (arith, c.type_inv.samples i) in
    let m = two x.samples.now b x.lanes.now x.rest c.requires.1 r _ _ (omega arith) c.count_one.ensures c.count_one-2.ensures in
    whole x.samples.now b x.lanes.now x.rest c.requires.1 r 3
    (next_more x.samples.now 0 {i = 2} m r lane_2 b refl (omega arith) (omega arith) refl c.count_one-3.ensures) (omega arith)
