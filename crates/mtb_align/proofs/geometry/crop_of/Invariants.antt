-- On each axis the larger and the smaller coordinate lie as far above and below 0 as any of the first k.
use mathlib.Core.Path.{◌≡◌}
use mathlib.Core.List.{List}
use Prim.Native.Nat.{ℕ, ◌+◌, ◌*◌, ◌/◌, ◌≤◌}
use lib.IntN.{ℤ, pos}
use lib.ListN.{length, get_or}
use Rattle.definitions.specs.Build.{build}
use Rattle.definitions.specs.Geometry.{ahead, behind, largest}
use Rattle.mtb_align.proofs.geometry.crop_of.Given as goal

-- coordinate k of an axis
abbrev pub coordinate_of : ℕ → List ℤ → ℕ → ℤ
coordinate_of axis l k = get_or l (2 * k + axis) (pos 0)

-- how far the first k coordinates of an axis reach, by the larger and the smaller
abbrev pub Reach : ℕ → List ℤ → ℕ → ℤ → ℤ → Type 0
Reach axis l k most least =
    (ahead most ≡ largest ahead (build k (coordinate_of axis l))) × (behind least ≡ largest behind (build k (coordinate_of axis l)))

abbrev pub invariant-loop-k : goal.invariant-loop-k
invariant-loop-k l = (l.k ≤ length l.shifts / 2) × Reach 0 l.shifts l.k l.right l.left × Reach 1 l.shifts l.k l.down l.up
