-- The loop has stored levels 1 to k, the last of which starts at `from`.
use mathlib.Core.Path.{◌≡◌}
use mathlib.Core.List.{List}
use Prim.Native.Nat.{ℕ, ◌+◌}
use lib.ListN.{length, take, drop}
use lib.Seq.{sets}
use Rattle.definitions.specs.Shrink.{Shrink, samples_at, level_of, halved_samples, pyramid}
use Rattle.mtb_align.specs.Answers.{mode_of}
use Rattle.mtb_align.proofs.levels.fill.Given as goal

-- what the loop has: level k at its place, and levels 1 to k stored. The loop starts from `base`, not from the scratch as it
-- was lent: whatever `old` that was, `base` is `old` with level 1 stored, and then `new` is `old` with levels 1 to k stored.
pub record Filled (mode : Shrink) (w h : ℕ) (s : List ℕ) (at : ℕ) (base new : List ℕ) (from k : ℕ) : Type 0 where
  pub long : length new ≡ length base
  pub place : from + samples_at k w h ≡ at + halved_samples w h k
  pub level : take (samples_at k w h) (drop from new) ≡ level_of mode w h s k
  pub are : (old : List ℕ) → base ≡ sets old at (pyramid mode w h s 1) → new ≡ sets old at (pyramid mode w h s k)

abbrev pub invariant-loop-k : goal.invariant-loop-k
invariant-loop-k l = Filled (mode_of l.shrink) l.frame.width l.frame.height l.frame.samples.now l.at l.initial.scratch l.scratch l.from l.k
