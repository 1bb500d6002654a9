-- What the walk over the levels is given beside the two frames: the halved levels of both in one scratch, and room for four bitmaps.
use Rattle.std.specs.Prelude.{ℕ, ◌*◌, ◌≤◌, ◌≡◌, List, length, take, drop}
use Rattle.definitions.specs.Shrink.{halved_samples, pyramid}
use Rattle.definitions.specs.Align.{step_words}
use Rattle.mtb_align.specs.declared.pair.Pair.{Pair}
use Rattle.mtb_align.specs.Answers.{mode_of}

-- The reference's halved levels 1 to `last` stand in the bytes from their start, the target's behind them.
pub record Levelled (p : Pair) (last : ℕ) (bytes : List ℕ) (words : ℕ) : Type 0 where
  pub few : last ≤ 12
  pub maps : step_words p.width p.height ≤ words
  pub room : 2 * halved_samples p.width p.height last ≤ length bytes
  pub reference_halved : take (halved_samples p.width p.height last) bytes
      ≡ pyramid (mode_of p.options.shrink) p.width p.height p.reference.now last
  pub target_halved : take (halved_samples p.width p.height last) (drop (halved_samples p.width p.height last) bytes)
      ≡ pyramid (mode_of p.options.shrink) p.width p.height p.target.now last
