-- A halved sample by the two rows of its block, each two samples side by side in one number, the left one below.
use Rattle.std.specs.Prelude.{ℕ, ◌/◌, ◌%◌}
use Rattle.definitions.specs.Shrink.{Shrink, average, subsample, mean}

unfoldable pub block_sample : Shrink → ℕ → ℕ → ℕ
block_sample average p q = mean (p % 256) (p / 256) (q % 256) (q / 256)
block_sample subsample p q = p % 256
