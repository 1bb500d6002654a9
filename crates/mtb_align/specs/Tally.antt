-- Four lanes of 256 bins, as samples are counted into them.
use Rattle.std.specs.Prelude.{ℕ, ◌+◌, ◌≤◌, ◌<◌, ◌≡◌, List, length, get_or}
use Rattle.definitions.specs.Threshold.{bin_of}

-- What the four lanes hold together at the value v: the bin of v, while a frame is tallied.
unfoldable pub lane_total : List ℕ → ℕ → ℕ
lane_total lanes v = get_or lanes v 0 + get_or lanes (256 + v) 0 + get_or lanes (512 + v) 0 + get_or lanes (768 + v) 0

-- The lanes together count exactly these samples. How a count is spread over them is left open on purpose.
pub record Tally (lanes counted : List ℕ) : Type 0 where
  pub long : length lanes ≡ 1024
  pub counts : (v : ℕ) → v < 256 → lane_total lanes v ≡ bin_of counted v

-- The lanes together count what they did before, and these samples.
pub record More (before lanes counted : List ℕ) : Type 0 where
  pub long : length lanes ≡ 1024
  pub counts : (v : ℕ) → v < 256 → lane_total lanes v ≡ lane_total before v + bin_of counted v

-- There is room for n samples more: no bin passes the samples of the largest frame.
pub record Room (lanes : List ℕ) (n : ℕ) : Type 0 where
  pub long : length lanes ≡ 1024
  pub fits : (v : ℕ) → v < 256 → lane_total lanes v + n ≤ 67108864
