-- threshold.rs: the bins, the cut, and the two bits of a sample. Ward's median threshold and exclusion bitmaps.
use Rattle.std.specs.Prelude.{ℕ, suc, ◌+◌, ◌-◌, ◌*◌, ◌/◌, true, false, List, [], ◌∷◌, ltb, eqb, length, drop}
use Rattle.definitions.specs.Sum.{bit, count_if}
use Rattle.definitions.specs.Build.{build}

-- How many samples have the value v.
abbrev pub bin_of : List ℕ → ℕ → ℕ
bin_of s v = count_if (λ (a : ℕ). eqb a v) s

-- The 256 bins of a frame.
unfoldable pub bins : List ℕ → List ℕ
bins s = build 256 (bin_of s)

-- The samples of the last k rows of a frame of w by h: those from row h - k on.
unfoldable pub last_rows : ℕ → ℕ → List ℕ → ℕ → List ℕ
last_rows w h s k = drop ((h - k) * w) s

-- 01's "target": samples times percentile over 100, rounded down.
unfoldable pub target : List ℕ → ℕ → ℕ
target s percentile = length s * percentile / 100

-- Bins are added in their order while the sum is below the goal: the number of bins added.
unfoldable pub bins_added : List ℕ → ℕ → ℕ → ℕ
bins_added [] goal added = 0
bins_added (b ∷ l) goal added = let more = suc (bins_added l goal (added + b)) in elim (ltb added goal) [ true ↦ more | false ↦ 0 ]

-- The cut of a frame at a percentile, 0 to 256. Of no sample it is 0.
unfoldable pub cut : List ℕ → ℕ → ℕ
cut s percentile = bins_added (bins s) (target s percentile) 0

-- How far two values lie apart: one of the two differences is 0, as `-` on ℕ is never below it.
abbrev pub distance : ℕ → ℕ → ℕ
distance a b = (a - b) + (b - a)

-- The threshold bit: the sample lies above the cut.
unfoldable pub threshold_bit : ℕ → ℕ → ℕ
threshold_bit c a = bit (ltb c a)

-- The exclusion bit, set where a sample is trusted: its distance from the cut exceeds the tolerance.
unfoldable pub exclusion_bit : ℕ → ℕ → ℕ → ℕ
exclusion_bit c tolerance a = bit (ltb tolerance (distance a c))
