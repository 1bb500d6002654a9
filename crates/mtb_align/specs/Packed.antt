-- What is computed of two packed pairs.
use Rattle.std.specs.Prelude.{ℕ, List}
use Rattle.definitions.specs.Geometry.{Shift}
use Rattle.definitions.specs.Difference.{Counts}
use Rattle.mtb_align.specs.declared.packed.Packed.{Packed}
use Rattle.mtb_align.specs.Layout.{map_at, pair_counts, cost_in}
use Rattle.mtb_align.specs.Survey.{sample_of}

-- Bitmap i of the four.
abbrev pub map_of : Packed → ℕ → List ℕ
map_of p = map_at p.words.now p.width p.height

-- Both counts at a shift, their disagreement, and that of a sample.
abbrev pub counts_of : Packed → Shift → Counts
counts_of p = pair_counts p.words.now p.width p.height

abbrev pub cost_of : Packed → Shift → ℕ
cost_of p = cost_in p.words.now p.width p.height

abbrev pub sampled_of : Packed → Shift → ℕ
sampled_of p = sample_of p.words.now p.width p.height
