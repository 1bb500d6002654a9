-- 01's limits of a stack; products of sides are small then, and a row lies inside its frame.
use Rattle.std.specs.Prelude.{ℕ, ◌+◌, ◌*◌, ◌<◌, ◌≤◌}
use Rattle.std.proofs.Common.{le_trans, mul-le-mul, mul-le-mul_left, mul-le-mul_right, arith}

pub area : (w h : ℕ) → w ≤ 8192 → h ≤ 8192 → w * h ≤ 67108864
area w h p q = le_trans (mul-le-mul_left w q) (mul-le-mul_right 8192 p)

-- row y of h rows of n
pub row_inside : (n h y : ℕ) → y < h → y * n + n ≤ h * n
row_inside n h y l = omega (arith, mul-le-mul_right n l)

-- at most 16 frames of at most 8,192 by 8,192, and a reference among them
pub record Limits (w h n r : ℕ) : Type 0 where
  pub width : w ≤ 8192
  pub height : h ≤ 8192
  pub frames : n ≤ 16
  pub reference : r < n

-- the samples of a frame, and those of all frames
pub limits_area : {w h n r : ℕ} → Limits w h n r → (w * h ≤ 67108864) × (n * (w * h) ≤ 1073741824)
limits_area {w} {h} s = let size = area w h s.width s.height in (size, mul-le-mul s.frames size)
