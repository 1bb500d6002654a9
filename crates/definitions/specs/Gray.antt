-- gray.rs: grey from RGB, with Ward's weights.
use Rattle.std.specs.Prelude.{ℕ, ◌+◌, ◌*◌, ◌/◌, List, get_or}
use Rattle.definitions.specs.Build.{build}

-- The grey of red, green and blue, rounded down. The weights add up to 256, so bytes give a byte.
unfoldable pub grey : ℕ → ℕ → ℕ → ℕ
grey red green blue = (54 * red + 183 * green + 19 * blue) / 256

-- The grey frame of w by h from interleaved RGB: three samples a pixel, row by row.
unfoldable pub from_rgb : ℕ → ℕ → List ℕ → List ℕ
from_rgb w h rgb = build (w * h) (λ (i : ℕ). grey (get_or rgb (3 * i) 0) (get_or rgb (3 * i + 1) 0) (get_or rgb (3 * i + 2) 0))
