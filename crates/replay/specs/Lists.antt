-- What lists are held against, and how numbers of a line are read.
use Rattle.std.specs.Prelude.{ℕ, ◌-◌, ◌*◌, ◌%◌, ◌≡◌, cond, ◌&&◌, List, ltb, leb, ℤ, pos, ◌-ℤ◌, length, replicate}
use Rattle.definitions.specs.Build.{build}
use Rattle.definitions.specs.Report.{field_of}

-- Every entry is the mark.
abbrev pub Marked : {A : Type 0} → A → List A → Type 0
Marked mark l = l ≡ replicate (length l) mark

-- Bytes that are these fields of records, counted through from the first record on.
pub record Fields (numbers bytes : List ℕ) : Type 0 where
  pub long : length bytes ≡ 4 * length numbers
  pub each : numbers ≡ build (length numbers) (field_of bytes 0)

-- A number as a byte.
abbrev pub byte_of : ℕ → ℕ
byte_of n = n % 256

-- A number as a coordinate, 0 where it is none: a negative one has 2^63 added to its magnitude.
unfoldable pub coordinate_of : ℕ → ℤ
coordinate_of n =
    cond (ltb n 2147483648) (pos n)
    (cond (leb 9223372036854775808 n && leb n 9223372039002259456) (pos 0 -ℤ pos (n - 9223372036854775808)) (pos 0))
