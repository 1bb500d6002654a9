-- What the functions of this crate promise each other of a row.
use Rattle.std.specs.Prelude.{ℕ, ◌+◌, ◌*◌, ◌/◌, ◌%◌, cond, List, eqb, get_or}
use Rattle.definitions.specs.Build.{build}

-- n samples of a list, every second one from a place on.
abbrev pub every_second : List ℕ → ℕ → ℕ → List ℕ
every_second s n from = build n (λ (k : ℕ). get_or s (from + 2 * k) 0)

-- The sample of column x, where the even columns stand from one place on and the odd ones from another.
abbrev pub woven : List ℕ → ℕ → ℕ → ℕ → ℕ
woven planes evens odds x = get_or planes (cond (eqb (x % 2) 0) evens odds + x / 2) 0
