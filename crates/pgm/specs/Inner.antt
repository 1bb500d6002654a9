-- What the functions of this crate promise each other.
use Rattle.std.specs.Prelude.{ℕ, ◌≤◌, min, ◌≡◌, cond, List, [], ◌∷◌, eqb, length, drop, Option, Some, None}
use Rattle.pgm_format.specs.Pgm.{Reading, missing, found, Sizes}
use Rattle.pgm.specs.declared.header.Number.{Number}
use Rattle.pgm.specs.declared.header.Head.{Head}

-- From a place of a file on there stands a list, to the file's end.
pub record From (file l : List ℕ) (at : ℕ) : Type 0 where
  pub inside : at ≤ length file
  pub left : drop at file ≡ l

-- What is left behind the line feed that ends a comment.
unfoldable pub after_comment : List ℕ → List ℕ
after_comment [] = []
after_comment (b ∷ l) = cond (eqb b 10) l (after_comment l)

-- A number as far as it is kept: over 8,192 is all that any check asks of a longer one.
abbrev pub kept : ℕ → ℕ
kept n = min n 8193

-- A reading that the code made: missing there and here, or with P of what was read, what is left behind it and what the code has of it.
abbrev pub ReadAs : {A T : Type 0} → (A → List ℕ → T → Type 0) → Reading A → Option T → Type 0
ReadAs P missing None = Unit {0}
ReadAs P missing (Some t) = ⊥
ReadAs P (found a l) None = ⊥
ReadAs P (found a l) (Some t) = P a l t

-- Bytes that say nothing more, by the place behind them.
abbrev pub PlaceIs : List ℕ → Reading (Unit {0}) → Option ℕ → Type 0
PlaceIs file = ReadAs (λ (u : Unit {0}) (l : List ℕ) (next : ℕ). From file l next)

-- A field.
abbrev pub FieldIs : List ℕ → Reading ℕ → Option Number → Type 0
FieldIs file = ReadAs (λ (n : ℕ) (l : List ℕ) (r : Number). (r.value ≡ kept n) × From file l r.next)

-- A header.
abbrev pub HeaderIs : List ℕ → Reading Sizes → Option Head → Type 0
HeaderIs file = ReadAs (λ (s : Sizes) (l : List ℕ) (h : Head).
    (h.width ≡ kept s.width) × (h.height ≡ kept s.height) × (h.highest ≡ kept s.highest) × From file l h.start)
