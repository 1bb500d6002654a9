use mathlib.Core.Path.{◌≡◌, refl, ap, ◌∙◌}
use mathlib.Core.List.{List}
use Prim.Native.Nat.{ℕ}
use borrow.Author.Rules.{rules}
use native.Mathlib.Omega.{arith}
use lib.IntN.{ℤ, pos, negsuc}
use lib.Seq.{sets}
use mir.Facts.{to_z-of_z}
use mir.Syntax.{w32}
use mir.Val.{SFits, to_z, of_z}
use Rattle.definitions.specs.Report.{bytes32, twos_complement}
use Rattle.laws.specs.report.RecordBytes.{record_stored}
use Rattle.mtb_align.specs.Survey.{record_in}
use Rattle.mtb_align.proofs.survey.put_record.Goals as goal

-- the bits of a coordinate
bits-are : (z : ℤ) → of_z w32 z ≡ twos_complement z
unfolding twos_complement
bits-are (pos n) = refl
bits-are (negsuc n) = omega arith

-- as they are passed
passed : (l : List ℕ) (at : ℕ) (z : ℤ) → SFits w32 z → {n : ℕ} → n ≡ of_z w32 (to_z w32 (of_z w32 z)) → {new : List ℕ} → new ≡ sets l at (bytes32 n)
    → new ≡ sets l at (bytes32 (twos_complement z))
passed l at z f e p = p ∙ ap (λ (k : ℕ). sets l at (bytes32 k)) (e ∙ ap (of_z w32) (to_z-of_z f) ∙ bits-are z)

pub returns : goal.returns
returns c =
    let a = c.args in
    record_stored a.space.now a.at (record_in a.entry)
    c.put_number.ensures
    (passed _ _ a.entry.shift.x (search rules) c.cast_unsigned.ensures c.put_number-2.ensures)
    (passed _ _ a.entry.shift.y (search rules) c.cast_unsigned-2.ensures c.put_number-3.ensures)
    c.put_number-4.ensures
    c.put_number-5.ensures
