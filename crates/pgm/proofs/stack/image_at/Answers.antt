-- A place whose checks pass is not refused.
use mathlib.Core.Path.{◌≡◌, refl, sym, ap, ◌∙◌}
use mathlib.Core.List.{List}
use Prim.Native.Nat.{ℕ}
use Rattle.std.specs.Prelude.{Result, Ok, Err, IsOk}
use Rattle.definitions.specs.Refusals.{accepted, answer}
use Rattle.laws.specs.checks.Checks.{not_both, accepted_too}
use Rattle.pgm_format.specs.Pgm as format
use Rattle.pgm.specs.declared.Image.{Image}
use Rattle.pgm.specs.declared.PgmError.{PgmError}
use Rattle.pgm.specs.Answers.{image_in, answered}
use Rattle.pgm.proofs.Runs.{image_is}
use Rattle.pgm.proofs.stack.image_at.Goals as goal

found : (file : List ℕ) (at : ℕ) (r : Result Image PgmError) → answered image_in r ≡ format.read file at
    → answer (format.read_checks file at) (tt {0}) ≡ accepted tt → IsOk r
unfolding format.read
found file at (Ok i) e p = refl
found file at (Err k) e p = not_both (sym (accepted_too _ _ (format.read_checks file at) p) ∙ sym e)

pub unwrap-requires : goal.unwrap-requires
unwrap-requires c = found c.args.file.now c.args.at c.read.result c.read.ensures c.requires

pub returns : goal.returns
returns c = image_is _ _ (sym (ap (answered image_in) c.unwrap.ensures) ∙ c.read.ensures)
