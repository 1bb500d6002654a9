-- The places are in order and in the file, or the part is empty.
use mathlib.Core.Path.{◌≡◌, refl, ap, ◌∙◌}
use mathlib.Core.List.{List, []}
use mathlib.Core.Logic.{⊎_elim}
use Prim.Native.Nat.{ℕ}
use Rattle.std.proofs.Common.{Bor}
use Rattle.std.specs.Prelude.{Option, Some, None}
use Rattle.std.specs.List.{PartBy}
use Rattle.std.specs.Option.{unwrap_or}
use Rattle.pgm_format.specs.Pgm.{part_of}
use Rattle.pgm_format.specs.Parts.{part_crossed, part_outside, part_inside}
use Rattle.pgm.proofs.Image.samples.Goals as goal

part : (file : List ℕ) (start next : ℕ) (o : Option (Bor (List ℕ))) (d : Bor (List ℕ)) → d.now ≡ []
    → PartBy (λ (x : Bor (List ℕ)). x.now) file start next o → (unwrap_or o d).now ≡ part_of file start next
part file start next None d e p = e ∙ ⊎_elim (part_crossed file start next) (part_outside file start next) p.0
part file start next (Some x) d e p = p.0.2 ∙ part_inside file start next p.0.0 p.0.1

pub returns : goal.returns
returns c =
    let a = c.args in
    ap (λ (x : Bor (List ℕ)). x.now) c.unwrap_or.ensures ∙ part a.file.now a.self.start a.self.next c.get.result _ refl c.get.ensures.lookup
