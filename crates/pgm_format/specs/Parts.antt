-- The part of a file between two places, by how they stand.
use Rattle.std.specs.Prelude.{◌≡◌, Bool, ◌&&◌, List, [], ℕ, ◌-◌, ◌≤◌, ◌<◌, length, take, drop}
use Rattle.std.proofs.Math.Path.{sym}
use Rattle.std.proofs.Common.{ap, le-leb}
use Rattle.std.proofs.lemmas.Bool.{lt-leb}
use Rattle.std.proofs.Math.Dec.{leb}
use Rattle.laws.specs.general.Cases.{cond_true, cond_false, and_yes, and_no}
use Rattle.pgm_format.specs.Pgm.{part_of}

module _ (file : List ℕ) (start next : ℕ) where
  pub part_crossed : next < start → [] ≡ part_of file start next
  unfolding part_of
  part_crossed h = sym (cond_false _ _ (ap (λ (t : Bool). t && leb next (length file)) (lt-leb start next h)))

  pub part_outside : length file < next → [] ≡ part_of file start next
  unfolding part_of
  part_outside h = sym (cond_false _ _ (and_no (leb start next) (lt-leb next (length file) h)))

  pub part_inside : start ≤ next → next ≤ length file → take (next - start) (drop start file) ≡ part_of file start next
  unfolding part_of
  part_inside h g = sym (cond_true _ _ (and_yes (le-leb start next h) (le-leb next (length file) g)))
