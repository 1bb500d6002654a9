use mathlib.Core.Path.{◌≡◌, sym, ap, ap₂, ◌∙◌}
use mathlib.Core.List.{List, ◌++◌, append_assoc}
use Prim.Native.Nat.{ℕ, ◌+◌, ◌-◌, ◌≤◌}
use native.Mathlib.Omega.{arith}
use borrow.Rule.Slice.PartMut.{put_mid, Post-is}
use lib.ListN.{length, take, drop}
use lib.Seq.{sets, sets-eq}
use Rattle.definitions.specs.Report.{bytes32}
use Rattle.mtb_align.proofs.survey.put_number.Goals as goal

-- a copy into a part of a list stores there
part-copied : (l part : List ℕ) (a e : ℕ) {new : List ℕ} → e ≡ a + length part → e ≤ length l → new ≡ part → put_mid a (e - a) l new ≡ sets l a part
part-copied l part a e {new} q h c =
    ap₂ (λ (x y : List ℕ). take a l ++ (x ++ y)) c (Post-is a e l (omega arith) ∙ ap (λ (k : ℕ). drop k l) q)
    ∙ sym (sets-eq part l a (omega arith) ∙ append_assoc (take a l) part (drop (a + length part) l))

pub returns : goal.returns
unfolding bytes32
returns c =
    part-copied c.args.space.now (bytes32 c.args.value) c.args.at _ (omega arith) (omega arith)
    (c.copy_from_slice.ensures.after ∙ c.to_le_bytes.ensures)
