-- Lists of a call: one that is looked at for marks, one that numbers are stored in, one whose numbers are compared.
use Rattle.std.specs.Prelude.{◌≡◌, refl, ℕ, suc, ◌+◌, ◌≤◌, ◌<◌, min, Bool, true, false, List, length, get_or, set, drop, replicate}
use Rattle.std.specs.Bool.{Decides, MatchBool}
use Rattle.std.specs.List.{AllWithin, HoldsAt}
use Rattle.std.proofs.Common.{sym, ap, ◌∙◌, ⊎_elim, arith, add-one, drop_of_length-le}
use Rattle.std.proofs.Math.Seq.{drop-cons}
use Rattle.std.proofs.lemmas.Bool.{false≢true}
use Rattle.std.proofs.lemmas.List.{ext_get_or, length-replicate, get_or-replicate, map-id}
use Rattle.std.proofs.lemmas.List.Edits.{sets}
use Rattle.laws.specs.general.Cases.{lt_or_le}
use Rattle.laws.specs.general.Writes.{sets_out}
use Rattle.replay.specs.Lists.{Marked}

module _ {A : Type 0} where
  -- every entry is the mark, or one is not
  pub marked_from_cases : (r : Bool) (l : List A) (m : A) → MatchBool r (AllWithin (λ x. x ≡ m) l 0 (length l)) ((k : ℕ) × (k < length l) × HoldsAt (λ x. x ≡ m → ⊥) l k)
      → Decides r (Marked m l)
  marked_from_cases true l m h = (
    λ _. ext_get_or m l (replicate (length l) m) (sym (length-replicate (length l) m))
        (λ k lt. h k m (omega arith) lt ∙ sym (get_or-replicate (length l) k m m lt)),
    λ _. refl,
  )
  marked_from_cases false l m h =
      (λ e. absurd (false≢true e), λ e. absurd (h.2 m (ap (λ (a : List A). get_or a h.0 m) e ∙ get_or-replicate (length l) h.0 m m h.1)))

  -- the entries from i on are left to be stored: one more is
  pub store_more : (l out : List A) (i : ℕ) (v d : A) → i < length l → v ≡ get_or l i d → sets (set out i v) (i + 1) (drop (i + 1) l) ≡ sets out i (drop i l)
  store_more l out i v d h e =
      ap (λ (k : ℕ). sets (set out i v) k (drop k l)) (add-one i)
      ∙ ap (λ (x : A). sets (set out i x) (suc i) (drop (suc i) l)) e
      ∙ sym (ap (sets out i) (drop-cons l i d h))

  -- there is no more room, or no more to be stored
  pub store_done : (l out : List A) (i : ℕ) → min (length out) (length l) ≤ i → out ≡ sets out i (drop i l)
  store_done l out i h = ⊎_elim
      (λ (w : i < length out). sym (ap (sets out i) (drop_of_length-le l (omega arith))))
      (λ (w : length out ≤ i). sym (sets_out out (drop i l) i w))
      (lt_or_le i (length out))

-- bytes, words and sizes, whose numbers they are themselves
pub ruleset themselves = (map-id)
