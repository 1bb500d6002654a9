-- A part of a list that is lent and stored into whole.
use Rattle.std.specs.Prelude.{◌≡◌, List, ◌++◌, ℕ, ◌+◌, ◌-◌, ◌≤◌, length, get_or, take, drop}
use Rattle.std.proofs.Common.{sym, ap, ap₂, ◌∙◌, arith, append_assoc, length-drop}
use Rattle.std.proofs.lemmas.List.{length-take, get_or-take, get_or-drop}
use Rattle.std.proofs.lemmas.List.Edits.{sets, sets-eq}
use borrow.Rule.Slice.PartMut.{put_mid, Post-is}
use Rattle.definitions.specs.Build.{build}
use Rattle.laws.specs.general.Lists.{build_is}

module _ {A : Type 0} where
  pub part_stored : (l vs : List A) (a n : ℕ) {new : List A} → length vs ≡ n → a + n ≤ length l → new ≡ vs → put_mid a (a + n - a) l new ≡ sets l a vs
  part_stored l vs a n {new} q h c =
      ap₂ (λ (x y : List A). take a l ++ (x ++ y)) c (Post-is a (a + n) l (omega arith) ∙ ap (λ (k : ℕ). drop (a + k) l) (sym q))
      ∙ sym (sets-eq vs l a (omega arith) ∙ append_assoc (take a l) vs (drop (a + length vs) l))

  -- n elements from one on, one by one
  pub part_is : (l : List A) (a n : ℕ) (d : A) → a + n ≤ length l → take (a + n - a) (drop a l) ≡ build n (λ (k : ℕ). get_or l (a + k) d)
  part_is l a n d h =
      let m : a + n - a ≡ n = omega arith in
      build_is n (λ (k : ℕ). get_or l (a + k) d) _ d (omega (arith, m, length-take (a + n - a) (drop a l), length-drop a l))
      (λ i p. get_or-take (a + n - a) (drop a l) i d (omega (arith, m, p)) ∙ get_or-drop a l i d)
