-- A call's answer with a value as a status, a slot and a list of values: the value goes into the slot of an accepted call, and a
-- refusal leaves the slot as it was and puts its values into the list.
use mathlib.Core.Path.{◌≡◌, sym, ap, ◌∙◌}
use mathlib.Core.List.{List}
use Prim.Native.Nat.{ℕ}
use lib.Seq.{sets}
use Rattle.definitions.specs.Refusals.{Check, Answer, accepted, refused, answer, after}
use Rattle.laws.specs.checks.Checks.{value_is, accepted_too, refused_too, after_accepted, after_refused}
use Rattle.mtb_c.specs.Status.{status_of, values_after}

module _ {A : Type 0} (l : List Check) (v : A) where
  -- accepted: the status is 0, and a slot for a part of the value holds that part
  module _ {w : A} (e : accepted w ≡ answer l v) where
    pub status_accepted : 0 ≡ status_of (answer l (tt {0}))
    status_accepted = sym (ap status_of (accepted_too v (tt {0}) l (sym e)))

    pub stored : {B : Type 0} (part : A → B) (old : B) → part w ≡ after l (part v) old
    stored part old = ap part (sym (value_is l (sym e))) ∙ sym (after_accepted v l (part v) old (sym e))

    pub values_kept : (old : List ℕ) → old ≡ values_after (answer l (tt {0})) old
    values_kept old = sym (ap (λ (a : Answer (Unit {0})). values_after a old) (accepted_too v (tt {0}) l (sym e)))

  -- refused: the status is the refusal's number, and a slot holds what it held
  module _ {n : ℕ} {values : List ℕ} (e : refused n values ≡ answer l v) where
    pub status_refused : {m : ℕ} → m ≡ n → m ≡ status_of (answer l (tt {0}))
    status_refused p = p ∙ sym (ap status_of (refused_too v (tt {0}) l (sym e)))

    pub kept : {B : Type 0} (new old : B) → old ≡ after l new old
    kept new old = sym (after_refused v l new old (sym e))

    pub values_told : (old : List ℕ) {new : List ℕ} → new ≡ sets old 0 values → new ≡ values_after (answer l (tt {0})) old
    values_told old p = p ∙ sym (ap (λ (a : Answer (Unit {0})). values_after a old) (refused_too v (tt {0}) l (sym e)))

  -- a call with one slot for the whole value
  pub slot_accepted : (old : A) {w : A} → accepted w ≡ answer l v → (0 ≡ status_of (answer l (tt {0}))) × (w ≡ after l v old)
  slot_accepted old e = (status_accepted e, stored e (λ a. a) old)

  pub slot_refused : (old : A) {n m : ℕ} {values : List ℕ} → refused n values ≡ answer l v → m ≡ n → (m ≡ status_of (answer l (tt {0}))) × (old ≡ after l v old)
  slot_refused old e p = (status_refused e p, kept e v old)
