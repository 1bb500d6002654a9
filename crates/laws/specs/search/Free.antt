-- Scratch that is free up to a need: a larger need, one use after another, a run of stores, and what a call says of it.
use Rattle.std.specs.Prelude.{◌≡◌, refl, List, ℕ, ◌+◌, ◌-◌, ◌≤◌, length, drop}
use Rattle.std.proofs.Common.{sym, ap, ◌∙◌, subst, arith, drop-drop}
use Rattle.std.proofs.lemmas.List.Edits.{sets}
use Rattle.std.proofs.Math.Seq.{length-sets}
use Rattle.definitions.specs.Refusals.{Check, accepted, refused, answer, FreeUpTo, Scratch}
use Rattle.laws.specs.checks.Checks.{after_accepted, after_refused}
use Rattle.laws.specs.general.Writes.{drop_past}

pub free_same : (need : ℕ) (old : List ℕ) → FreeUpTo need old old
free_same need old = record { long = refl; past = refl }

pub free_wider : {m n : ℕ} {old new : List ℕ} → m ≤ n → FreeUpTo m old new → FreeUpTo n old new
free_wider {m} {n} {old} {new} l f = record { long = f.long; past = past_of new ∙ ap (drop (n - m)) f.past ∙ sym (past_of old) }
  where
    past_of : (s : List ℕ) → drop n s ≡ drop (n - m) (drop m s)
    past_of s = let e : n ≡ m + (n - m) = omega arith in ap (λ (k : ℕ). drop k s) e ∙ sym (drop-drop (n - m) m s)

pub free_then : {n : ℕ} {old mid new : List ℕ} → FreeUpTo n old mid → FreeUpTo n mid new → FreeUpTo n old new
free_then f g = record { long = g.long ∙ f.long; past = g.past ∙ f.past }

pub free_stored : (l vs : List ℕ) (i n : ℕ) → i + length vs ≤ n → FreeUpTo n l (sets l i vs)
free_stored l vs i n h = record { long = length-sets l i vs; past = drop_past l vs i n h }

-- ---- after a call whose checks accept or refuse

module _ (l : List Check) (need : ℕ) {old new : List ℕ} where
  pub scratch_free : accepted (tt {0}) ≡ answer l tt → FreeUpTo need old new → Scratch l need old new
  scratch_free e f = subst (λ (X : Type 0). X) (sym (after_accepted (tt {0}) l (FreeUpTo need old new) (new ≡ old) (sym e))) f

  pub scratch_kept : {n : ℕ} {v : List ℕ} → refused n v ≡ answer l (tt {0}) → new ≡ old → Scratch l need old new
  scratch_kept e f = subst (λ (X : Type 0). X) (sym (after_refused (tt {0}) l (FreeUpTo need old new) (new ≡ old) (sym e))) f

  -- back
  pub free_after : answer l (tt {0}) ≡ accepted tt → Scratch l need old new → FreeUpTo need old new
  free_after e s = subst (λ (X : Type 0). X) (after_accepted (tt {0}) l (FreeUpTo need old new) (new ≡ old) e) s

  pub kept_after : {n : ℕ} {v : List ℕ} → answer l (tt {0}) ≡ refused n v → Scratch l need old new → new ≡ old
  kept_after e s = subst (λ (X : Type 0). X) (after_refused (tt {0}) l (FreeUpTo need old new) (new ≡ old) e) s
