-- The elements of a list that pass a test: of one list after another, of a list by index and one more of it, and that they are no more than there are.
use Rattle.std.specs.Prelude.{◌≡◌, Bool}
use Rattle.std.proofs.Math.Path.{refl, ap}
use Rattle.std.proofs.Common.{sym, ap₂, ◌∙◌, length-append}
use Rattle.std.proofs.Math.Bool.{true, false, cond}
use mathlib.Core.List.{List, [], ◌∷◌, ◌++◌}
use Prim.Native.Nat.{ℕ, zero, suc, ◌+◌, ◌≤◌}
use native.Mathlib.Omega.{arith}
use Rattle.std.proofs.Math.ListN.{length}
use Rattle.definitions.specs.Build.{build, joined, keep_if}
use Rattle.laws.specs.general.Lists.{build_none, build_more, build_length}

module _ {A : Type 0} (test : A → Bool) where
  pub keep_append : (l m : List A) → keep_if test (l ++ m) ≡ keep_if test l ++ keep_if test m
  unfolding keep_if
  keep_append [] m = refl
  keep_append (a ∷ l) m = on (test a) (keep_append l m)
    where
      on : (t : Bool) → keep_if test (l ++ m) ≡ keep_if test l ++ keep_if test m
          → cond t (a ∷ keep_if test (l ++ m)) (keep_if test (l ++ m)) ≡ cond t (a ∷ keep_if test l) (keep_if test l) ++ keep_if test m
      on true ih = ap (λ (k : List A). a ∷ k) ih
      on false ih = ih

  pub keep_joined : (n : ℕ) (r : ℕ → List A) → keep_if test (joined n r) ≡ joined n (λ (i : ℕ). keep_if test (r i))
  unfolding keep_if joined
  keep_joined zero r = refl
  keep_joined (suc n) r = keep_append (joined n r) (r n) ∙ ap (λ (k : List A). k ++ keep_if test (r n)) (keep_joined n r)

  -- one more of a list by index
  pub keep_none : (f : ℕ → A) → keep_if test (build 0 f) ≡ []
  unfolding keep_if
  keep_none f = ap (keep_if test) (build_none f)

  pub keep_more : (n : ℕ) (f : ℕ → A) → keep_if test (build (n + 1) f) ≡ keep_if test (build n f) ++ cond (test (f n)) (f n ∷ []) []
  unfolding keep_if
  keep_more n f = ap (keep_if test) (build_more n f) ∙ keep_append (build n f) (f n ∷ [])

  -- as many more as pass
  pub keep_count : (n : ℕ) (f : ℕ → A) {m k : ℕ} → m ≡ length (keep_if test (build n f)) → k ≡ m + cond (test (f n)) 1 0
      → k ≡ length (keep_if test (build (n + 1) f))
  keep_count n f {m} {k} e q =
      q
      ∙ ap₂ ◌+◌ e (one (test (f n)))
      ∙ sym (ap length (keep_more n f) ∙ length-append (keep_if test (build n f)) (cond (test (f n)) (f n ∷ []) []))
    where
      one : (t : Bool) → cond t 1 0 ≡ length (cond t (f n ∷ []) [])
      one true = refl
      one false = refl

  -- nothing where nothing passes
  pub keep_nothing : ((a : A) → test a ≡ false) → (l : List A) → keep_if test l ≡ []
  unfolding keep_if
  keep_nothing h [] = refl
  keep_nothing h (a ∷ l) = ap (λ (t : Bool). cond t (a ∷ keep_if test l) (keep_if test l)) (h a) ∙ keep_nothing h l

  -- no more than there are
  keep_less : (l : List A) → length (keep_if test l) ≤ length l
  unfolding keep_if
  keep_less [] = omega arith
  keep_less (a ∷ l) = on (test a) (keep_less l)
    where
      on : (t : Bool) → length (keep_if test l) ≤ length l → length (cond t (a ∷ keep_if test l) (keep_if test l)) ≤ suc (length l)
      on true h = omega arith
      on false h = omega arith

  pub keep_few : (n : ℕ) (f : ℕ → A) → length (keep_if test (build n f)) ≤ n
  keep_few n f = omega (arith, keep_less (build n f), build_length n f)
