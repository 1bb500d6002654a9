-- The checks of a list's entries, which refuse alike: whether one of them fails is all that they answer.
use Rattle.std.proofs.Common.{◌≡◌, refl, sym, ap, ◌∙◌, Bool, true, false, cond, ltb, ◌||◌, List, [], ◌∷◌, ℕ}
use Rattle.std.specs.Prelude.{map}
use Rattle.std.specs.List.{list_any}
use Rattle.definitions.specs.Refusals.{Check, accepted, refused, answer, side_over, percentile_over}

module _ (test : ℕ → Bool) (number : ℕ) (f : ℕ → Check) (is : (x : ℕ) → f x ≡ record { fails = test x; number = number; values = [] }) where
  any_fails : (l : List ℕ) → answer (map f l) (tt {0}) ≡ cond (list_any test l) (refused number []) (accepted tt)
  unfolding answer
  any_fails [] = refl
  any_fails (x ∷ l) = ap (λ (c : Check). answer (c ∷ map f l) (tt {0})) (is x) ∙ on (test x) (any_fails l)
    where
      on : (t : Bool) → answer (map f l) (tt {0}) ≡ cond (list_any test l) (refused number []) (accepted tt)
          → cond t (refused number []) (answer (map f l) (tt {0})) ≡ cond (t || list_any test l) (refused number []) (accepted tt)
      on true ih = refl
      on false ih = ih

  module _ (l : List ℕ) {r : Bool} (e : r ≡ list_any test l) where
    none_over : r ≡ false → answer (map f l) (tt {0}) ≡ accepted tt
    none_over p = any_fails l ∙ ap (λ (t : Bool). cond t (refused number []) (accepted (tt {0}))) (sym e ∙ p)

    one_over : r ≡ true → answer (map f l) (tt {0}) ≡ refused number []
    one_over p = any_fails l ∙ ap (λ (t : Bool). cond t (refused number []) (accepted (tt {0}))) (sym e ∙ p)

side_tests : (x : ℕ) → side_over x ≡ record { fails = ltb 8192 x; number = 1; values = [] }
unfolding side_over
side_tests x = refl

percentile_tests : (x : ℕ) → percentile_over x ≡ record { fails = ltb 100 x; number = 3; values = [] }
unfolding percentile_over
percentile_tests x = refl

-- the sides of a list, by whether one is over
module _ (l : List ℕ) {r : Bool} (e : r ≡ list_any (ltb 8192) l) where
  pub sides_pass : r ≡ false → answer (map side_over l) (tt {0}) ≡ accepted tt
  sides_pass p = none_over (ltb 8192) 1 side_over side_tests l e p

  pub sides_fail : r ≡ true → answer (map side_over l) (tt {0}) ≡ refused 1 []
  sides_fail p = one_over (ltb 8192) 1 side_over side_tests l e p

-- and its percentiles
module _ (l : List ℕ) {r : Bool} (e : r ≡ list_any (ltb 100) l) where
  pub cuts_pass : r ≡ false → answer (map percentile_over l) (tt {0}) ≡ accepted tt
  cuts_pass p = none_over (ltb 100) 3 percentile_over percentile_tests l e p

  pub cuts_fail : r ≡ true → answer (map percentile_over l) (tt {0}) ≡ refused 3 []
  cuts_fail p = one_over (ltb 100) 3 percentile_over percentile_tests l e p
