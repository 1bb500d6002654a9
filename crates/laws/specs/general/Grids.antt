-- Sums over two numbers: added, swapped, and over a strip of a row that is 0 elsewhere.
use Rattle.std.specs.Prelude.{◌≡◌, refl, ℕ, zero, suc, ◌+◌, ◌≤◌, ◌<◌}
use Rattle.std.proofs.Common.{sym, ap, ap₂, ◌∙◌, zero-add, add-zero, add_comm, arith}
use Rattle.definitions.specs.Sum.{sum}
use Rattle.laws.specs.general.Sums.{sum_ext, sum_first, sum_more, sum_split, sum_upto, sum_zero}

pub sum_add : (n : ℕ) (f g : ℕ → ℕ) → sum n (λ (i : ℕ). f i + g i) ≡ sum n f + sum n g
unfolding sum
sum_add zero f g = refl
sum_add (suc n) f g = omega (arith, sum_add n f g)

-- by rows or by columns
pub sum_swap : (m n : ℕ) (f : ℕ → ℕ → ℕ) → sum m (λ (y : ℕ). sum n (λ (x : ℕ). f x y)) ≡ sum n (λ (x : ℕ). sum m (λ (y : ℕ). f x y))
unfolding sum
sum_swap zero n f = sym (sum_zero n (λ (x : ℕ). sum 0 (λ (y : ℕ). f x y)) (λ x _. refl))
sum_swap (suc m) n f =
    ap (λ (k : ℕ). k + sum n (λ (x : ℕ). f x m)) (sum_swap m n f)
    ∙ sym (sum_add n (λ (x : ℕ). sum m (λ (y : ℕ). f x y)) (λ (x : ℕ). f x m))

-- only the c from a on count
pub sum_strip : (a c n : ℕ) (f : ℕ → ℕ) → a + c ≤ n → ((k : ℕ) → k < a → f k ≡ 0) → ((k : ℕ) → a + c ≤ k → k < n → f k ≡ 0)
    → sum n f ≡ sum c (λ (i : ℕ). f (a + i))
sum_strip a c n f l before past =
    sum_upto (a + c) n f l past ∙ sum_split a c f ∙ ap (λ (k : ℕ). k + sum c (λ (i : ℕ). f (a + i))) (sum_zero a f before)
    ∙ zero-add (sum c (λ (i : ℕ). f (a + i)))

-- the one before the strip counts too
pub sum_before : (a b c n : ℕ) (f : ℕ → ℕ) → a + 1 ≡ b → b + c ≤ n → ((k : ℕ) → k < a → f k ≡ 0) → ((k : ℕ) → b + c ≤ k → k < n → f k ≡ 0)
    → sum n f ≡ sum c (λ (i : ℕ). f (b + i)) + f a
sum_before a b c n f e l before past =
    sum_strip a (suc c) n f (omega arith) before (λ k g h. past k (omega arith) h)
    ∙ sum_first c (λ (i : ℕ). f (a + i))
    ∙ ap₂ (λ (x y : ℕ). x + y) (ap f (add-zero a)) (sum_ext c (λ (i : ℕ). f (a + suc i)) (λ (i : ℕ). f (b + i)) (λ i _. ap f (next i)))
    ∙ add_comm (f a) (sum c (λ (i : ℕ). f (b + i)))
  where
    next : (i : ℕ) → a + suc i ≡ b + i
    next i = omega arith

-- or the one after it, where it starts at the front
pub sum_after : (b c n : ℕ) (f : ℕ → ℕ) → b ≡ 0 → c + 1 ≤ n → ((k : ℕ) → c + 1 ≤ k → k < n → f k ≡ 0) → sum n f ≡ sum c (λ (i : ℕ). f (b + i)) + f c
sum_after b c n f z l past =
    sum_upto (c + 1) n f l past ∙ sum_more c f
    ∙ ap (λ (k : ℕ). k + f c) (sum_ext c f (λ (i : ℕ). f (b + i)) (λ i _. ap f (here i)))
  where
    here : (i : ℕ) → i ≡ b + i
    here i = omega arith
