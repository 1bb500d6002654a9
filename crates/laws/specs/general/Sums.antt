-- Laws of sums: one more, split, extensionality, zero beyond a bound, bounds, rows.
use Rattle.std.specs.Prelude.{◌≡◌, refl, ℕ, zero, suc, ◌+◌, ◌-◌, ◌*◌, ◌≤◌, ◌<◌}
use Rattle.std.proofs.Common.{sym, ap, ap₂, ◌∙◌, ⊎_elim, add-zero, add-suc, add_assoc, zero-mul, suc-mul, eq-or-lt_of_le, le_of_suc-le-suc, add-one, arith}
use Rattle.definitions.specs.Sum.{sum}

pub sum_none : (f : ℕ → ℕ) → sum 0 f ≡ 0
unfolding sum
sum_none f = refl

-- one more, as a loop counts
pub sum_more : (n : ℕ) (f : ℕ → ℕ) → sum (n + 1) f ≡ sum n f + f n
unfolding sum
sum_more n f = ap (λ (k : ℕ). sum k f) (add-one n)

-- a loop that adds what f gives at n
pub sum_step : (n : ℕ) (f : ℕ → ℕ) {t r : ℕ} → t ≡ sum n f → r ≡ f n → t + r ≡ sum (n + 1) f
sum_step n f e h = ap₂ (λ (a b : ℕ). a + b) e h ∙ sym (sum_more n f)

-- only what f gives below the bound counts
pub sum_ext : (n : ℕ) (f g : ℕ → ℕ) → ((i : ℕ) → i < n → f i ≡ g i) → sum n f ≡ sum n g
unfolding sum
sum_ext zero f g h = refl
sum_ext (suc n) f g h = ap₂ (λ (a b : ℕ). a + b) (sum_ext n f g (λ i l. h i (omega arith))) (h n (omega arith))

-- split at m
pub sum_split : (m n : ℕ) (f : ℕ → ℕ) → sum (m + n) f ≡ sum m f + sum n (λ i. f (m + i))
unfolding sum
sum_split m zero f = ap (λ (k : ℕ). sum k f) (add-zero m) ∙ sym (add-zero (sum m f))
sum_split m (suc n) f =
    ap (λ (k : ℕ). sum k f) (add-suc m n)
    ∙ ap (λ (k : ℕ). k + f (m + n)) (sum_split m n f)
    ∙ add_assoc (sum m f) (sum n (λ i. f (m + i))) (f (m + n))

-- four more
pub sum_four : (n : ℕ) (f : ℕ → ℕ) → sum (n + 4) f ≡ sum n f + f n + f (n + 1) + f (n + 2) + f (n + 3)
unfolding sum
sum_four n f = omega (arith, sum_split n 4 f, ap f (add-zero n))

-- the first, and the rest
pub sum_first : (n : ℕ) (f : ℕ → ℕ) → sum (suc n) f ≡ f 0 + sum n (λ i. f (suc i))
unfolding sum
sum_first zero f = omega arith
sum_first (suc n) f = ap (λ (k : ℕ). k + f (suc n)) (sum_first n f) ∙ add_assoc (f 0) (sum n (λ i. f (suc i))) (f (suc n))

pub sum_zero : (n : ℕ) (f : ℕ → ℕ) → ((i : ℕ) → i < n → f i ≡ 0) → sum n f ≡ 0
unfolding sum
sum_zero zero f h = refl
sum_zero (suc n) f h = ap₂ (λ (a b : ℕ). a + b) (sum_zero n f (λ i l. h i (omega arith))) (h n (omega arith))

-- what lies at m and past it is 0, so m is far enough
pub sum_upto : (m n : ℕ) (f : ℕ → ℕ) → m ≤ n → ((i : ℕ) → m ≤ i → i < n → f i ≡ 0) → sum n f ≡ sum m f
sum_upto m n f l h =
    let e : n ≡ m + (n - m) = omega arith in
    let z = sum_zero (n - m) (λ i. f (m + i)) (λ i k. h (m + i) (omega arith) (omega arith)) in
    ap (λ (k : ℕ). sum k f) e ∙ sum_split m (n - m) f ∙ ap (λ (k : ℕ). sum m f + k) z ∙ add-zero (sum m f)

-- a bound on each is one on the sum
pub sum_le : (n b : ℕ) (f : ℕ → ℕ) → ((i : ℕ) → i < n → f i ≤ b) → sum n f ≤ n * b
unfolding sum
sum_le zero b f h = omega arith
sum_le (suc n) b f h = omega (arith, sum_le n b f (λ i l. h i (omega arith)), h n (omega arith))

-- a count is at most the number of what is counted
pub sum_le_one : (n : ℕ) (f : ℕ → ℕ) → ((i : ℕ) → i < n → f i ≤ 1) → sum n f ≤ n
sum_le_one n f h = omega (arith, sum_le n 1 f h)

-- more terms, no less
pub sum_mono : (m n : ℕ) (f : ℕ → ℕ) → m ≤ n → sum m f ≤ sum n f
sum_mono m n f l =
    let e : n ≡ m + (n - m) = omega arith in
    omega (arith, ap (λ (k : ℕ). sum k f) e, sum_split m (n - m) f)

-- h rows of k, one after another
pub sum_rows : (h k : ℕ) (f : ℕ → ℕ) → sum (h * k) f ≡ sum h (λ y. sum k (λ x. f (y * k + x)))
unfolding sum
sum_rows zero k f = ap (λ (n : ℕ). sum n f) (zero-mul k)
sum_rows (suc h) k f =
    ap (λ (n : ℕ). sum n f) (suc-mul h k) ∙ sum_split (h * k) k f
    ∙ ap (λ (n : ℕ). n + sum k (λ x. f (h * k + x))) (sum_rows h k f)

-- a count of nothing says that there is nothing
pub sum_none_in : (n : ℕ) (f : ℕ → ℕ) → sum n f ≡ 0 → (i : ℕ) → i < n → f i ≡ 0
unfolding sum
sum_none_in zero f e i l = absurd (omega arith)
sum_none_in (suc n) f e i l = ⊎_elim
    (λ (p : i ≡ n). ap f p ∙ omega arith)
    (λ (p : i < n). sum_none_in n f (omega arith) i p)
    (eq-or-lt_of_le (le_of_suc-le-suc l))
