-- Two runs of stores in one list, the second past the first: one store more in each, one row more in each.
use Rattle.std.specs.Prelude.{◌≡◌, refl, List, [], ◌∷◌, ℕ, suc, ◌+◌, ◌*◌, ◌<◌, ◌≤◌, length, set}
use Rattle.std.proofs.Common.{ap, ◌∙◌, arith}
use Rattle.std.proofs.lemmas.List.Edits.{sets}
use Rattle.definitions.specs.Build.{build, joined}
use Rattle.laws.specs.general.Writes.{store_none, store_more, rows_none, rows_more, set_before}

module _ {A : Type 0} where
  -- a run before a run
  pub sets_before : (l vs ws : List A) (i j : ℕ) → i + length ws ≤ j → sets (sets l j vs) i ws ≡ sets (sets l i ws) j vs
  sets_before l vs [] i j h = refl
  sets_before l vs (w ∷ ws) i j h =
      ap (λ (m : List A). sets m (suc i) ws) (set_before l vs i j w (omega arith))
      ∙ sets_before (set l i w) vs ws (suc i) j (omega arith)

  -- both runs
  abbrev pub both : List A → ℕ → ℕ → List A → List A → List A
  both l i j vs ws = sets (sets l i vs) j ws

  -- ---- a loop that stores f k at i + k and g k at j + k

  module _ (l : List A) (i j : ℕ) (f g : ℕ → A) where
    pub both_none : l ≡ both l i j (build 0 f) (build 0 g)
    both_none = store_none l i f ∙ store_none (sets l i (build 0 f)) j g

    pub both_more : (k : ℕ) → i + k < j → {m : List A} {v u : A} → m ≡ both l i j (build k f) (build k g) → v ≡ f k → u ≡ g k
        → set (set m (i + k) v) (j + k) u ≡ both l i j (build (k + 1) f) (build (k + 1) g)
    both_more k h {m} {v} p q r =
        store_more (sets l i (build (k + 1) f)) j k g
        (ap (λ (n : List A). set n (i + k) v) p
        ∙ set_before (sets l i (build k f)) (build k g) (i + k) j v h
        ∙ ap (λ (n : List A). sets n j (build k g)) (store_more l i k f refl q))
        r

  -- ---- a loop that stores the rows r k at i + k * n and s k at j + k * n, each of n

  module _ (l : List A) (i j n : ℕ) (r s : ℕ → List A) where
    pub both_rows_none : l ≡ both l i j (joined 0 r) (joined 0 s)
    both_rows_none = rows_none l i r ∙ rows_none (sets l i (joined 0 r)) j s

    pub both_rows_more : ((k : ℕ) → length (r k) ≡ n) → ((k : ℕ) → length (s k) ≡ n) → (k : ℕ) → i + k * n + n ≤ j → {m new : List A}
        → m ≡ both l i j (joined k r) (joined k s) → new ≡ both m (i + k * n) (j + k * n) (r k) (s k)
        → new ≡ both l i j (joined (k + 1) r) (joined (k + 1) s)
    both_rows_more a b k h p q =
        rows_more (sets l i (joined (k + 1) r)) j n k s b
        (ap (λ (x : List A). sets x (i + k * n) (r k)) p
        ∙ sets_before (sets l i (joined k r)) (joined k s) (r k) (i + k * n) j (omega (arith, a k))
        ∙ ap (λ (x : List A). sets x j (joined k s)) (rows_more l i n k r a refl refl))
        q
