-- A run of stores, `sets l i vs`: what a loop that writes has stored so far, one store more, and the whole.
use Rattle.std.specs.Prelude.{◌≡◌, refl, List, [], ◌∷◌, ◌++◌, ℕ, suc, ◌+◌, ◌*◌, ◌<◌, ◌≤◌, length, get_or, set, take, drop}
use Rattle.std.proofs.Common.{sym, ap, ◌∙◌, append-nil, add-zero, zero-add, add-suc, suc-add, arith, length-set, drop_of_length-le, get_or-set_other, drop-set-lt, take_at}
use Rattle.std.proofs.lemmas.List.Edits.{sets, sets-eq}
use Rattle.std.proofs.Math.Seq.{length-sets, set_out}
use Rattle.std.proofs.lemmas.List.{set_comm}
use Rattle.definitions.specs.Build.{build, joined}
use Rattle.laws.specs.general.Lists.{build_none, build_more, build_add, build_length, joined_none, joined_more, joined_length}

module _ {A : Type 0} where
  pub sets_append : (l : List A) (i : ℕ) (vs ws : List A) → sets l i (vs ++ ws) ≡ sets (sets l i vs) (i + length vs) ws
  sets_append l i [] ws = ap (λ (k : ℕ). sets l k ws) (sym (add-zero i))
  sets_append l i (v ∷ vs) ws =
      sets_append (set l i v) (suc i) vs ws
      ∙ ap (λ (k : ℕ). sets (sets (set l i v) (suc i) vs) k ws) (suc-add i (length vs) ∙ sym (add-suc i (length vs)))

  -- all of a list
  pub sets_whole : (l vs : List A) → length vs ≡ length l → sets l 0 vs ≡ vs
  sets_whole l vs e =
      sets-eq vs l 0 (omega arith)
      ∙ ap (λ (r : List A). vs ++ r) (drop_of_length-le l {i = 0 + length vs} (omega arith))
      ∙ append-nil vs

  -- the front of a list
  pub sets_front : (l vs : List A) → length vs ≤ length l → sets l 0 vs ≡ vs ++ drop (length vs) l
  sets_front l vs h = sets-eq vs l 0 (omega arith) ∙ ap (λ (k : ℕ). vs ++ drop k l) (zero-add (length vs))

  pub stored_front : (old vs : List A) → length vs ≤ length old → {new : List A} → new ≡ sets old 0 vs → (m : ℕ) → m ≡ length vs → take m new ≡ vs
  stored_front old vs h e m q = ap (take m) (e ∙ sets_front old vs h) ∙ take_at vs (drop (length vs) old) m (sym q)

  -- a run that begins past the end stores nothing
  pub sets_out : (l vs : List A) (i : ℕ) → length l ≤ i → sets l i vs ≡ l
  sets_out l [] i h = refl
  sets_out l (v ∷ vs) i h = sets_out (set l i v) vs (suc i) (omega (arith, length-set l i v)) ∙ set_out l i v h

  -- ---- a loop that stores f k at i + k

  pub store_none : (l : List A) (i : ℕ) (f : ℕ → A) → l ≡ sets l i (build 0 f)
  store_none l i f = sym (ap (sets l i) (build_none f))

  pub store_more : (l : List A) (i k : ℕ) (f : ℕ → A) {m : List A} {v : A} → m ≡ sets l i (build k f) → v ≡ f k → set m (i + k) v ≡ sets l i (build (k + 1) f)
  store_more l i k f {m} {v} p q =
      ap (λ (n : List A). set n (i + k) v) p
      ∙ ap (set (sets l i (build k f)) (i + k)) q
      ∙ sym
      (ap (sets l i) (build_more k f)
      ∙ sets_append l i (build k f) (f k ∷ [])
      ∙ ap (λ (j : ℕ). set (sets l i (build k f)) (i + j) (f k)) (build_length k f))

  -- as an invariant: the first k are stored
  pub record Stored (f : ℕ → A) (i : ℕ) (old new : List A) (k : ℕ) : Type 0 where
    pub long : length new ≡ length old
    pub are : new ≡ sets old i (build k f)

  pub stored_none : (f : ℕ → A) (i : ℕ) (old : List A) → Stored f i old old 0
  stored_none f i old = record { long = refl; are = store_none old i f }

  pub stored_more : {f : ℕ → A} {i : ℕ} {old new : List A} {k : ℕ} {v : A} → Stored f i old new k → v ≡ f k → Stored f i old (set new (i + k) v) (k + 1)
  stored_more {f} {i} {old} {new} {k} {v} q e = record { long = length-set new (i + k) v ∙ q.long; are = store_more old i k f q.are e }

  pub stored_first : {f : ℕ → A} {old new : List A} {k : ℕ} {v : A} → Stored f 0 old new k → v ≡ f k → Stored f 0 old (set new k v) (k + 1)
  stored_first {f} {old} {new} {k} {v} q e = record {
    long = length-set new k v ∙ q.long;
    are = ap (λ (j : ℕ). set new j v) (sym (zero-add k)) ∙ store_more old 0 k f q.are e;
  }

  -- and n more in one run
  pub stored_run : {f : ℕ → A} {old new more : List A} {k : ℕ} (n : ℕ) → Stored f 0 old new k → more ≡ sets new k (build n (λ (j : ℕ). f (k + j))) → Stored f 0 old more (k + n)
  stored_run {f} {old} {new} {more} {k} n q e =
      let run = build n (λ (j : ℕ). f (k + j)) in record {
        long = ap (length {A = A}) e ∙ length-sets new k run ∙ q.long;
        are =
            e
            ∙ ap (λ (l : List A). sets l k run) q.are
            ∙ ap (λ (i : ℕ). sets (sets old 0 (build k f)) i run) (sym (zero-add (length (build k f)) ∙ build_length k f))
            ∙ sym (ap (sets old 0) (build_add k n f) ∙ sets_append old 0 (build k f) run);
      }

  pub stored_all : {f : ℕ → A} {i : ℕ} {old new : List A} {k n : ℕ} → Stored f i old new k → k ≡ n → new ≡ sets old i (build n f)
  stored_all {f} {i} {old} q e = q.are ∙ ap (λ (m : ℕ). sets old i (build m f)) e

  pub stored_whole : {f : ℕ → A} {old new : List A} {k n : ℕ} → Stored f 0 old new k → k ≡ n → length old ≡ n → new ≡ build n f
  stored_whole {f} {old} {new} {k} {n} q e l = stored_all q e ∙ sets_whole old (build n f) (build_length n f ∙ sym l)

  -- ---- a loop that stores the rows r k, each of n, at i + k * n

  pub rows_none : (l : List A) (i : ℕ) (r : ℕ → List A) → l ≡ sets l i (joined 0 r)
  rows_none l i r = sym (ap (sets l i) (joined_none r))

  pub rows_more : (l : List A) (i n k : ℕ) (r : ℕ → List A) {m new : List A} → ((j : ℕ) → length (r j) ≡ n) → m ≡ sets l i (joined k r) → new ≡ sets m (i + k * n) (r k)
      → new ≡ sets l i (joined (k + 1) r)
  rows_more l i n k r {m} {new} e p q =
      q ∙ ap (λ (x : List A). sets x (i + k * n) (r k)) p
      ∙ sym
      (ap (sets l i) (joined_more k r)
      ∙ sets_append l i (joined k r) (r k)
      ∙ ap (λ (j : ℕ). sets (sets l i (joined k r)) (i + j) (r k)) (joined_length k n r (λ j h. e j)))

  -- ---- a store before or past a run

  pub set_before : (l vs : List A) (i j : ℕ) (v : A) → i < j → set (sets l j vs) i v ≡ sets (set l i v) j vs
  set_before l [] i j v h = refl
  set_before l (w ∷ vs) i j v h =
      set_before (set l j w) vs i (suc j) v (omega arith)
      ∙ ap (λ (m : List A). sets m (suc j) vs) (set_comm l j i w v (λ e. omega arith))

  -- what a run leaves alone
  pub get_d_before : (l vs : List A) (i j : ℕ) (d : A) → j < i → get_or (sets l i vs) j d ≡ get_or l j d
  get_d_before l [] i j d h = refl
  get_d_before l (v ∷ vs) i j d h = get_d_before (set l i v) vs (suc i) j d (omega arith) ∙ get_or-set_other l i j v d (λ e. omega arith)

  pub drop_past : (l vs : List A) (i n : ℕ) → i + length vs ≤ n → drop n (sets l i vs) ≡ drop n l
  drop_past l [] i n h = refl
  drop_past l (v ∷ vs) i n h = drop_past (set l i v) vs (suc i) n (omega arith) ∙ drop-set-lt n l i v (omega arith)
