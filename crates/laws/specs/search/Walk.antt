-- The walk of a stack: its frames and their neighbours, the shift of a frame by that of its neighbour, the shift list as it is filled in
-- the order of the walk, and the scratch that a stack needs.
use Rattle.std.specs.Prelude.{◌≡◌, Bool, cond, ltb, ℤ, pos, length, get_or}
use Rattle.std.proofs.Math.Path.{refl, sym, ap, ap₂}
use Rattle.std.proofs.Common.{◌∙◌, subst, ⊎_elim, add-zero, zero-add, zero-lt-suc, add-one, length-append, get_or-append-add, lt-ltb, le-ltb, le-leb}
use mathlib.Core.List.{List, [], ◌∷◌, ◌++◌}
use Prim.Native.Nat.{ℕ, zero, suc, ◌+◌, ◌-◌, ◌*◌, ◌<◌, ◌≤◌, suc-le-suc}
use native.Mathlib.Omega.{arith}
use Rattle.std.proofs.Math.ListN.{set, get_or-append}
use Rattle.std.proofs.Math.Seq.{sets, length-sets, get_or-set_other}
use Rattle.std.proofs.lemmas.Bool.{lt-leb}
use Rattle.definitions.specs.Build.{build}
use Rattle.definitions.specs.Geometry.{Shift, offset, listed}
use Rattle.definitions.specs.Align.{Stack, neighbour, walk, step_of, shift_sum, shift_of, stack_need}
use Rattle.definitions.specs.Refusals.{FreeUpTo}
use Rattle.laws.specs.general.Cases.{lt_or_le}
use Rattle.laws.specs.general.Lists.{build_cons, build_add, build_length, build_at, build_same}
use Rattle.laws.specs.images.Crop.{listed_length}
use Rattle.laws.specs.search.StepBounds.{shift_down, shift_up, shift_reference}
use Rattle.laws.specs.general.Writes.{sets_append, set_before}

-- ---- neighbours

pub neighbour_below : (r k : ℕ) → k < r → neighbour r k ≡ suc k
unfolding neighbour
neighbour_below r k h = ap (λ (t : Bool). cond t (suc k) (cond (ltb r k) (k - 1) k)) (lt-ltb k r h)

pub neighbour_above : (r k : ℕ) → r < k → neighbour r k ≡ k - 1
unfolding neighbour
neighbour_above r k h =
    ap (λ (t : Bool). cond t (suc k) (cond (ltb r k) (k - 1) k)) (le-ltb k r (omega arith))
    ∙ ap (λ (t : Bool). cond t (k - 1) k) (lt-ltb r k h)

neighbour_self : (r : ℕ) → neighbour r r ≡ r
unfolding neighbour
neighbour_self r = simp (le-ltb r r (omega arith))

-- it is one of the frames
pub neighbour_among : (r k n : ℕ) → r < n → k < n → neighbour r k < n
neighbour_among r k n p q = ⊎_elim
    (λ (l : k < r). omega (arith, neighbour_below r k l))
    (λ (l : r ≤ k). ⊎_elim
    (λ (m : r < k). omega (arith, neighbour_above r k m))
    (λ (m : k ≤ r). let e : k ≡ r = omega arith in omega (arith, ap (neighbour r) e, neighbour_self r))
    (lt_or_le r k))
    (lt_or_le k r)

-- ---- the frames of the walk: r below the reference, then those above it

pub walk_length : (r n : ℕ) → r < n → length (walk r n) ≡ n - 1
unfolding walk
walk_length r n h = simp (length-append, build_length) (omega arith)

pub walk_below : (r n i : ℕ) → i < r → get_or (walk r n) i 0 ≡ r - suc i
unfolding walk
walk_below r n i h =
    let down : ℕ → ℕ = λ k. r - suc k in
    get_or-append (build r down) _ 0 i (subst (λ (m : ℕ). i < m) (sym (build_length r down)) h) ∙ build_at r down i 0 h

pub walk_above : (r n i : ℕ) → r ≤ i → i + 1 < n → get_or (walk r n) i 0 ≡ i + 1
unfolding walk
walk_above r n i l h =
    let down : ℕ → ℕ = λ k. r - suc k in
    let up : ℕ → ℕ = λ k. r + suc k in
    let at : i ≡ length (build r down) + (i - r) = omega (arith, build_length r down) in
    let here : r + suc (i - r) ≡ i + 1 = omega arith in
    ap (λ (m : ℕ). get_or (build r down ++ build (n - suc r) up) m 0) at
    ∙ get_or-append-add (build r down) (build (n - suc r) up) (i - r) 0
    ∙ build_at (n - suc r) up (i - r) 0 (omega arith)
    ∙ here

-- frame i of the walk is a frame other than the reference, and its neighbour is none that is walked with it or later
pub record Walked (r n i k : ℕ) : Type 0 where
  pub among : k < n
  pub apart : k ≡ r → ⊥
  pub earlier : (m : ℕ) → i ≤ m → m + 1 < n → get_or (walk r n) m 0 ≡ neighbour r k → ⊥

pub walked : (r n i : ℕ) → r < n → i + 1 < n → Walked r n i (get_or (walk r n) i 0)
walked r n i p q = ⊎_elim below above (lt_or_le i r)
  where
    below : i < r → Walked r n i (get_or (walk r n) i 0)
    below l =
        let k = get_or (walk r n) i 0 in
        let e = walk_below r n i l in
        let j = neighbour_below r k (omega arith) in
        record {
          among = omega arith;
          apart = λ c. omega arith;
          earlier = λ m a b c. ⊎_elim
              (λ (d : m < r). omega (arith, walk_below r n m d))
              (λ (d : r ≤ m). omega (arith, walk_above r n m d b))
              (lt_or_le m r);
        }

    above : r ≤ i → Walked r n i (get_or (walk r n) i 0)
    above l =
        let k = get_or (walk r n) i 0 in
        let e = walk_above r n i l q in
        let j = neighbour_above r k (omega arith) in
        record {
          among = omega arith;
          apart = λ c. omega arith;
          earlier = λ m a b c. omega (arith, walk_above r n m (omega arith) b);
        }

-- ---- the shift of a frame is its neighbour's and its step added

module _ (a : Stack) where
  -- the sum up to a frame that is the reference or above it
  sum_above : (k : ℕ) → a.reference ≤ k → shift_of a k ≡ shift_sum (k - a.reference) (λ (i : ℕ). step_of a (a.reference + suc i))
  unfolding shift_sum
  sum_above k h = on (k - a.reference) refl
    where
      on : (d : ℕ) → k - a.reference ≡ d → shift_of a k ≡ shift_sum d (λ (i : ℕ). step_of a (a.reference + suc i))
      on zero e = let q : k ≡ a.reference = omega arith in ap (shift_of a) q ∙ shift_reference a
      on (suc d) e = shift_up a k (omega arith) ∙ ap (λ (n : ℕ). shift_sum n (λ (i : ℕ). step_of a (a.reference + suc i))) e

  -- from sums of the steps of the frames f 0, f 1, ..: k is the last of them, and j the last but one
  one_more : (f : ℕ → ℕ) (d j k : ℕ) {m : ℕ} → m ≡ suc d → f d ≡ k → shift_of a k ≡ shift_sum m (λ (i : ℕ). step_of a (f i))
      → shift_of a j ≡ shift_sum d (λ (i : ℕ). step_of a (f i)) → shift_of a k ≡ offset (shift_of a j) (step_of a k)
  unfolding shift_sum
  one_more f d j k e g p q =
      p ∙ ap (λ (n : ℕ). shift_sum n (λ (i : ℕ). step_of a (f i))) e ∙ ap₂ offset (sym q) (ap (step_of a) g)

  pub shift_by_neighbour : (k : ℕ) → (k ≡ a.reference → ⊥) → shift_of a k ≡ offset (shift_of a (neighbour a.reference k)) (step_of a k)
  shift_by_neighbour k apart =
      let r = a.reference in
      ⊎_elim
      (λ (l : k < r).
      one_more (λ (i : ℕ). r - suc i) (r - suc k) (suc k) k (omega arith) (omega arith) (shift_down a k (omega arith)) (shift_down a (suc k) l)
      ∙ ap (λ (i : ℕ). offset (shift_of a i) (step_of a k)) (sym (neighbour_below r k l)))
      (λ (l : r ≤ k).
      let m : r < k = omega arith in
      one_more (λ (i : ℕ). r + suc i) (k - 1 - r) (k - 1) k (omega arith) (omega arith) (shift_up a k m) (sum_above (k - 1) (omega arith))
      ∙ ap (λ (i : ℕ). offset (shift_of a i) (step_of a k)) (sym (neighbour_above r k m)))
      (lt_or_le k r)

-- ---- the shift list, x then y for each frame, as shifts are put there

module _ {A : Type 0} where
  -- from j on: the first, and those from j + 1 on
  build_front : (j n : ℕ) (f : ℕ → A) → f j ∷ build n (λ (i : ℕ). f (j + 1 + i)) ≡ build (n + 1) (λ (i : ℕ). f (j + i))
  unfolding build
  build_front j n f =
      let first : f j ≡ f (j + 0) = ap f (sym (add-zero j)) in
      let one : 1 + n ≡ n + 1 = omega arith in
      let next : (i : ℕ) → j + 1 + i ≡ j + (1 + i) = λ i. omega arith in
      ap₂ (λ (x : A) (l : List A). x ∷ l) first
      (build_same n (λ (i : ℕ). f (j + 1 + i)) (λ (i : ℕ). f (j + (1 + i))) (λ i h. ap f (next i)))
      ∙ sym (build_add 1 n (λ (i : ℕ). f (j + i)))
      ∙ ap (λ (k : ℕ). build k (λ (i : ℕ). f (j + i))) one

listed_append : (l m : List Shift) → listed (l ++ m) ≡ listed l ++ listed m
unfolding listed
listed_append [] m = refl
listed_append (s ∷ l) m = ap (λ (k : List ℤ). s.x ∷ s.y ∷ k) (listed_append l m)

module _ (f : ℕ → Shift) where
  -- the shift of frame k at its place, and those of some frames one after another
  abbrev pub put : List ℤ → ℕ → List ℤ
  put l k = sets l (2 * k) (listed (f k ∷ []))

  unfoldable pub put_all : List ℤ → List ℕ → List ℤ
  put_all l [] = l
  put_all l (k ∷ ks) = put_all (put l k) ks

  pub put_length : (l : List ℤ) (ks : List ℕ) → length (put_all l ks) ≡ length l
  unfolding put_all
  put_length l [] = refl
  put_length l (k ∷ ks) = put_length (put l k) ks ∙ length-sets l (2 * k) (listed (f k ∷ []))

  -- both coordinates of a frame that is none of them stay
  pub put_elsewhere : (l : List ℤ) (ks : List ℕ) (j p : ℕ) → 2 * j ≤ p → p ≤ 2 * j + 1 → ((m : ℕ) → m < length ks → get_or ks m 0 ≡ j → ⊥)
      → get_or (put_all l ks) p (pos 0) ≡ get_or l p (pos 0)
  unfolding put_all listed
  put_elsewhere l [] j p a b apart = refl
  put_elsewhere l (k ∷ ks) j p a b apart =
      let ne : k ≡ j → ⊥ = apart 0 (zero-lt-suc (length ks)) in
      put_elsewhere (put l k) ks j p a b (λ m q. apart (suc m) (suc-le-suc q))
      ∙ get_or-set_other (set l (2 * k) (f k).x) (suc (2 * k)) p (f k).y (pos 0) (λ e. omega arith)
      ∙ get_or-set_other l (2 * k) p (f k).x (pos 0) (λ e. omega arith)

  -- ---- the reference and the frames of the walk are all frames

  put_append : (l : List ℤ) (ks ms : List ℕ) → put_all l (ks ++ ms) ≡ put_all (put_all l ks) ms
  unfolding put_all
  put_append l [] ms = refl
  put_append l (k ∷ ks) ms = put_append (put l k) ks ms

  -- one shift more before those from j + 1 on
  put_before : (l : List ℤ) (j n : ℕ) {m : List ℤ} → m ≡ sets l (2 * (j + 1)) (listed (build n (λ (i : ℕ). f (j + 1 + i))))
      → put m j ≡ sets l (2 * j) (listed (build (n + 1) (λ (i : ℕ). f (j + i))))
  unfolding listed
  put_before l j n {m} e =
      let x = (f j).x in
      let y = (f j).y in
      let vs = listed (build n (λ (i : ℕ). f (j + 1 + i))) in
      let next : 2 * (j + 1) ≡ suc (suc (2 * j)) = omega arith in
      ap (λ (k : List ℤ). set (set k (2 * j) x) (suc (2 * j)) y) e
      ∙ ap (λ (k : List ℤ). set k (suc (2 * j)) y) (set_before l vs (2 * j) (2 * (j + 1)) x (omega arith))
      ∙ set_before (set l (2 * j) x) vs (suc (2 * j)) (2 * (j + 1)) y (omega arith)
      ∙ ap (λ (i : ℕ). sets (set (set l (2 * j) x) (suc (2 * j)) y) i vs) next
      ∙ ap (λ (k : List Shift). sets l (2 * j) (listed k)) (build_front j n f)

  -- some shifts after the first m
  put_after : (l : List ℤ) (m n : ℕ) {mid new : List ℤ} → mid ≡ sets l 0 (listed (build m f))
      → new ≡ sets mid (2 * m) (listed (build n (λ (i : ℕ). f (m + i)))) → new ≡ sets l 0 (listed (build (m + n) f))
  put_after l m n {mid} {new} p q =
      let vs = listed (build m f) in
      let ws = listed (build n (λ (i : ℕ). f (m + i))) in
      let long : 2 * m ≡ 0 + length vs = omega (arith, listed_length (build m f), build_length m f) in
      q
      ∙ ap₂ (λ (k : List ℤ) (j : ℕ). sets k j ws) p long
      ∙ sym (sets_append l 0 vs ws)
      ∙ ap (sets l 0) (sym (listed_append (build m f) (build n (λ (i : ℕ). f (m + i)))) ∙ ap listed (sym (build_add m n f)))

  -- the frames from r down to j
  put_down : (l : List ℤ) (r m j : ℕ) → j + m ≡ suc r → put_all l (build m (λ (i : ℕ). r - i)) ≡ sets l (2 * j) (listed (build m (λ (i : ℕ). f (j + i))))
  unfolding put_all build listed
  put_down l r zero j e = refl
  put_down l r (suc m) j e =
      let here : r - m ≡ j = omega arith in
      put_append l (build m (λ (i : ℕ). r - i)) ((r - m) ∷ [])
      ∙ ap (put (put_all l (build m (λ (i : ℕ). r - i)))) here
      ∙ put_before l j m (put_down l r m (j + 1) (omega arith))
      ∙ ap (λ (n : ℕ). sets l (2 * j) (listed (build n (λ (i : ℕ). f (j + i))))) (add-one m)

  -- the first m, and n from there up
  put_up : (l : List ℤ) (m n : ℕ) {mid : List ℤ} → mid ≡ sets l 0 (listed (build m f))
      → put_all mid (build n (λ (i : ℕ). m + i)) ≡ sets l 0 (listed (build (m + n) f))
  unfolding put_all build
  put_up l m zero {mid} p = p ∙ ap (λ (k : ℕ). sets l 0 (listed (build k f))) (sym (add-zero m))
  put_up l m (suc n) {mid} p =
      let one : m + n + 1 ≡ m + suc n = omega arith in
      put_append mid (build n (λ (i : ℕ). m + i)) ((m + n) ∷ [])
      ∙ put_after l (m + n) 1 (put_up l m n p) (ap (λ (i : ℕ). sets (put_all mid (build n (λ (k : ℕ). m + k))) (2 * (m + n)) (listed (f i ∷ []))) (sym (add-zero (m + n))))
      ∙ ap (λ (k : ℕ). sets l 0 (listed (build k f))) one

  pub put_walk : (l : List ℤ) (r n : ℕ) → r < n → put_all (put l r) (walk r n) ≡ sets l 0 (listed (build n f))
  unfolding put_all walk
  put_walk l r n h =
      let down : List ℕ = build (suc r) (λ (i : ℕ). r - i) in
      let up : List ℕ = build (n - suc r) (λ (i : ℕ). r + suc i) in
      let all : suc r + (n - suc r) ≡ n = omega arith in
      let next : (i : ℕ) → r + suc i ≡ suc r + i = λ i. omega arith in
      let first : put_all l down ≡ sets l 0 (listed (build (suc r) f)) =
      put_down l r (suc r) 0 (omega arith)
      ∙ ap (λ (k : List Shift). sets l 0 (listed k)) (build_same (suc r) (λ (i : ℕ). f (0 + i)) f (λ i b. ap f (zero-add i))) in
      let none : r ≡ r - 0 = omega arith in
      ap (λ (k : ℕ). put_all (put l k) (walk r n)) none
      ∙ ap (λ (ks : List ℕ). put_all l (ks ++ up)) (sym (build_cons r (λ (i : ℕ). r - i)))
      ∙ put_append l down up
      ∙ ap (put_all (put_all l down)) (build_same (n - suc r) (λ (i : ℕ). r + suc i) (λ (i : ℕ). suc r + i) (λ i b. next i))
      ∙ put_up l (suc r) (n - suc r) first
      ∙ ap (λ (m : ℕ). sets l 0 (listed (build m f))) all

-- ---- scratch: no step is made where there is one frame, and one is where there are two

pub need_one : (n need : ℕ) → n ≤ 1 → stack_need n need ≡ 0
need_one n need h = ap (λ (t : Bool). cond t 0 need) (le-leb n 1 h)

pub need_two : (n need : ℕ) → 1 < n → stack_need n need ≡ need
need_two n need h = ap (λ (t : Bool). cond t 0 need) (lt-leb n 1 h)

pub need_free : (n need : ℕ) {old new : List ℕ} → 1 < n → FreeUpTo need old new → FreeUpTo (stack_need n need) old new
need_free n need {old} {new} h f = subst (λ (m : ℕ). FreeUpTo m old new) (sym (need_two n need h)) f
