-- The walk over a stack as it goes on: the shifts of the frames that are left, put into the list, make the shifts of all.
use mathlib.Core.Path.{◌≡◌, refl, sym, ap, ◌∙◌}
use mathlib.Core.List.{List, [], ◌∷◌}
use Prim.Native.Nat.{ℕ, ◌+◌, ◌-◌, ◌*◌, ◌<◌, ◌≤◌}
use native.Mathlib.Numerals.{add-one}
use native.Mathlib.Omega.{arith}
use lib.IntN.{ℤ, pos}
use lib.ListN.{length, get_or, drop, length-drop, drop_of_length-le}
use lib.Seq.{sets, length-sets, drop-cons, get_or-drop, get_or-take}
use Rattle.definitions.specs.Build.{build}
use Rattle.definitions.specs.Geometry.{Shift, origin, offset, listed}
use Rattle.definitions.specs.Align.{Stack, neighbour, walk, step_of, shift_of, shifts, stack_bytes, stack_words}
use Rattle.definitions.specs.Refusals.{FreeUpTo}
use Rattle.laws.specs.images.Crop.{listed_length}
use Rattle.laws.specs.search.Free.{free_then}
use Rattle.laws.specs.general.Lists.{build_at, build_length}
use Rattle.laws.specs.search.Walk.{neighbour_among, walk_length, walked, shift_by_neighbour, put, put_all, put_length, put_elsewhere, put_walk}
use Rattle.laws.specs.search.StepBounds.{Small, shift_reference}
use Rattle.laws.specs.search.ShiftLists.{listed_x, listed_y}
use Rattle.laws.specs.general.Writes.{sets_whole, stored_front}
use Rattle.mtb_align.specs.Stack.{listed_at, Placed}

-- ---- the shifts of a stack in a list

-- the shift of frame i
pub placed_at : (a : Stack) {list : List ℤ} → Placed a list → (i : ℕ) → i < a.frames → listed_at list i ≡ shift_of a i
unfolding shifts
placed_at a {list} p i l =
    let n = a.frames in
    let all = build n (shift_of a) in
    let here = build_at n (shift_of a) i origin l in
    let read : (m : ℕ) → m < 2 * n → get_or list m (pos 0) ≡ get_or (listed all) m (pos 0)
    = λ m h. sym (get_or-take (2 * n) list m (pos 0) h) ∙ ap (λ (t : List ℤ). get_or t m (pos 0)) p.front in
    let x = read (2 * i) (omega arith) ∙ listed_x all i ∙ ap (λ (s : Shift). s.x) here in
    let y = read (2 * i + 1) (omega arith) ∙ listed_y all i ∙ ap (λ (s : Shift). s.y) here in
    λ m. record { x = x m; y = y m }

-- where all are stored
pub placed_of : (a : Stack) (old : List ℤ) → 2 * a.frames ≤ length old → {new : List ℤ} → new ≡ sets old 0 (listed (shifts a)) → Placed a new
unfolding shifts
placed_of a old room {new} e =
    let all = build a.frames (shift_of a) in
    let long : length (listed all) ≡ 2 * a.frames = listed_length all ∙ omega (arith, build_length a.frames (shift_of a)) in
    record {
      long = omega (arith, room, ap length e, length-sets old 0 (listed all));
      front = stored_front old (listed all) (omega (arith, room, long)) e (2 * a.frames) (sym long);
    }

-- the whole list
pub whole : (a : Stack) (old : List ℤ) {new : List ℤ} → length old ≡ 2 * a.frames → new ≡ sets old 0 (listed (shifts a)) → new ≡ listed (shifts a)
unfolding shifts
whole a old e q =
    let l = build a.frames (shift_of a) in
    q ∙ sets_whole old (listed l) (omega (arith, listed_length l, build_length a.frames (shift_of a)))

-- ---- before frame i of the walk, where `first` has the reference's shift

pub record Walking (a : Stack) (first list : List ℤ) (b b' v v' : List ℕ) (i : ℕ) : Type 0 where
  pub left : put_all (shift_of a) list (drop i (walk a.reference a.frames)) ≡ put_all (shift_of a) first (walk a.reference a.frames)
  pub pixels : FreeUpTo (stack_bytes a) b b'
  pub maps : FreeUpTo (stack_words a) v v'

walking_long : {a : Stack} {first list : List ℤ} {b b' v v' : List ℕ} {i : ℕ} → Walking a first list b b' v v' i → length list ≡ length first
walking_long {a} {first} {list} q =
    sym (put_length (shift_of a) list _) ∙ ap length q.left ∙ put_length (shift_of a) first (walk a.reference a.frames)

-- what a turn finds: frame k, its neighbour j, and j's shift in the list
pub record Turn (a : Stack) (list : List ℤ) (k j : ℕ) : Type 0 where
  pub two : 1 < a.frames
  pub among : k < a.frames
  pub beside : j < a.frames
  pub long : 2 * a.frames ≤ length list
  pub read : listed_at list j ≡ shift_of a j
  pub sum : offset (shift_of a j) (step_of a k) ≡ shift_of a k

module _ (a : Stack) (small : Small a) where
  abbrev frames : List ℕ
  frames = walk a.reference a.frames

  many : length (walk a.reference a.frames) ≡ a.frames - 1
  many = walk_length a.reference a.frames small.reference

  -- the shift of frame i of the walk is stored
  pub one_walked : {first list new : List ℤ} {b b' b'' v v' v'' : List ℕ} {i k : ℕ} {s : Shift} → Walking a first list b b' v v' i → i + 1 < a.frames
      → k ≡ get_or (walk a.reference a.frames) i 0 → s ≡ shift_of a k → new ≡ sets list (2 * k) (listed (s ∷ []))
      → FreeUpTo (stack_bytes a) b' b'' → FreeUpTo (stack_words a) v' v'' → Walking a first new b b'' v v'' (i + 1)
  unfolding put_all
  one_walked {list = list} {i = i} {k = k} q l e g h p m =
      let f = shift_of a in
      let next : drop i frames ≡ get_or frames i 0 ∷ drop (i + 1) frames =
      drop-cons frames i 0 (omega (arith, many)) ∙ ap (λ (j : ℕ). get_or frames i 0 ∷ drop j frames) (sym (add-one i)) in
      record {
        left =
            ap (λ (t : List ℤ). put_all f t (drop (i + 1) frames)) (h ∙ ap (λ (t : Shift). sets list (2 * k) (listed (t ∷ []))) g ∙ ap (put f list) e)
            ∙ ap (put_all f list) (sym next)
            ∙ q.left;
        pixels = free_then q.pixels p;
        maps = free_then q.maps m;
      }

  module _ (old : List ℤ) {first : List ℤ} (begun : first ≡ sets old (2 * a.reference) (listed (origin ∷ []))) where
    -- the reference and all frames of the walk make the list of all
    all_put : put_all (shift_of a) first (walk a.reference a.frames) ≡ sets old 0 (listed (shifts a))
    unfolding shifts
    all_put =
        ap (λ (l : List ℤ). put_all (shift_of a) l frames)
        (begun ∙ ap (λ (s : Shift). sets old (2 * a.reference) (listed (s ∷ []))) (sym (shift_reference a)))
        ∙ put_walk (shift_of a) old a.reference a.frames small.reference

    module _ {list : List ℤ} {b b' v v' : List ℕ} {i : ℕ} (q : Walking a first list b b' v v' i) where
      pub walk_turn : 2 * a.frames ≤ length old → i + 1 < a.frames → {k j : ℕ} → k ≡ get_or (walk a.reference a.frames) i 0
          → j ≡ neighbour a.reference k → Turn a list k j
      walk_turn room l {k} {j} e g =
          let r = a.reference in
          let n = a.frames in
          let frame = walked r n i small.reference l in
          let among : k < n = omega (arith, frame.among) in
          let beside : j < n = omega (arith, neighbour_among r k n small.reference among) in
          let is : j ≡ neighbour r (get_or frames i 0) = g ∙ ap (neighbour r) e in
          let apart : (m : ℕ) → m < length (drop i frames) → get_or (drop i frames) m 0 ≡ j → ⊥ = λ m h c.
          frame.earlier (i + m) (omega arith) (omega (arith, length-drop i frames, many)) (sym (get_or-drop i frames m 0) ∙ c ∙ is) in
          let here : (p : ℕ) → 2 * j ≤ p → p ≤ 2 * j + 1 → get_or list p (pos 0) ≡ get_or (sets old 0 (listed (shifts a))) p (pos 0) = λ p s t.
          sym (put_elsewhere (shift_of a) list (drop i frames) j p s t apart) ∙ ap (λ (m : List ℤ). get_or m p (pos 0)) (q.left ∙ all_put) in
          let x = here (2 * j) (omega arith) (omega arith) in
          let y = here (2 * j + 1) (omega arith) (omega arith) in
          record {
            two = omega arith;
            among = among;
            beside = beside;
            long = omega (arith, walking_long q, ap length begun, length-sets old (2 * r) (listed (origin ∷ [])));
            read = (λ t. record { x = x t; y = y t }) ∙ placed_at a (placed_of a old room refl) j beside;
            sum = ap (λ (m : ℕ). offset (shift_of a m) (step_of a k)) g ∙ sym (shift_by_neighbour a k (λ c. frame.apart (sym e ∙ c)));
          }

      pub all_walked : a.frames ≤ i + 1 → list ≡ sets old 0 (listed (shifts a))
      unfolding put_all
      all_walked l = ap (put_all (shift_of a) list) (sym (drop_of_length-le frames {i = i} (omega (arith, many)))) ∙ q.left ∙ all_put
