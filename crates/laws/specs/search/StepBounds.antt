-- How far a step and a frame's shift lie, that such shifts are added without a refusal, and how many comparisons a step makes.
use Rattle.std.specs.Prelude.{◌≡◌, Bool, cond, [], ◌∷◌, map, ℕ, zero, suc, ◌+◌, ◌-◌, ◌*◌, ◌^◌, ◌<◌, ◌≤◌, ℤ, pos, negsuc, nat_abs, ◌+ℤ◌, get_or}
use Rattle.std.proofs.Common.{sym, ap, ◌∙◌, subst, arith, ⊎_elim, lit≤, pow_mono, le-leb, mul-le-mul_right, le_refl}
use Rattle.std.proofs.Math.Nat.{sub_self}
use Rattle.std.proofs.lemmas.Bool.{lt-leb}
use Rattle.definitions.specs.Geometry.{Shift, origin, offset, doubled, ahead, behind}
use Rattle.definitions.specs.Align.{Options, Exposure, Stack, candidates, nine, refine, step_at, comparisons_at, cost_of, step, comparisons, levels, step_of, shift_sum, shift_of}
use Rattle.definitions.specs.Refusals.{accepted, answer, coordinate_outside, shift_checks}
use Rattle.laws.specs.general.Cases.{lt_or_le}
use Rattle.laws.specs.checks.Checks.{done}
use Rattle.laws.specs.checks.ChecksGeometry.{coordinate_skip}
use Rattle.laws.specs.general.Whole.{alone, add}
use Rattle.laws.specs.images.Sizes.{Limits}
use Rattle.laws.specs.search.Least.{refine_earliest_least, nine_nine}
use Rattle.laws.specs.search.Tried.{tried_few}
use Rattle.laws.specs.images.Levels.{levels_most}
use Rattle.laws.specs.general.Machine.{not_outside}

-- both coordinates are at most n from 0
pub record Within (n : ℕ) (s : Shift) : Type 0 where
  pub across : nat_abs s.x ≤ n
  pub down : nat_abs s.y ≤ n

pub within_wider : {m n : ℕ} {s : Shift} → m ≤ n → Within m s → Within n s
within_wider h w = record { across = omega (arith, w.across); down = omega (arith, w.down) }

-- ---- sums

-- the distance from 0 by the two parts
pub abs_parts : (z : ℤ) → nat_abs z ≡ ahead z + behind z
abs_parts (pos n) = omega arith
abs_parts (negsuc n) = omega arith

pub abs_add : (a b : ℤ) → nat_abs (a +ℤ b) ≤ nat_abs a + nat_abs b
abs_add a b = omega (arith, abs_parts (a +ℤ b), abs_parts a, abs_parts b, add a b, alone (a +ℤ b))

pub offset_within : (m n : ℕ) (s d : Shift) → Within m s → Within n d → Within (m + n) (offset s d)
offset_within m n s d p q = record {
  across = omega (arith, abs_add s.x d.x, p.across, q.across);
  down = omega (arith, abs_add s.y d.y, p.down, q.down);
}

pub origin_within : (n : ℕ) → Within n origin
origin_within n = record { across = omega arith; down = omega arith }

-- a shift that is far from the limits of i32 is not refused
pub far_accepted : (s : Shift) → Within 2097152 s → answer (shift_checks s) s ≡ accepted s
unfolding shift_checks
far_accepted s w =
    sym (coordinate_skip s s.x (coordinate_outside s.y ∷ [])
    (not_outside s.x (omega (arith, abs_parts s.x, w.across)) (omega (arith, abs_parts s.x, w.across)))
    (coordinate_skip s s.y []
    (not_outside s.y (omega (arith, abs_parts s.y, w.down)) (omega (arith, abs_parts s.y, w.down)))
    (done s)))

-- the shift of a sum of n shifts that lie within b
pub sum_within : (n b : ℕ) (f : ℕ → Shift) → ((i : ℕ) → Within b (f i)) → Within (n * b) (shift_sum n f)
unfolding shift_sum
sum_within zero b f h = origin_within (0 * b)
sum_within (suc n) b f h = within_wider (omega arith) (offset_within (n * b) b (shift_sum n f) (f n) (sum_within n b f h) (h n))

-- ---- a level: within one of the centre

-- the nine lie within one of the centre
nine_within : (m : ℕ) (centre : Shift) → Within m centre → (i : ℕ) → i < 9 → Within (m + 1) (get_or (nine centre) i origin)
unfolding nine
nine_within m centre w i h = on i h
  where
    near : (x y : ℤ) → nat_abs x ≤ 1 → nat_abs y ≤ 1 → Within (m + 1) (offset centre (record { x = x; y = y }))
    near x y p q = offset_within m 1 centre (record { x = x; y = y }) w (record { across = p; down = q })

    on : (i : ℕ) → i < 9 → Within (m + 1) (get_or (map (offset centre) candidates) i origin)
    on zero h = near (pos 0) (pos 0) (lit≤ tt) (lit≤ tt)
    on (suc zero) h = near (negsuc 0) (negsuc 0) (lit≤ tt) (lit≤ tt)
    on (suc (suc zero)) h = near (negsuc 0) (pos 0) (lit≤ tt) (lit≤ tt)
    on (suc (suc (suc zero))) h = near (negsuc 0) (pos 1) (lit≤ tt) (lit≤ tt)
    on (suc (suc (suc (suc zero)))) h = near (pos 0) (negsuc 0) (lit≤ tt) (lit≤ tt)
    on (suc (suc (suc (suc (suc zero))))) h = near (pos 0) (pos 1) (lit≤ tt) (lit≤ tt)
    on (suc (suc (suc (suc (suc (suc zero)))))) h = near (pos 1) (negsuc 0) (lit≤ tt) (lit≤ tt)
    on (suc (suc (suc (suc (suc (suc (suc zero))))))) h = near (pos 1) (pos 0) (lit≤ tt) (lit≤ tt)
    on (suc (suc (suc (suc (suc (suc (suc (suc zero)))))))) h = near (pos 1) (pos 1) (lit≤ tt) (lit≤ tt)
    on (suc (suc (suc (suc (suc (suc (suc (suc (suc i))))))))) h = absurd (omega arith)

pub refine_within : (cost : Shift → ℕ) (m : ℕ) (centre : Shift) → Within m centre → Within (m + 1) (refine cost centre)
refine_within cost m centre w =
    let e = refine_earliest_least cost centre in
    subst (λ (s : Shift). Within (m + 1) s) e.there (nine_within m centre w e.place (subst (λ (n : ℕ). e.place < n) (nine_nine centre) e.among))

-- ---- the step: within 2 ^ (d + 1) - 1, d levels finer than the last

pub step_at_within : (cost : ℕ → Shift → ℕ) (k d : ℕ) → Within (2 ^ suc d - 1) (step_at cost k d)
unfolding step_at
step_at_within cost k zero = refine_within (cost k) 0 origin (origin_within 0)
step_at_within cost k (suc d) =
    let s = step_at cost (suc k) d in
    let b = 2 ^ suc d - 1 in
    let w : Within b s = step_at_within cost (suc k) d in
    within_wider (omega (arith, power d)) (refine_within (cost k) (b + b) (doubled s) (offset_within b b s s w w))
  where
    power : (d : ℕ) → 1 ≤ 2 ^ d
    power zero = omega arith
    power (suc d) = omega (arith, power d)

-- 01: steps lie within 2 ^ (L + 1) - 1
pub step_within : (o : Options) (w h : ℕ) (r t : Exposure) → Within (2 ^ suc (levels w h o.bits) - 1) (step o w h r t)
unfolding step
step_within o w h r t = step_at_within (cost_of o w h r t) 0 (levels w h o.bits)

-- within 8,191 for frames of 01's sizes
pub step_small : (o : Options) (w h : ℕ) (r t : Exposure) → w ≤ 8192 → h ≤ 8192 → Within 8191 (step o w h r t)
step_small o w h r t p q =
    let l : levels w h o.bits ≤ 12 = levels_most w h o.bits p q in
    let m : 2 ^ suc (levels w h o.bits) ≤ 2 ^ 13 = pow_mono {j = 13} (omega arith) in
    within_wider (omega arith) (step_within o w h r t)

-- ---- the comparisons: one to nine at each of L + 1 levels

pub comparisons_at_lem : (cost : ℕ → Shift → ℕ) (k d : ℕ) → (d + 1 ≤ comparisons_at cost k d) × (comparisons_at cost k d ≤ 9 * (d + 1))
unfolding comparisons_at
comparisons_at_lem cost k zero = let f = tried_few (cost k) origin in (omega (arith, f.0), omega (arith, f.1))
comparisons_at_lem cost k (suc d) =
    let f = tried_few (cost k) (doubled (step_at cost (suc k) d)) in
    let r = comparisons_at_lem cost (suc k) d in
    (omega (arith, f.0, r.0), omega (arith, f.1, r.1))

-- 02: the count lies between L + 1 and 9 × (L + 1)
pub comparisons_between : (o : Options) (w h : ℕ) (r t : Exposure)
    → (levels w h o.bits + 1 ≤ comparisons o w h r t) × (comparisons o w h r t ≤ 9 * (levels w h o.bits + 1))
unfolding comparisons
comparisons_between o w h r t = comparisons_at_lem (cost_of o w h r t) 0 (levels w h o.bits)

-- ---- a stack's shifts

-- the sum down from the reference, or up from it
abbrev either : Stack → ℕ → Bool → Shift
either a k t =
    cond t
    (shift_sum (a.reference - k) (λ (i : ℕ). step_of a (a.reference - suc i)))
    (shift_sum (k - a.reference) (λ (i : ℕ). step_of a (a.reference + suc i)))

-- the two directions of the walk
pub shift_down : (a : Stack) (k : ℕ) → k ≤ a.reference → shift_of a k ≡ shift_sum (a.reference - k) (λ (i : ℕ). step_of a (a.reference - suc i))
unfolding shift_of
shift_down a k h = ap (either a k) (le-leb k a.reference h)

pub shift_up : (a : Stack) (k : ℕ) → a.reference < k → shift_of a k ≡ shift_sum (k - a.reference) (λ (i : ℕ). step_of a (a.reference + suc i))
unfolding shift_of
shift_up a k h = ap (either a k) (lt-leb k a.reference h)

-- the reference does not move
pub shift_reference : (a : Stack) → shift_of a a.reference ≡ origin
unfolding shift_sum
shift_reference a = shift_down a a.reference (le_refl a.reference) ∙ ap (λ (n : ℕ). shift_sum n (λ (i : ℕ). step_of a (a.reference - suc i))) (sub_self a.reference)

-- a stack within 01's limits
abbrev pub Small : Stack → Type 0
Small a = Limits a.width a.height a.frames a.reference

pub step_of_small : (a : Stack) → Small a → (j : ℕ) → Within 8191 (step_of a j)
unfolding step_of
step_of_small a s j = step_small a.options a.width a.height _ _ s.width s.height

-- so that no shift lies farther than 15 steps, and every one fits i32
pub shift_small : (a : Stack) → Small a → (k : ℕ) → k < a.frames → Within 122865 (shift_of a k)
shift_small a s k h = ⊎_elim
    (λ (l : a.reference < k).
    let n : k - a.reference ≤ 15 = omega (arith, s.frames) in
    subst (Within 122865) (sym (shift_up a k l)) (within_wider (omega (arith, mul-le-mul_right 8191 n)) (sum_within (k - a.reference) 8191 _ (λ i. step_of_small a s _))))
    (λ (l : k ≤ a.reference).
    let n : a.reference - k ≤ 15 = omega (arith, s.frames, s.reference) in
    subst (Within 122865) (sym (shift_down a k l)) (within_wider (omega (arith, mul-le-mul_right 8191 n)) (sum_within (a.reference - k) 8191 _ (λ i. step_of_small a s _))))
    (lt_or_le a.reference k)
