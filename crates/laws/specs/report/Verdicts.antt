-- What each verdict of a report says of a frame and its rivals.
use Rattle.std.specs.Prelude.{◌≡◌, refl, cond, ◌↔◌, ◌⊎◌, ltb, eqb, nat_abs, ◌-ℤ◌, length}
use Rattle.std.proofs.Common.{ap, arith, lt-ltb, le-ltb, eq-eqb, ne_eqb}
use Rattle.std.proofs.Math.Logic.{inl, inr, ⊎_elim}
use mathlib.Core.List.{Memᴰ}
use Prim.Native.Nat.{ℕ, ◌+◌, ◌≤◌, ◌<◌}
use Rattle.definitions.specs.Geometry.{Shift}
use Rattle.definitions.specs.Align.{Stack, step_of}
use Rattle.definitions.specs.Report.{distance, Terms, frame_counts, limit_of, RivalOf, rivals, verdict}
use Rattle.laws.specs.general.Cases.{lt_or_le, eq_or_ne}
use Rattle.laws.specs.general.Members.{of_one, ordered_alone, ordered_few, ordered_another}
use Rattle.laws.specs.report.Neighbours.{axis_same, distance_none, none_distance, neighbour_one, one_neighbour}
use Rattle.laws.specs.report.Records.{rivals_rival, rival_rivals, rivals_in_order}
use Rattle.laws.specs.report.Windows.{Earlier, earlier_not_self}

-- 0: the reference
pub verdict_reference : (a : Stack) (q : Terms) → verdict a q a.reference ≡ 0
unfolding verdict
verdict_reference a q = simp (eq-eqb a.reference a.reference refl)

-- how many pixels the step of frame k compares
abbrev step_compares : Stack → ℕ → ℕ
step_compares a k = (frame_counts a k (step_of a k)).compared

-- another frame's verdict, by that and by the number of its rivals
pub verdict_other : (a : Stack) (q : Terms) (k : ℕ) → (k ≡ a.reference → ⊥)
    → verdict a q k ≡ cond (ltb (frame_counts a k (step_of a k)).compared q.floor) 1 (cond (eqb (length (rivals a q k)) 1) 2 3)
unfolding verdict
verdict_other a q k apart = simp (ne_eqb k a.reference apart)

-- a step that compares at least the floor is a rival
pub step_rival : (a : Stack) (q : Terms) (k : ℕ) → q.floor ≤ (frame_counts a k (step_of a k)).compared → RivalOf a q k (step_of a k)
unfolding limit_of
step_rival a q k l = record {
  across = let z = (step_of a k).x in omega (arith, axis_same z z refl);
  down = let z = (step_of a k).y in omega (arith, axis_same z z refl);
  compares = l;
  disagrees = omega arith;
  no_neighbour_shift = λ n. n.other refl;
}

-- the three ways of a frame that is not the reference, each with its verdict: the step compares too little, or it is a rival, with or
-- without others
data Way (a : Stack) (q : Terms) (k : ℕ) : Type 0 where
  weak : step_compares a k < q.floor → verdict a q k ≡ 1 → Way a q k
  lone : q.floor ≤ step_compares a k → length (rivals a q k) ≡ 1 → verdict a q k ≡ 2 → Way a q k
  many : q.floor ≤ step_compares a k → (length (rivals a q k) ≡ 1 → ⊥) → verdict a q k ≡ 3 → Way a q k

module _ (a : Stack) (q : Terms) (k : ℕ) (ne : k ≡ a.reference → ⊥) where
  -- one of the three
  way : Way a q k
  way =
      let c : ℕ = step_compares a k in
      let n : ℕ = length (rivals a q k) in
      let other = verdict_other a q k ne in
      ⊎_elim
      (λ (l : c < q.floor). weak l (simp (other, lt-ltb c q.floor l)))
      (λ (l : q.floor ≤ c).
      ⊎_elim
      (λ (e : n ≡ 1). lone l e (simp (other, le-ltb c q.floor l, eq-eqb n 1 e)))
      (λ (e : n ≡ 1 → ⊥). many l e (simp (other, le-ltb c q.floor l, ne_eqb n 1 e)))
      (eq_or_ne n 1))
      (lt_or_le c q.floor)

  -- a rival is one of the rivals
  listed : (s : Shift) → RivalOf a q k s → Memᴰ s (rivals a q k)
  listed = rival_rivals a q k ne

  -- the verdict is 1, 2 or 3
  pub verdict_cases : (verdict a q k ≡ 1) ⊎ (verdict a q k ≡ 2) ⊎ (verdict a q k ≡ 3)
  verdict_cases = elim way [ weak l v ↦ inl v | lone l n v ↦ inr (inl v) | many l n v ↦ inr (inr v) ]

  -- 1: the step compares fewer than the floor, so that it is no rival
  pub weak_means : (verdict a q k ≡ 1) ↔ ((frame_counts a k (step_of a k)).compared < q.floor)
  weak_means = elim way [
    | weak l v ↦ (λ e. l, λ h. v)
    | lone l n v ↦ (λ e. omega arith, λ h. omega arith)
    | many l n v ↦ (λ e. omega arith, λ h. omega arith)
  ]

  pub weak_no_rival : (verdict a q k ≡ 1) ↔ (RivalOf a q k (step_of a k) → ⊥)
  weak_no_rival = elim way [
    | weak l v ↦ (λ e r. omega arith, λ h. v)
    | lone l n v ↦ (λ e. omega arith, λ h. absurd (h (step_rival a q k l)))
    | many l n v ↦ (λ e. omega arith, λ h. absurd (h (step_rival a q k l)))
  ]

  -- 2: the step is a rival and there is no other
  pub alone_means : (verdict a q k ≡ 2) ↔ (RivalOf a q k (step_of a k) × ((s : Shift) → RivalOf a q k s → s ≡ step_of a k))
  alone_means = elim way [
    | weak l v ↦ (λ e. absurd (omega arith), λ h. omega (arith, h.0.compares))
    | lone l n v ↦ let r = step_rival a q k l in (λ e. (r, λ s h. of_one (rivals a q k) n (listed s h) (listed (step_of a k) r)), λ h. v)
    | many l n v ↦ (
      λ e. absurd (omega arith),
      λ h. absurd (n (ordered_alone Earlier earlier_not_self (rivals_in_order a q k) (listed (step_of a k) h.0) (λ s m. h.1 s (rivals_rival a q k s m).1))),
    )
  ]

  -- 3: the step is a rival and so is another shift
  pub contested_means : (verdict a q k ≡ 3) ↔ (RivalOf a q k (step_of a k) × ((s : Shift) × RivalOf a q k s × (s ≡ step_of a k → ⊥)))
  contested_means = elim way [
    | weak l v ↦ (λ e. absurd (omega arith), λ h. omega (arith, h.0.compares))
    | lone l n v ↦ (λ e. absurd (omega arith), λ h. absurd (h.1.2 (of_one (rivals a q k) n (listed h.1.0 h.1.1) (listed (step_of a k) h.0))))
    | many l n v ↦
        let r = step_rival a q k l in
        let t = ordered_another Earlier earlier_not_self (rivals_in_order a q k) (listed (step_of a k) r) n in
        (λ e. (r, (t.0, (rivals_rival a q k t.0 t.1).1, t.2)), λ h. v)
  ]

-- ---- 2 as a planner reads it

-- a shift compares fewer pixels than the floor or disagrees in more than the step and the margin
abbrev pub Falls : Stack → Terms → ℕ → Shift → Type 0
Falls a q k s = ((frame_counts a k s).compared < q.floor) ⊎ ((frame_counts a k (step_of a k)).disagreeing + q.margin < (frame_counts a k s).disagreeing)

-- every shift within the reach of the step that lies two or more pixels away from it does
abbrev pub FarFall : Stack → Terms → ℕ → Type 0
FarFall a q k = (s : Shift) → nat_abs (s.x -ℤ (step_of a k).x) ≤ q.reach → nat_abs (s.y -ℤ (step_of a k).y) ≤ q.reach → 2 ≤ distance (step_of a k) s → Falls a q k s

module _ (a : Stack) (q : Terms) (k : ℕ) where
  no_rival_falls : (s : Shift) → (RivalOf a q k s → ⊥) → nat_abs (s.x -ℤ (step_of a k).x) ≤ q.reach → nat_abs (s.y -ℤ (step_of a k).y) ≤ q.reach
      → 2 ≤ distance (step_of a k) s → Falls a q k s
  unfolding limit_of
  no_rival_falls s never across down two =
      let n = frame_counts a k s in
      let most : ℕ = (frame_counts a k (step_of a k)).disagreeing + q.margin in
      ⊎_elim
      (λ (l : n.compared < q.floor). inl l)
      (λ (l : q.floor ≤ n.compared).
      ⊎_elim
      (λ (m : most < n.disagreeing). inr m)
      (λ (m : n.disagreeing ≤ most).
      absurd (never (record { across = across; down = down; compares = l; disagrees = m; no_neighbour_shift = λ next. omega (arith, two, neighbour_one (step_of a k) s next) })))
      (lt_or_le most n.disagreeing))
      (lt_or_le n.compared q.floor)

  rival_not_falls : (s : Shift) → RivalOf a q k s → Falls a q k s → ⊥
  unfolding limit_of
  rival_not_falls s r = ⊎_elim (λ l. omega (arith, l, r.compares)) (λ l. omega (arith, l, r.disagrees))

  far_fall_only : FarFall a q k → (s : Shift) → RivalOf a q k s → s ≡ step_of a k
  far_fall_only far s r =
      let d : ℕ = distance (step_of a k) s in
      ⊎_elim
      (λ (l : d < 2).
      ⊎_elim
      (λ (m : d < 1). none_distance (step_of a k) s (omega arith))
      (λ (m : 1 ≤ d). absurd (r.no_neighbour_shift (one_neighbour (step_of a k) s (omega arith))))
      (lt_or_le d 1))
      (λ (l : 2 ≤ d). absurd (rival_not_falls s r (far s r.across r.down l)))
      (lt_or_le d 2)

  -- the step compares enough, and every shift that far away falls
  pub alone_says : (k ≡ a.reference → ⊥) → (verdict a q k ≡ 2) ↔ ((q.floor ≤ (frame_counts a k (step_of a k)).compared) × FarFall a q k)
  alone_says ne =
      let means = alone_means a q k ne in (
        λ v.
            let t = means.0 v in
            (t.0.compares, λ s x y two. no_rival_falls s (λ r. omega (arith, two, distance_none (step_of a k) s (t.1 s r))) x y two),
        λ h. means.1 (step_rival a q k h.0, far_fall_only h.1),
      )

-- ---- where the reach is 0 or 1 only the step can be a rival, and no frame is contested

module _ (a : Stack) (q : Terms) (k : ℕ) (near : q.reach ≤ 1) where
  pub near_only : (s : Shift) → RivalOf a q k s → s ≡ step_of a k
  unfolding distance
  near_only = far_fall_only a q k (λ s x y two. absurd (omega (arith, two, x, y)))

  pub near_few : length (rivals a q k) ≤ 1
  near_few = ordered_few Earlier earlier_not_self (rivals_in_order a q k) (λ s m. near_only s (rivals_rival a q k s m).1)

  pub near_not_contested : verdict a q k ≡ 3 → ⊥
  near_not_contested v = ⊎_elim
      (λ (e : k ≡ a.reference). omega (arith, v, ap (verdict a q) e, verdict_reference a q))
      (λ (ne : k ≡ a.reference → ⊥). let t = ((contested_means a q k ne).0 v).1 in t.2 (near_only t.0 t.1))
      (eq_or_ne k a.reference)
