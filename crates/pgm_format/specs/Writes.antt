-- What the writer answers of a frame and a buffer, in one table: `writes`.
use Rattle.std.specs.Prelude.{ℕ, ◌*◌, ◌<◌, ◌≤◌, max, ◌≡◌, refl, ◌↔◌, ◌⊎◌}
use Rattle.std.proofs.Common.{arith, ap, subst, ◌∙◌, inl, inr, lt-ltb, le-ltb}
use Rattle.std.proofs.Math.Path.{sym}
use mathlib.Core.List.{List, [], ◌∷◌}
use Rattle.std.proofs.Math.Logic.{⊎_elim}
use Rattle.std.proofs.Math.ListN.{length}
use Rattle.definitions.specs.Refusals.{Answer, accepted, refused, answer, wrong_length}
use Rattle.laws.specs.checks.Checks.{stop, skip, done, longest_stop, longest_skip, length_stop, length_skip}
use Rattle.laws.specs.general.Cases.{lt_or_le, eq_or_ne}
use Rattle.pgm_format.specs.Pgm.{Frame, Within, pgm, room_short, write_checks, write}

-- ---- the checks by the facts that decide them: `.._stop` refuses, `all_pass` accepts

module _ {A : Type 0} (a : A) (f : Frame) (room : ℕ) where
  pub over_stop : 8192 < max f.width f.height → refused 1 [] ≡ answer (write_checks f room) a
  unfolding write_checks
  over_stop m = longest_stop a f.width f.height _ m

  module _ (m : max f.width f.height ≤ 8192) where
    -- the sides pass
    inside : {r : Answer A} → r ≡ answer (wrong_length (length f.samples) (f.width * f.height) ∷ room_short room (length (pgm f)) ∷ []) a → r ≡ answer (write_checks f room) a
    unfolding write_checks
    inside q = longest_skip a f.width f.height _ m q

    pub count_stop : (length f.samples ≡ f.width * f.height → ⊥) → refused 2 [] ≡ answer (write_checks f room) a
    count_stop u = inside (length_stop a (length f.samples) (f.width * f.height) _ u)

    module _ (e : length f.samples ≡ f.width * f.height) where
      pub room_stop : room < length (pgm f) → refused 2 [] ≡ answer (write_checks f room) a
      unfolding room_short
      room_stop h = inside (length_skip a (length f.samples) (f.width * f.height) _ e (stop a (room_short room (length (pgm f))) [] (lt-ltb room (length (pgm f)) h)))

      pub all_pass : length (pgm f) ≤ room → accepted a ≡ answer (write_checks f room) a
      unfolding room_short
      all_pass h = inside (length_skip a (length f.samples) (f.width * f.height) _ e (skip a (room_short room (length (pgm f))) [] (le-ltb room (length (pgm f)) h) (done a)))

-- ---- the table

module _ (f : Frame) (room : ℕ) where
  -- a side over 8,192
  abbrev SideOver : Type 0
  SideOver = (8192 < f.width) ⊎ (8192 < f.height)

  -- a wrong sample length, or a buffer that is shorter than the file
  abbrev LengthWrong : Type 0
  LengthWrong = (f.width ≤ 8192) × (f.height ≤ 8192) × ((length f.samples ≡ f.width * f.height → ⊥) ⊎ (room < length (pgm f)))

  pub record Writes : Type 0 where
    -- accepted exactly if the frame is within the limits and the buffer has room for its file, whose length is the answer
    pub taken : (n : ℕ) → (write f room ≡ accepted n) ↔ (Within f × (length (pgm f) ≤ room) × (n ≡ length (pgm f)))
    -- 1: a side over 8,192
    pub side : (write f room ≡ refused 1 []) ↔ SideOver
    -- 2: "a shorter one, or a wrong sample length, is 2, after 1"
    pub wrong : (write f room ≡ refused 2 []) ↔ LengthWrong
    -- there is no other refusal
    pub only : {n : ℕ} {v : List ℕ} → write f room ≡ refused n v → (v ≡ []) × ((n ≡ 1) ⊎ (n ≡ 2))

  side_refused : SideOver → write f room ≡ refused 1 []
  unfolding write
  side_refused = ⊎_elim (λ (h : 8192 < f.width). sym (over_stop _ f room (omega arith))) (λ (h : 8192 < f.height). sym (over_stop _ f room (omega arith)))

  within_taken : Within f → length (pgm f) ≤ room → write f room ≡ accepted (length (pgm f))
  unfolding write
  within_taken k h = sym (all_pass _ f room (omega (arith, k.narrow, k.low)) k.counted h)

  wrong_refused : LengthWrong → write f room ≡ refused 2 []
  unfolding write
  wrong_refused p = ⊎_elim
      (λ (u : length f.samples ≡ f.width * f.height → ⊥). sym (count_stop _ f room (omega (arith, p.0, p.1)) u))
      (λ (h : room < length (pgm f)). ⊎_elim
      (λ (e : length f.samples ≡ f.width * f.height). sym (room_stop _ f room (omega (arith, p.0, p.1)) e h))
      (λ (u : length f.samples ≡ f.width * f.height → ⊥). sym (count_stop _ f room (omega (arith, p.0, p.1)) u))
      (eq_or_ne (length f.samples) (f.width * f.height)))
      p.2

  -- what an answer means
  abbrev Means : Answer ℕ → Type 0
  Means (accepted n) = Within f × (length (pgm f) ≤ room) × (n ≡ length (pgm f))
  Means (refused n v) = (v ≡ []) × (((n ≡ 1) × SideOver) ⊎ ((n ≡ 2) × LengthWrong))

  over_means : SideOver → Means (write f room)
  over_means o = subst Means (sym (side_refused o)) (refl, inl (refl, o))

  wrong_means : LengthWrong → Means (write f room)
  wrong_means p = subst Means (sym (wrong_refused p)) (refl, inr (refl, p))

  means : Means (write f room)
  means = ⊎_elim
      (λ (w : 8192 < f.width). over_means (inl w))
      (λ (w : f.width ≤ 8192). ⊎_elim
      (λ (h : 8192 < f.height). over_means (inr h))
      (λ (h : f.height ≤ 8192). ⊎_elim
      (λ (e : length f.samples ≡ f.width * f.height). ⊎_elim
      (λ (r : room < length (pgm f)). wrong_means (w, h, inr r))
      (λ (r : length (pgm f) ≤ room). let k : Within f = record { narrow = w; low = h; counted = e } in subst Means (sym (within_taken k r)) (k, r, refl))
      (lt_or_le room (length (pgm f))))
      (λ (u : length f.samples ≡ f.width * f.height → ⊥). wrong_means (w, h, inl u))
      (eq_or_ne (length f.samples) (f.width * f.height)))
      (lt_or_le 8192 f.height))
      (lt_or_le 8192 f.width)

  pub writes : Writes
  writes = record {
    taken = λ n. (λ e. subst Means e means, λ p. within_taken p.0 p.1 ∙ ap accepted (sym p.2));
    side = (λ e. ⊎_elim (λ p. p.1) (λ p. absurd (omega (arith, p.0))) (subst Means e means).1, side_refused);
    wrong = (λ e. ⊎_elim (λ p. absurd (omega (arith, p.0))) (λ p. p.1) (subst Means e means).1, wrong_refused);
    only = λ e. let m = subst Means e means in (m.0, ⊎_elim (λ p. inl p.0) (λ p. inr p.0) m.1);
  }
