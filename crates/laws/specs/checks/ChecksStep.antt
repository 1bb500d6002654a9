-- The checks of a step by the fact that a branch gives, as in `Checks.antt`, and what an accepted step was given.
use Rattle.std.specs.Prelude.{◌≡◌, true, false, List, [], ◌∷◌, ℕ, ◌*◌, ◌≤◌}
use Rattle.std.proofs.Common.{sym, ltb-false, eqb-true}
use Rattle.std.proofs.lemmas.Bool.{not-false}
use Rattle.definitions.specs.Align.{step_bytes, step_words}
use Rattle.definitions.specs.Refusals.{Check, Answer, accepted, refused, answer, unequal, side_over, wrong_length, percentile_over, sizes_differ, scratch_short, step_checks}
use Rattle.laws.specs.checks.Checks.{stop, skip, passed}

module _ {A : Type 0} (a : A) (w h w' h' : ℕ) (l : List Check) where
  pub sizes_stop : unequal w h w' h' ≡ true → refused 4 (w ∷ h ∷ w' ∷ h' ∷ []) ≡ answer (sizes_differ w h w' h' ∷ l) a
  unfolding sizes_differ
  sizes_stop e = stop a (sizes_differ w h w' h') l e

  pub sizes_skip : {r : Answer A} → unequal w h w' h' ≡ false → r ≡ answer l a → r ≡ answer (sizes_differ w h w' h' ∷ l) a
  unfolding sizes_differ
  sizes_skip e q = skip a (sizes_differ w h w' h') l e q

pub record StepInOrder (w h p p' bits reference target bytes words : ℕ) : Type 0 where
  pub wide : w ≤ 8192
  pub high : h ≤ 8192
  pub first : p ≤ 100
  pub second : p' ≤ 100
  pub reference_whole : reference ≡ w * h
  pub target_whole : target ≡ w * h
  pub room : step_bytes w h bits ≤ bytes
  pub space : step_words w h ≤ words

pub step_in_order : (w h p w' h' p' bits reference target bytes words : ℕ)
    → accepted (tt {0}) ≡ answer (step_checks w h p w' h' p' bits reference target bytes words) tt
    → StepInOrder w h p p' bits reference target bytes words
unfolding step_checks side_over wrong_length percentile_over scratch_short
step_in_order w h p w' h' p' bits reference target bytes words e =
    let a = passed (tt {0}) _ _ (sym e) in
    let b = passed (tt {0}) _ _ a.1 in
    let c = passed (tt {0}) _ _ b.1 in
    let d = passed (tt {0}) _ _ c.1 in
    let f = passed (tt {0}) _ _ d.1 in
    let s = passed (tt {0}) _ _ f.1 in
    let q = passed (tt {0}) _ _ s.1 in
    let r = passed (tt {0}) _ _ q.1 in
    let t = passed (tt {0}) _ _ r.1 in
    let u = passed (tt {0}) _ _ t.1 in
    let v = passed (tt {0}) _ _ u.1 in
    record {
      wide = ltb-false 8192 w a.0;
      high = ltb-false 8192 h b.0;
      first = ltb-false 100 p f.0;
      second = ltb-false 100 p' s.0;
      reference_whole = eqb-true reference (w * h) (not-false _ r.0);
      target_whole = eqb-true target (w * h) (not-false _ t.0);
      room = ltb-false bytes (step_bytes w h bits) u.0;
      space = ltb-false words (step_words w h) v.0;
    }
