-- The checks of a header that is well formed, by the facts that decide them: `.._stop` refuses, `all_pass` accepts.
use Rattle.std.specs.Prelude.{◌≡◌, ℕ, ◌*◌, ◌≤◌, ◌<◌, max}
use Rattle.std.proofs.Common.{ap, lt-ltb, le-ltb, eq-eqb, ne_eqb}
use Rattle.std.proofs.Math.Bool.{not}
use mathlib.Core.List.{[], ◌∷◌}
use Rattle.definitions.specs.Refusals.{Answer, accepted, refused, answer}
use Rattle.laws.specs.checks.Checks.{stop, skip, done, longest_stop, longest_skip}
use Rattle.pgm_format.specs.Pgm.{Sizes, other_highest, samples_short, sizes_checks}

module _ {A : Type 0} (a : A) (s : Sizes) (left : ℕ) where
  pub over_stop : 8192 < max s.width s.height → refused 1 [] ≡ answer (sizes_checks s left) a
  unfolding sizes_checks
  over_stop m = longest_stop a s.width s.height _ m

  module _ (m : max s.width s.height ≤ 8192) where
    -- the sides pass
    inside : {r : Answer A} → r ≡ answer (other_highest s.highest ∷ samples_short left (s.width * s.height) ∷ []) a → r ≡ answer (sizes_checks s left) a
    unfolding sizes_checks
    inside q = longest_skip a s.width s.height _ m q

    pub highest_stop : (s.highest ≡ 255 → ⊥) → refused 14 [] ≡ answer (sizes_checks s left) a
    unfolding other_highest
    highest_stop e = inside (stop a (other_highest s.highest) (samples_short left (s.width * s.height) ∷ []) (ap not (ne_eqb s.highest 255 e)))

    module _ (e : s.highest ≡ 255) where
      -- so does the highest value
      past : {r : Answer A} → r ≡ answer (samples_short left (s.width * s.height) ∷ []) a → r ≡ answer (sizes_checks s left) a
      unfolding other_highest
      past q = inside (skip a (other_highest s.highest) (samples_short left (s.width * s.height) ∷ []) (ap not (eq-eqb s.highest 255 e)) q)

      pub short_stop : left < s.width * s.height → refused 15 [] ≡ answer (sizes_checks s left) a
      unfolding samples_short
      short_stop l = past (stop a (samples_short left (s.width * s.height)) [] (lt-ltb left (s.width * s.height) l))

      pub all_pass : s.width * s.height ≤ left → accepted a ≡ answer (sizes_checks s left) a
      unfolding samples_short
      all_pass l = past (skip a (samples_short left (s.width * s.height)) [] (le-ltb left (s.width * s.height) l) (done a))
