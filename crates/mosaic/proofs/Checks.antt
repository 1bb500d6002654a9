-- What is known once a call's checks have answered: with any value they answer alike, what they let pass, and what holds after the call.
use Rattle.std.specs.Prelude.{◌≡◌, ℕ, ◌≤◌, ◌*◌, true, false, List, [], ◌∷◌}
use Rattle.std.proofs.Common.{sym, ltb-false}
use Rattle.definitions.specs.Refusals.{Check, accepted, refused, side_over, either_over, wrong_length, answer, after}
use Rattle.laws.specs.checks.Checks.{passed, stop_all, refused_too, accepted_too, after_accepted, after_refused, sides_stop, sides_skip, length_stop, length_skip, done, sides_within}
use Rattle.laws.specs.images.Sizes.{area}
use Rattle.mosaic_format.specs.Mosaic.{planes_checks, mosaic_checks}
use Rattle.mosaic_format.specs.Accepted.{accepted_in_order, in_order_accepted}

module _ {A : Type 0} (l : List Check) (a : A) where
  pub all_pass : accepted tt ≡ answer l (tt {0}) → accepted a ≡ answer l a
  all_pass e = sym (accepted_too (tt {0}) a l (sym e))

  pub one_fails : (k : ℕ) → refused k [] ≡ answer l (tt {0}) → refused k [] ≡ answer l a
  one_fails k e = sym (refused_too (tt {0}) a l (sym e))

  pub written : (b : A) → accepted tt ≡ answer l (tt {0}) → a ≡ after l a b
  written b e = sym (after_accepted (tt {0}) l a b (sym e))

  pub untouched : (b : A) (k : ℕ) → refused k [] ≡ answer l (tt {0}) → b ≡ after l a b
  untouched b k e = sym (after_refused (tt {0}) l a b (sym e))

-- ---- the sides

module _ (w h : ℕ) where
  pub over : either_over w h ≡ true → refused 1 [] ≡ answer (planes_checks w h) (tt {0})
  unfolding planes_checks
  over e = sides_stop tt w h [] e

  pub within : either_over w h ≡ false → accepted tt ≡ answer (planes_checks w h) (tt {0})
  unfolding planes_checks
  within e = sides_skip tt w h [] (sides_within w h e) (done tt)

  module _ (e : accepted tt ≡ answer (planes_checks w h) (tt {0})) where
    pub sides_small : (w ≤ 8192) × (h ≤ 8192)
    unfolding planes_checks side_over
    sides_small =
        let a = passed (tt {0}) _ _ (sym e) in
        let b = passed (tt {0}) _ _ a.1 in
        (ltb-false 8192 w a.0, ltb-false 8192 h b.0)

    pub area_small : w * h ≤ 67108864
    area_small = area w h sides_small.0 sides_small.1

  -- ---- and the lengths behind them

  module _ (mosaic planes : ℕ) where
    pub sides_fail : (k : ℕ) → refused k [] ≡ answer (planes_checks w h) (tt {0}) → refused k [] ≡ answer (mosaic_checks w h mosaic planes) (tt {0})
    unfolding planes_checks mosaic_checks
    sides_fail k e = stop_all tt (planes_checks w h) (wrong_length mosaic (w * h) ∷ wrong_length planes (w * h) ∷ []) (sym e)

    module _ (e : accepted tt ≡ answer (planes_checks w h) (tt {0})) where
      pub lengths_fit : mosaic ≡ w * h → planes ≡ w * h → accepted tt ≡ answer (mosaic_checks w h mosaic planes) (tt {0})
      lengths_fit a b = let s = sides_small e in in_order_accepted (record { wide = s.0; high = s.1; mosaic_long = a; planes_long = b })

      pub mosaic_fails : (mosaic ≡ w * h → ⊥) → refused 2 [] ≡ answer (mosaic_checks w h mosaic planes) (tt {0})
      unfolding mosaic_checks
      mosaic_fails n = sides_skip tt w h _ (sides_small e) (length_stop tt mosaic (w * h) _ n)

      pub planes_fail : mosaic ≡ w * h → (planes ≡ w * h → ⊥) → refused 2 [] ≡ answer (mosaic_checks w h mosaic planes) (tt {0})
      unfolding mosaic_checks
      planes_fail a n = sides_skip tt w h _ (sides_small e) (length_skip tt mosaic (w * h) _ a (length_stop tt planes (w * h) _ n))

pub ruleset sides_checked = (over, within)

pub ruleset laid_out = (all_pass, one_fails, sides_small)

pub ruleset lengths_checked = (sides_fail, area_small, lengths_fit, mosaic_fails, planes_fail)

pub ruleset moved = (accepted_in_order, written, untouched)
