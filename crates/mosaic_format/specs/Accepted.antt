-- When a call is accepted, and the part of a plane in words: the checks by the facts that decide them.
use Rattle.std.specs.Prelude.{ℕ, ◌+◌, ◌*◌, ◌≤◌, ◌<◌, ◌≡◌, Bool, true, false, ◌||◌, ltb, length, take, drop}
use Rattle.std.proofs.Math.Path.{sym}
use Rattle.std.proofs.Common.{ap, ◌∙◌}
use mathlib.Core.List.{List, []}
use borrow.Author.Tests.{lt-ltb, le-ltb, ltb-false, eqb-true, not-false}
use Rattle.definitions.specs.Refusals.{accepted, answer, side_over, either_over, wrong_length}
use Rattle.laws.specs.general.Cases.{cond_true, cond_false}
use Rattle.laws.specs.checks.Checks.{passed, side_skip, length_skip, done}
use Rattle.mosaic_format.specs.Mosaic.{mosaic_checks, Plane, part_of}

-- ---- taking apart and putting together

-- what both calls ask for
pub record InOrder (w h mosaic planes : ℕ) : Type 0 where
  pub wide : w ≤ 8192
  pub high : h ≤ 8192
  pub mosaic_long : mosaic ≡ w * h
  pub planes_long : planes ≡ w * h

-- they are accepted exactly then
module _ {w h mosaic planes : ℕ} where
  pub accepted_in_order : accepted (tt {0}) ≡ answer (mosaic_checks w h mosaic planes) tt → InOrder w h mosaic planes
  unfolding mosaic_checks side_over wrong_length
  accepted_in_order e =
      let a = passed (tt {0}) _ _ (sym e) in
      let b = passed (tt {0}) _ _ a.1 in
      let c = passed (tt {0}) _ _ b.1 in
      let d = passed (tt {0}) _ _ c.1 in
      record {
        wide = ltb-false 8192 w a.0;
        high = ltb-false 8192 h b.0;
        mosaic_long = eqb-true mosaic (w * h) (not-false _ c.0);
        planes_long = eqb-true planes (w * h) (not-false _ d.0);
      }

  pub in_order_accepted : InOrder w h mosaic planes → accepted (tt {0}) ≡ answer (mosaic_checks w h mosaic planes) tt
  unfolding mosaic_checks
  in_order_accepted o =
      side_skip tt _ _ o.wide (side_skip tt _ _ o.high (length_skip tt _ _ _ o.mosaic_long (length_skip tt _ _ _ o.planes_long (done tt))))

-- ---- a plane's part

module _ (p : Plane) (l : List ℕ) where
  abbrev outside : Bool
  outside = ltb (length l) (p.start + p.width * p.height)

  abbrev there : List ℕ
  there = take (p.width * p.height) (drop p.start l)

  pub part_over : either_over p.width p.height ≡ true → [] ≡ part_of p l
  unfolding part_of
  part_over e = sym (cond_true [] there (ap (λ (t : Bool). t || outside) e))

  pub part_outside : either_over p.width p.height ≡ false → length l < p.start + p.width * p.height → [] ≡ part_of p l
  unfolding part_of
  part_outside e h = sym (cond_true [] there (ap (λ (t : Bool). t || outside) e ∙ lt-ltb (length l) (p.start + p.width * p.height) h))

  pub part_inside : either_over p.width p.height ≡ false → p.start + p.width * p.height ≤ length l → there ≡ part_of p l
  unfolding part_of
  part_inside e h = sym (cond_false [] there (ap (λ (t : Bool). t || outside) e ∙ le-ltb (length l) (p.start + p.width * p.height) h))
