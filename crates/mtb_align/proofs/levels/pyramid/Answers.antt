use mathlib.Core.Path.{◌≡◌, ap, ◌∙◌}
use mathlib.Core.List.{List, ◌++◌}
use Prim.Native.Nat.{ℕ, ◌≤◌}
use native.Mathlib.Omega.{arith}
use lib.ListN.{length, drop}
use lib.Seq.{sets}
use Rattle.definitions.specs.Shrink.{Shrink, halved_samples, pyramid}
use Rattle.definitions.specs.Refusals.{accepted, answer, pyramid_checks}
use Rattle.laws.specs.checks.Checks.{refuses, accepts}
use Rattle.laws.specs.images.Levels.{levels_most}
use Rattle.laws.specs.images.Pyramids.{pyramid_length, InOrder, in_order}
use Rattle.laws.specs.general.Writes.{sets_front}
use Rattle.mtb_align.proofs.levels.pyramid.Goals.{In_ok-pyramid_fits}
use Rattle.mtb_align.proofs.Answered.{passed_on}
use Rattle.mtb_align.proofs.levels.pyramid.Goals as goal

-- the halved levels stand at the scratch's front
front : (mode : Shrink) (w h : ℕ) (s scratch : List ℕ) {new : List ℕ} {n m : ℕ} → new ≡ sets scratch 0 (pyramid mode w h s n) → n ≡ m → halved_samples w h m ≤ length scratch
    → new ≡ pyramid mode w h s m ++ drop (halved_samples w h m) scratch
front mode w h s scratch {new} {n} {m} e d r =
    let l = pyramid_length mode w h s m in
    e ∙ ap (λ (k : ℕ). sets scratch 0 (pyramid mode w h s k)) d
    ∙ sets_front scratch (pyramid mode w h s m) (omega arith)
    ∙ ap (λ (k : ℕ). pyramid mode w h s m ++ drop k scratch) l

-- past the checks
passes : (c : In_ok-pyramid_fits)
    → let a = c.args in
    accepted (tt {0}) ≡ answer (pyramid_checks a.width a.height (length a.samples.now) a.bits (length a.scratch.now)) tt
passes c = c.in_ok-pyramid_fits.ensures

held : (c : In_ok-pyramid_fits)
    → let a = c.args in
    InOrder a.width a.height (length a.samples.now) a.bits (length a.scratch.now)
held c = in_order _ _ _ _ _ (passes c)

pub invariant_of-sides : goal.invariant_of-sides
invariant_of-sides c = let f = held (goal.at.invariant_of-sides c).In_ok-pyramid_fits in record { wide = f.wide; high = f.high }

pub invariant_of-frame : goal.invariant_of-frame
invariant_of-frame c = let f = held (goal.at.invariant_of-frame c).In_ok-pyramid_fits in record { wide = f.wide; high = f.high; whole = f.whole }

pub fill-requires : goal.fill-requires
fill-requires c =
    let f = held (goal.at.fill-requires c).In_ok-pyramid_fits in
    let a = c.args in
    let n = c.shrinks-count.ensures in
    (omega (arith, n, levels_most a.width a.height a.bits f.wide f.high), omega (arith, f.room, ap (halved_samples a.width a.height) n))

pub returns-clause-scratch : goal.returns-clause-scratch
returns-clause-scratch c =
    let d = (goal.at.returns-clause-scratch c).In_ok-pyramid_fits in
    (accepts _ _ _ (passes d) (front _ _ _ _ _ c.fill.ensures c.shrinks-count.ensures (held d).room)).1

pub returns-in_err-pyramid_fits : goal.returns-in_err-pyramid_fits
returns-in_err-pyramid_fits c =
    let e = c.in_err-pyramid_fits.ensures in
    record { answer = passed_on (λ done. done) _ _ c.from_residual.ensures ∙ e; scratch = (refuses _ _ _ e).1 }
