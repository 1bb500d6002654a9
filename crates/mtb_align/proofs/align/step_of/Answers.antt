use mathlib.Core.Path.{◌≡◌, ap, ◌∙◌}
use Prim.Native.Nat.{ℕ, ◌-◌, ◌*◌, ◌≤◌}
use native.Mathlib.Omega.{arith}
use lib.ListN.{length}
use lib.Seq.{sets, length-sets}
use Rattle.definitions.specs.Shrink.{halved_samples, pyramid}
use Rattle.definitions.specs.Align.{Options, Exposure, Stepped, levels, cost_of, stepped_at, step, comparisons, stepped, step_bytes}
use Rattle.laws.specs.images.Levels.{levels_most}
use Rattle.laws.specs.search.Free.{free_wider}
use Rattle.laws.specs.search.LevelSteps.{Both, both_stored}
use Rattle.mtb_align.specs.Answers.{mode_of}
use Rattle.mtb_align.specs.Search.{options_in}
use Rattle.mtb_align.proofs.align.step_of.Goals.{After-fill-2}
use Rattle.mtb_align.proofs.align.step_of.Goals as goal

-- the walk from level 0 is the step
whole : (o : Options) (w h : ℕ) (r t : Exposure) {last : ℕ} {s : Stepped} → last ≡ levels w h o.bits → s ≡ stepped_at (cost_of o w h r t) 0 (last - 0)
    → s ≡ stepped o w h r t
unfolding step comparisons stepped stepped_at
whole o w h r t {last} e p = let z : last - 0 ≡ levels w h o.bits = omega arith in p ∙ ap (stepped_at (cost_of o w h r t) 0) z

-- what the scratch has room for
need_is : (w h bits : ℕ) {last : ℕ} → last ≡ levels w h bits → 2 * halved_samples w h last ≡ step_bytes w h bits
unfolding step_bytes
need_is w h bits e = ap (λ (n : ℕ). 2 * halved_samples w h n) e

few : (w h bits : ℕ) {last : ℕ} → w ≤ 8192 → h ≤ 8192 → last ≡ levels w h bits → last ≤ 12
few w h bits a b e = omega (arith, e, levels_most w h bits a b)

-- both pyramids stand in the scratch
both : (c : After-fill-2)
    → let x = c.args in
    let f = x.pair.now in
    Both (mode_of f.options.shrink) f.width f.height c.shrinks-last.result f.reference.now f.target.now x.bytes.now c.fill-2.new.scratch
both c =
    let x = c.args in
    let f = x.pair.now in
    let u = c.reference_frame-reference.ensures in
    let v = c.target_frame-target.ensures in
    let m = c.shrinks-last.result in
    let mode = mode_of f.options.shrink in
    let room : 2 * halved_samples f.width f.height m ≤ length x.bytes.now = omega (arith, need_is f.width f.height f.options.bits c.shrinks-last.ensures, c.requires.0) in
    both_stored mode f.width f.height m f.reference.now f.target.now x.bytes.now room (rw (u.0, u.1, u.2) at c.fill.ensures)
    ((rw (v.0, v.1, v.2) at c.fill-2.ensures) ∙ ap (λ (at : ℕ). sets c.fill.new.scratch at (pyramid mode f.width f.height f.target.now m)) c.halved_samples-half.ensures)

pub halved_samples-half-requires : goal.halved_samples-half-requires
halved_samples-half-requires c = let p = c.args.pair.now in few _ _ _ p.wide p.high c.shrinks-last.ensures

pub fill-requires : goal.fill-requires
fill-requires c =
    let p = c.args.pair.now in
    let u = c.reference_frame-reference.ensures in
    rw (u.1, u.2) (few _ _ _ p.wide p.high c.shrinks-last.ensures, omega (arith, need_is _ _ _ c.shrinks-last.ensures, c.requires.0))

pub fill-requires-2 : goal.fill-requires-2
fill-requires-2 c =
    let x = c.args in
    let f = x.pair.now in
    let r = c.reference_frame-reference.result in
    let v = c.target_frame-target.ensures in
    rw (v.1, v.2) (
      few _ _ _ f.wide f.high c.shrinks-last.ensures,
      omega (
        arith,
        need_is _ _ _ c.shrinks-last.ensures,
        c.requires.0,
        c.halved_samples-half.ensures,
        ap length c.fill.ensures,
        length-sets x.bytes.now 0 (pyramid (mode_of f.options.shrink) r.width r.height r.samples.now c.shrinks-last.result),
      ),
    )

pub step_at-requires-clause-levelled : goal.step_at-requires-clause-levelled
step_at-requires-clause-levelled c =
    let p = c.args.pair.now in
    let b = both (goal.at.step_at-requires-clause-levelled c).After-fill-2 in
    record {
      maps = c.requires.1;
      few = few _ _ _ p.wide p.high c.shrinks-last.ensures;
      room = omega (arith, need_is _ _ _ c.shrinks-last.ensures, c.requires.0, b.free.long);
      reference_halved = b.first;
      target_halved = b.second;
    }

pub returns-clause-result_value : goal.returns-clause-result_value
returns-clause-result_value c = whole (options_in c.args.pair.now.options) _ _ _ _ c.shrinks-last.ensures c.step_at.ensures.result_value

pub returns-clause-free_up_to : goal.returns-clause-free_up_to
returns-clause-free_up_to c =
    let f = c.args.pair.now in
    free_wider (omega (arith, need_is f.width f.height f.options.bits c.shrinks-last.ensures)) (both (goal.at.returns-clause-free_up_to c).After-fill-2).free
