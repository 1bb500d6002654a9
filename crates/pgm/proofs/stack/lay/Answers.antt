use mathlib.Core.Path.{◌≡◌}
use Prim.Native.Nat.{◌+◌, ◌≤◌}
use native.Mathlib.Omega.{arith}
use lib.ListN.{length}
use Rattle.pgm_format.specs.Pgm.{samples_of}
use Rattle.pgm.specs.Answers.{image_in}
use Rattle.pgm.proofs.Laying.{none_laid, kept_widths, one_passes, one_fits, one_laid, all_laid}
use Rattle.pgm.proofs.stack.lay.Goals.{After-samples-part}
use Rattle.pgm.proofs.stack.lay.Goals as goal

-- the samples of this turn's image, and their room
part-is : (c : After-samples-part) → c.samples-part.result.now ≡ samples_of c.args.file.now (image_in c.image_at-image.result)
unfolding samples_of
part-is c = c.samples-part.ensures

fits : (c : After-samples-part) → let l = c.loop-k in l.from + length c.samples-part.result.now ≤ length l.samples
fits c = let d = c.loop-k.invariant in one_fits d (omega (arith, kept_widths d)) c.image_at-image.ensures (part-is c)

pub loop-k-init : goal.loop-k-init
loop-k-init c = let p = c.requires in none_laid (omega arith) (omega arith) p.0 p.2 p.1

pub image_at-image-requires : goal.image_at-image-requires
image_at-image-requires c = one_passes c.loop-k.invariant (omega (arith, kept_widths c.loop-k.invariant))

pub put_samples-requires : goal.put_samples-requires
put_samples-requires c = fits (goal.at.put_samples-requires c).After-samples-part

pub loop-k-preserved : goal.loop-k-preserved
loop-k-preserved c =
    let l = c.loop-k in
    one_laid l.invariant (omega (arith, kept_widths l.invariant)) c.image_at-image.ensures (part-is (goal.at.loop-k-preserved c).After-samples-part) c.put_samples.ensures

pub returns : goal.returns
returns c =
    let r = all_laid c.loop-k.invariant (omega (arith, kept_widths c.loop-k.invariant)) in
    record { widths = r.0; heights = r.1.0; samples = r.1.1 }
