use mathlib.Core.Path.{◌≡◌, refl, sym, ap, ◌∙◌, subst}
use Prim.Native.Nat.{ℕ}
use native.Mathlib.Omega.{arith}
use lib.ListN.{length}
use lib.Seq.{sets}
use Rattle.definitions.specs.Geometry.{listed}
use Rattle.definitions.specs.Align.{Stack, stack_of, shifts, stack_bytes, stack_words}
use Rattle.definitions.specs.Refusals.{FreeUpTo, accepted, answer}
use Rattle.laws.specs.checks.Checks.{refuses, accepts}
use Rattle.laws.specs.checks.ChecksStack.{StackInOrder, stack_in_order}
use Rattle.laws.specs.search.Free.{scratch_free, scratch_kept}
use Rattle.mtb_align.specs.Answers.{refusal}
use Rattle.mtb_align.specs.Asked.{StackAsked, stack_asked, checks_of_stack}
use Rattle.mtb_align.specs.Search.{options_in}
use Rattle.mtb_align.proofs.Walked.{whole}
use Rattle.mtb_align.proofs.align.align_stack.Goals.{Start}
use Rattle.mtb_align.proofs.Answered.{passed_on}
use Rattle.mtb_align.proofs.align.align_stack.Goals as goal

abbrev asked : Start → StackAsked
asked s =
    let a = s.args in
    record {
      widths = a.widths.now;
      heights = a.heights.now;
      percentiles = a.percentiles.now;
      samples = a.samples.now;
      reference = a.reference;
      options = options_in a.options;
      shifts = length a.shifts.now;
      bytes = length a.bytes.now;
      words = length a.words.now;
    }

-- the stack of what is asked, by any number of frames
abbrev sized : StackAsked → ℕ → Stack
sized a n =
    let s = stack_asked a in
    record {
      width = s.width;
      height = s.height;
      frames = n;
      samples = s.samples;
      reference = s.reference;
      percentile = s.percentile;
      options = s.options;
    }

-- past the checks
held : (s : Start)
    → let a = asked s in
    accepted (tt {0}) ≡ answer (checks_of_stack a) tt → StackInOrder (stack_asked a) (length a.heights) (length a.percentiles) a.shifts a.bytes a.words
held s e =
    let a = asked s in
    stack_in_order a.widths a.heights a.percentiles a.samples a.reference a.options _ _ _ e

-- there are as many percentiles as frames
by_percentiles : (s : Start) → let a = asked s in accepted (tt {0}) ≡ answer (checks_of_stack a) tt → sized a (length a.percentiles) ≡ stack_asked a
unfolding stack_of
by_percentiles s e = let a = asked s in ap (sized a) (omega (arith, (held s e).each))

held_too : (s : Start) → let a = asked s in
    accepted (tt {0}) ≡ answer (checks_of_stack a) tt
    → StackInOrder (sized a (length a.percentiles)) (length a.heights) (length a.percentiles) a.shifts a.bytes a.words
held_too s e =
    let a = asked s in
    subst (λ (st : Stack). StackInOrder st (length a.heights) (length a.percentiles) a.shifts a.bytes a.words) (sym (by_percentiles s e)) (held s e)

pub bounds-widths-0 : goal.bounds-widths-0
unfolding stack_of
bounds-widths-0 c = omega (arith, (held (goal.at.bounds-widths-0 c).Start c.in_ok-stack_fits.ensures).small.reference)

pub bounds-heights-0 : goal.bounds-heights-0
unfolding stack_of
bounds-heights-0 c = let q = held (goal.at.bounds-heights-0 c).Start c.in_ok-stack_fits.ensures in omega (arith, q.small.reference, q.same)

pub invariant_of-stack : goal.invariant_of-stack
unfolding stack_of
invariant_of-stack c =
    let q = held_too (goal.at.invariant_of-stack c).Start c.in_ok-stack_fits.ensures in
    record {
      wide = q.small.width;
      high = q.small.height;
      few = q.small.frames;
      inside = q.small.reference;
      cut = q.cut;
      whole = omega (arith, q.whole);
    }

pub walk-requires : goal.walk-requires
unfolding stack_of
walk-requires c =
    let q = held_too (goal.at.walk-requires c).Start c.in_ok-stack_fits.ensures in
    record { room = (q.pixels, q.maps); list = omega (arith, q.list) }

pub returns : goal.returns
unfolding stack_of
returns c =
    let a = asked (goal.at.returns c).Start in
    let l = checks_of_stack a in
    let stack = stack_asked a in
    let e = c.in_ok-stack_fits.ensures in
    let p = by_percentiles (goal.at.returns c).Start e in
    let f = c.walk.ensures in
    let moved = subst (λ (st : Stack). c.walk.new.shifts ≡ sets c.args.shifts.now 0 (listed (shifts st))) p f.shifts_after in
    record {
      answered = e;
      placed = (accepts l _ _ e (whole stack _ (held (goal.at.returns c).Start c.in_ok-stack_fits.ensures).list moved)).1;
      pixels = scratch_free l (stack_bytes stack) e (subst (λ (st : Stack). FreeUpTo (stack_bytes st) c.args.bytes.now c.walk.new.bytes) p f.free_up_to);
      maps = scratch_free l (stack_words stack) e (subst (λ (st : Stack). FreeUpTo (stack_words st) c.args.words.now c.walk.new.words) p f.free_up_to_2);
    }

pub returns-in_err-stack_fits : goal.returns-in_err-stack_fits
returns-in_err-stack_fits c =
    let a = asked (goal.at.returns-in_err-stack_fits c).Start in
    let l = checks_of_stack a in
    let e : refusal c.in_err-stack_fits.field-0.0 ≡ answer l (tt {0}) = c.in_err-stack_fits.ensures in
    record {
      answered = passed_on (λ done. done) _ _ c.from_residual.ensures ∙ e;
      placed = (refuses l _ _ e).1;
      pixels = scratch_kept l (stack_bytes (stack_asked a)) e refl;
      maps = scratch_kept l (stack_words (stack_asked a)) e refl;
    }
