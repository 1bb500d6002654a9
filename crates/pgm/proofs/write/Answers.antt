-- Each return is the answer of the first check that fails, with the buffer as it was; the last has the file in it.
use mathlib.Core.Path.{◌≡◌}
use mathlib.Core.List.{List}
use Prim.Native.Nat.{ℕ, ◌+◌, ◌≤◌, max}
use native.Mathlib.Omega.{arith}
use lib.ListN.{length}
use Rattle.definitions.specs.Decimal.{decimal}
use Rattle.laws.specs.images.Sizes.{area}
use Rattle.pgm_format.specs.Pgm.{Frame, Within, header_bytes, pgm}
use Rattle.pgm_format.specs.Writes.{over_stop, count_stop, room_stop, all_pass}
use Rattle.pgm_format.specs.Written.{pgm_long, header_long, header_short, pgm_short}
use Rattle.pgm.proofs.Writing.{as_it_was, as_written}
use Rattle.pgm.proofs.write.Goals as goal

-- the frame of the call
abbrev frame : ℕ → ℕ → List ℕ → Frame
frame w h s = record { width = w; height = h; samples = s }

-- the header is short
short : (w h : ℕ) → max w h ≤ 8192 → 9 + length (decimal w) + length (decimal h) ≤ 17
short w h m = omega (arith, header_long w h, header_short w h (omega arith) (omega arith))

-- the header and the file have as many bytes as are counted
room : (f : Frame) {blank feed : ℕ} → blank ≡ length (decimal f.width) → feed ≡ length (decimal f.height)
    → (3 + blank + 1 + feed + 5 ≡ length (header_bytes f.width f.height)) × (3 + blank + 1 + feed + 5 + length f.samples ≡ length (pgm f))
room f {blank} {feed} p q =
    let start : 3 + blank + 1 + feed + 5 ≡ length (header_bytes f.width f.height) = omega (arith, header_long f.width f.height) in
    (start, omega (arith, start, pgm_long f))

pub returns-then-max-gt-LONGEST_SIDE : goal.returns-then-max-gt-LONGEST_SIDE
returns-then-max-gt-LONGEST_SIDE c =
    let f = frame c.args.width c.args.height c.args.samples.now in
    as_it_was f _ (over_stop _ f _ (omega arith))

pub returns-then-samples-width : goal.returns-then-samples-width
returns-then-samples-width c =
    let f = frame c.args.width c.args.height c.args.samples.now in
    as_it_was f _ (count_stop _ f _ (omega arith) c.if-samples-width.true)

pub overflow_add-blank : goal.overflow_add-blank
overflow_add-blank c = omega (arith, short c.args.width c.args.height (omega arith))

pub overflow_add-feed : goal.overflow_add-feed
overflow_add-feed c = omega (arith, short c.args.width c.args.height (omega arith))

pub overflow_add-feed-2 : goal.overflow_add-feed-2
overflow_add-feed-2 c = omega (arith, short c.args.width c.args.height (omega arith))

pub overflow_add-start : goal.overflow_add-start
overflow_add-start c = omega (arith, short c.args.width c.args.height (omega arith))

pub overflow_add-end : goal.overflow_add-end
overflow_add-end c =
    let f = frame c.args.width c.args.height c.args.samples.now in
    let k : Within f = record { narrow = omega arith; low = omega arith; counted = c.if-samples-width.false } in
    omega (arith, (room f c.digits-blank.ensures c.digits.ensures).1, pgm_short f k, area f.width f.height k.narrow k.low)

pub returns-then-end-file : goal.returns-then-end-file
returns-then-end-file c =
    let f = frame c.args.width c.args.height c.args.samples.now in
    as_it_was f _ (room_stop _ f _ (omega arith) c.if-samples-width.false (omega (arith, (room f c.digits-blank.ensures c.digits.ensures).1)))

pub returns : goal.returns
returns c =
    let f = frame c.args.width c.args.height c.args.samples.now in
    let r = room f c.digits-blank.ensures c.digits.ensures in
    let fits : length (pgm f) ≤ length c.args.file.now = omega (arith, r.1) in
    as_written f _ (all_pass _ f _ (omega arith) c.if-samples-width.false fits) r.1 fits r.0 c.put_header.ensures c.put_samples.ensures
