-- The array holds the bytes at its front, and these are put.
use mathlib.Core.Path.{◌≡◌, refl, sym, ap, subst, ◌∙◌}
use mathlib.Core.List.{List}
use Prim.Native.Nat.{ℕ, ◌+◌, ◌≤◌}
use native.Mathlib.Omega.{arith}
use lib.ListN.{length, take, drop, replicate, length-replicate}
use lib.Seq.{sets, sets-eq, take_at}
use Rattle.pgm.proofs.put_block.Goals as goal

-- of an array of any length, so that none is computed
abbrev zeros : ℕ → List ℕ
zeros size = replicate size 0

array_long : (size : ℕ) → size ≡ length (zeros size)
array_long size = sym (length-replicate size 0)

in_array : (size : ℕ) {n : ℕ} → n ≤ size → 0 + n ≤ length (zeros size)
in_array size h = omega (arith, array_long size)

part-of-array : (size : ℕ) {n k : ℕ} → n ≤ size → k ≡ length (zeros size) → n ≤ k
part-of-array size h q = omega (arith, array_long size)

front : (l bytes : List ℕ) → 0 + length bytes ≤ length l → take (length bytes) (sets l 0 bytes) ≡ bytes
front l bytes h = ap (take (length bytes)) (sets-eq bytes l 0 h) ∙ take_at bytes (drop (0 + length bytes) l) (length bytes) refl

put-front : (size : ℕ) (bytes : List ℕ) {new : List ℕ} → length bytes ≤ size → new ≡ sets (zeros size) 0 bytes → take (length bytes) new ≡ bytes
put-front size bytes h e = ap (take (length bytes)) e ∙ front (zeros size) bytes (in_array size h)

pub slice_bounds-put_bytes-end : goal.slice_bounds-put_bytes-end
slice_bounds-put_bytes-end c = array_long 2097152

pub put_bytes-requires : goal.put_bytes-requires
put_bytes-requires c = in_array 2097152 c.requires.0

pub slice_bounds-block-end : goal.slice_bounds-block-end
slice_bounds-block-end c = part-of-array 2097152 c.requires.0 c.put_bytes.auto.buffer

pub slice_bounds-put_bytes-end-2 : goal.slice_bounds-put_bytes-end-2
slice_bounds-put_bytes-end-2 c = sym (ap length (put-front 2097152 c.args.bytes.now c.requires.0 c.put_bytes.ensures))

pub put_bytes-requires-2 : goal.put_bytes-requires-2
put_bytes-requires-2 c =
    subst (λ (n : ℕ). c.args.at + n ≤ length c.args.buffer.now)
    (sym (ap length (put-front 2097152 c.args.bytes.now c.requires.0 c.put_bytes.ensures)))
    c.requires.1

pub returns : goal.returns
returns c = c.put_bytes-2.ensures ∙ ap (sets c.args.buffer.now c.args.at) (put-front 2097152 c.args.bytes.now c.requires.0 c.put_bytes.ensures)
