use mathlib.Core.Path.{◌≡◌, sym, ap, ◌∙◌}
use mathlib.Core.List.{List}
use Prim.Native.Nat.{ℕ, ◌+◌, ◌-◌, ◌*◌, ◌/◌, ◌≤◌}
use native.Mathlib.Omega.{arith}
use lib.ListN.{length, take, drop}
use lib.Seq.{sets, length-take-le, take-length, take-add}
use Rattle.pgm.proofs.Writing.{behind}
use Rattle.pgm.proofs.put_samples.Goals as goal

-- a part behind the first `done`
part-put : (old s : List ℕ) (at done e : ℕ) → done ≤ e → e ≤ length s → {mid new : List ℕ} → mid ≡ sets old at (take done s)
    → new ≡ sets mid (at + done) (take (e - done) (drop done s)) → new ≡ sets old at (take e s)
part-put old s at done e h k p q =
    let long : length (take done s) ≡ done = length-take-le done s (omega arith) in
    let sum : done + (e - done) ≡ e = omega arith in
    q
    ∙ behind old at (take done s) (take (e - done) (drop done s)) p (omega (arith, long))
    ∙ ap (sets old at) (sym (take-add done (e - done) s) ∙ ap (λ (n : ℕ). take n s) sum)

pub loop-k-preserved : goal.loop-k-preserved
loop-k-preserved c =
    let l = c.loop-k in
    let a = c.args in
    let more : (l.k + 1) * 2097152 ≡ l.k * 2097152 + 2097152 = omega arith in
    part-put a.buffer.now a.samples.now a.at (l.k * 2097152) _ (omega arith) (omega arith) l.invariant c.put_block.ensures
    ∙ ap (λ (e : ℕ). sets a.buffer.now a.at (take e a.samples.now)) (sym more)

pub returns : goal.returns
returns c =
    let l = c.loop-k in
    let a = c.args in
    let whole : length a.samples.now / 2097152 * 2097152 ≤ length a.samples.now = omega arith in
    let k : l.k ≡ length a.samples.now / 2097152 = omega arith in
    part-put a.buffer.now a.samples.now a.at _ (length a.samples.now) whole (omega arith)
    (l.invariant ∙ ap (λ (j : ℕ). sets a.buffer.now a.at (take (j * 2097152) a.samples.now)) k)
    c.put_block-2.ensures
    ∙ ap (sets a.buffer.now a.at) (take-length a.samples.now)
