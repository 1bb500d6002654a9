-- Each run adds the entries of its values.
use mathlib.Core.Path.{◌≡◌, refl, sym, ap, ◌∙◌}
use mathlib.Core.List.{List, ◌++◌}
use Prim.Native.Nat.{ℕ, ◌+◌, ◌-◌, ◌≤◌, ◌<◌, min}
use native.Mathlib.Omega.{arith}
use lib.ListN.{length, take, drop, replicate, length-take, length-drop, length-replicate}
use lib.Seq.{sets, length-sets}
use Rattle.definitions.specs.Build.{build}
use Rattle.laws.specs.general.Lists.{build_length}
use Rattle.laws.specs.images.Runs.{fill_more}
use Rattle.laws.specs.general.Writes.{store_none, sets_whole}
use Rattle.mtb_align.specs.Packing.{entry_of, table_of}
use Rattle.mtb_align.proofs.Parts.{put_part}
use Rattle.mtb_align.proofs.Two.{entry_far_below, entry_near_below, entry_near_above, entry_far_above}
use Rattle.mtb_align.proofs.bitmap.fill_table.Goals.{After-min-far}
use Rattle.mtb_align.proofs.bitmap.fill_table.Goals as goal

-- the ends of the runs
record Ends (cut tolerance near above far : ℕ) : Type 0 where
  near_is : near ≡ min (cut - tolerance) 256
  above_is : above ≡ min (cut + 1) 256
  far_is : far ≡ min (cut + 1 + tolerance) 256

ends : (c : After-min-far) → Ends c.args.cut c.args.tolerance c.min-near.result c.min-above.result c.min-far.result
ends c = record {
  near_is = omega (arith, c.min-near.ensures, c.saturating_sub.ensures);
  above_is = c.min-above.ensures;
  far_is = c.min-far.ensures;
}

-- one run more; a lemma of its own for none of them, so that what an entry is is claimed in the answer
run : (table : List ℕ) (f : ℕ → ℕ) (a b n value : ℕ) → length table ≡ 256 → n ≡ b - a → a ≤ b → b ≤ 256 → ((v : ℕ) → a ≤ v → v < b → value ≡ f v)
    → {m out : List ℕ} → m ≡ sets table 0 (build a f) → out ≡ replicate (length (take n (drop a m))) value
    → take a m ++ (out ++ drop n (drop a m)) ≡ sets table 0 (build b f)
run table f a b n value e d h r same {m} {out} p q =
    let long : length m ≡ 256 = ap length p ∙ length-sets table 0 (build a f) ∙ e in
    let part : length (take n (drop a m)) ≡ n = omega (arith, length-take n (drop a m), length-drop a m) in
    fill_more table f a b value h same p
    (put_part m (replicate n value) a n (omega arith) (length-replicate n value) (q ∙ ap (λ (k : ℕ). replicate k value) part)
    ∙ ap (λ (k : ℕ). sets m a (replicate k value)) d)

pub returns : goal.returns
unfolding table_of
returns c =
    let cut = c.args.cut in
    let tolerance = c.args.tolerance in
    let f = entry_of cut tolerance in
    let table = c.args.table.now in
    let near = c.min-near.result in
    let above = c.min-above.result in
    let far = c.min-far.result in
    let e = ends (goal.at.returns c).After-min-far in
    let first = run table f 0 near near 4294967296 c.requires (omega arith) (omega arith) (omega (arith, e.near_is))
    (λ v g h. entry_far_below cut tolerance v (omega (arith, e.near_is))) (store_none table 0 f) (c.fill.ensures.after (λ y p. p)) in
    let second = run table f near above (above - near) 0 c.requires refl (omega (arith, e.near_is, e.above_is)) (omega (arith, e.above_is))
    (λ v g h. entry_near_below cut tolerance v (omega (arith, e.near_is)) (omega (arith, e.above_is))) first (c.fill-2.ensures.after (λ y p. p)) in
    let third = run table f above far (far - above) 1 c.requires refl (omega (arith, e.above_is, e.far_is)) (omega (arith, e.far_is))
    (λ v g h. entry_near_above cut tolerance v (omega (arith, e.above_is)) (omega (arith, e.far_is))) second (c.fill-3.ensures.after (λ y p. p)) in
    run table f far 256 (256 - far) 4294967297 c.requires refl (omega (arith, e.far_is)) (omega arith)
    (λ v g h. entry_far_above cut tolerance v (omega (arith, e.far_is))) third (c.fill-4.ensures.after (λ y p. p))
    ∙ sets_whole table (build 256 f) (build_length 256 f ∙ sym c.requires)
