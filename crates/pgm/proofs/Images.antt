-- An image by its header: the checks answer the same of the numbers as they are kept, and so the answer is the reader's.
use mathlib.Core.Path.{◌≡◌, sym, ap, ap₂, ◌∙◌}
use mathlib.Core.Logic.{⊎_elim}
use mathlib.Core.List.{List, []}
use Prim.Native.Nat.{ℕ, ◌-◌, ◌≤◌, ◌<◌, max}
use native.Mathlib.Omega.{arith}
use lib.ListN.{length, drop, length-drop}
use Rattle.std.specs.Prelude.{Some, None}
use Rattle.definitions.specs.Refusals.{Answer, refused, answer}
use Rattle.laws.specs.general.Cases.{lt_or_le, eq_or_ne}
use Rattle.pgm_format.specs.Pgm as format
use Rattle.pgm_format.specs.Pgm.{Reading, missing, found, header_of, Sizes, Image, sizes_checks, image_from}
use Rattle.pgm_format.specs.SizeChecks.{over_stop, highest_stop}
use Rattle.pgm_format.specs.Grammar.{read_none, read_some}
use Rattle.pgm.specs.declared.header.Head.{Head}
use Rattle.pgm.specs.Inner.{kept, HeaderIs}
use Rattle.pgm.proofs.Headers.{got, none_read}

-- ---- the numbers as they are kept

abbrev kept_sizes : Sizes → Sizes
kept_sizes s = record { width = kept s.width; height = kept s.height; highest = kept s.highest }

-- the sizes of a head, and the answer of some sizes
abbrev pub sizes_of : Head → Sizes
sizes_of h = record { width = h.width; height = h.height; highest = h.highest }

abbrev sized : Sizes → ℕ → ℕ → Answer Image
sized s left start = answer (sizes_checks s left) (image_from s start)

same_sizes : {w w' h h' t t' : ℕ} → w ≡ w' → h ≡ h' → t ≡ t'
    → ◌≡◌ {A = Sizes} (record { width = w; height = h; highest = t }) (record { width = w'; height = h'; highest = t' })
same_sizes {w} {w'} {h} {h'} {t} {t'} p q r =
    ap (λ (x : ℕ). record { width = x; height = h; highest = t }) p
    ∙ ap (λ (x : ℕ). record { width = w'; height = x; highest = t }) q
    ∙ ap (λ (x : ℕ). record { width = w'; height = h'; highest = x }) r

-- a side that is over 8,192 stays so, and all else that passes is kept whole
kept_sized : (s : Sizes) (left start : ℕ) → sized (kept_sizes s) left start ≡ sized s left start
kept_sized s left start = ⊎_elim
    (λ (m : 8192 < max s.width s.height). sym (over_stop _ (kept_sizes s) left (over s.width s.height m)) ∙ over_stop _ s left m)
    (λ (m : max s.width s.height ≤ 8192). ⊎_elim
    (λ (e : s.highest ≡ 255). ap (λ (k : Sizes). sized k left start) (same_sizes (whole (omega arith)) (whole (omega arith)) (whole (omega arith))))
    (λ (e : s.highest ≡ 255 → ⊥). sym (highest_stop _ (kept_sizes s) left (within s.width s.height m) (λ k. e (unkept k))) ∙ highest_stop _ s left m e)
    (eq_or_ne s.highest 255))
    (lt_or_le 8192 (max s.width s.height))
  where
    over : (n m : ℕ) → 8192 < max n m → 8192 < max (kept n) (kept m)
    over n m h = omega arith

    within : (n m : ℕ) → max n m ≤ 8192 → max (kept n) (kept m) ≤ 8192
    within n m h = omega arith

    whole : {n : ℕ} → n ≤ 8192 → kept n ≡ n
    whole h = omega arith

    unkept : {n : ℕ} → kept n ≡ 255 → n ≡ 255
    unkept e = omega arith

-- ---- what is read

module _ (file : List ℕ) (at : ℕ) where
  pub read_missing : HeaderIs file (header_of (drop at file)) None → refused 13 [] ≡ format.read file at
  read_missing p = sym (read_none file at (none_read _ (header_of (drop at file)) p))

  pub read_found : (head : Head) → HeaderIs file (header_of (drop at file)) (Some head)
      → sized (sizes_of head) (length file - head.start) head.start ≡ format.read file at
  read_found head p =
      let g = got _ (header_of (drop at file)) p in
      let q = g.holds in
      let n : length file - head.start ≡ length g.left = sym (length-drop head.start file) ∙ ap length q.3.left in
      ap (λ (k : Sizes). sized k (length file - head.start) head.start) (same_sizes q.0 q.1 q.2)
      ∙ kept_sized g.value (length file - head.start) head.start
      ∙ ap₂ (λ (m i : ℕ). sized g.value m i) n (omega (arith, n, q.3.inside))
      ∙ sym (read_some file at g.is)
