-- Texts that are put into a buffer one after another.
use mathlib.Core.Path.{◌≡◌, refl, sym, ap, ap₂, ◌∙◌, subst}
use mathlib.Core.List.{List, [], ◌∷◌, ◌++◌}
use mathlib.Core.Logic.{⊎_elim}
use Prim.Native.Nat.{ℕ, suc, ◌+◌, ◌-◌, ◌≤◌, ◌<◌, min}
use native.Mathlib.Omega.{arith}
use lib.ListN.{length, take, drop, set, length-append, length-take, take-append-drop, drop_of_length-le}
use lib.Seq.{sets, length-sets, drop-nil}
use Rattle.laws.specs.general.Cases.{lt_or_le}
use Rattle.laws.specs.general.Writes.{sets_append, sets_out}
use Rattle.mtb_align.proofs.Parts.{put_part}
use Rattle.steps.specs.Inner.{Put}

-- no text
pub put_none : (old : List ℕ) (at : ℕ) → at ≤ length old → Put old at [] old at
put_none old at h = record { held = refl; ends = omega arith }

-- where there is no room the text goes nowhere
ends_out : (l t : List ℕ) (i : ℕ) → sets l (min i (length l)) t ≡ sets l i t
ends_out l t i = ⊎_elim
    (λ (h : length l < i). sets_out l t (min i (length l)) (omega arith) ∙ sym (sets_out l t i (omega arith)))
    (λ (h : i ≤ length l). let e : min i (length l) ≡ i = omega arith in ap (λ (k : ℕ). sets l k t) e)
    (lt_or_le (length l) i)

-- as much of a text as there is room for, copied
pub put_copied : (old text : List ℕ) (at : ℕ) {n m : ℕ} {part : List ℕ} → at ≤ length old → n ≡ min (length text) (length old - at) → m ≡ n → part ≡ take n text
    → Put old at text (take at old ++ (part ++ drop m (drop at old))) (at + n)
put_copied old text at {n} {m} {part} h e q p =
    let long : length (take n text) ≡ n = length-take n text ∙ omega arith in
    let l = sets old at (take n text) in
    let all : sets old at text ≡ sets l (at + length (take n text)) (drop n text) =
    ap (sets old at) (sym (take-append-drop n text)) ∙ sets_append old at (take n text) (drop n text) in
    record {
      held =
          put_part old (take n text) at m (omega arith) (long ∙ sym q) p
          ∙ sym (all ∙ ⊎_elim
          (λ (r : n < length text). sets_out l (drop n text) (at + length (take n text)) (omega (arith, length-sets old at (take n text))))
          (λ (r : length text ≤ n). ap (sets l (at + length (take n text))) (drop_of_length-le text {i = n} r))
          (lt_or_le n (length text)));
      ends = omega arith;
    }

-- a text and then another
pub put_then : {old mid new : List ℕ} {at m next : ℕ} {s t : List ℕ} → Put old at s mid m → Put mid m t new next → Put old at (s ++ t) new next
put_then {old} {mid} {new} {at} {m} {next} {s} {t} p q =
    let long : length (sets old at s) ≡ length old = length-sets old at s in
    let start : m ≡ min (at + length s) (length (sets old at s)) = p.ends ∙ ap (min (at + length s)) (sym long) in
    record {
      held =
          q.held
          ∙ ap₂ (λ (l : List ℕ) (i : ℕ). sets l i t) p.held start
          ∙ ends_out (sets old at s) t (at + length s)
          ∙ sym (sets_append old at s t);
      ends = omega (arith, p.ends, q.ends, ap length p.held, long, length-append s t);
    }

-- a text by another name
pub put_as : {old s t new : List ℕ} {at next : ℕ} → Put old at s new next → s ≡ t → Put old at t new next
put_as {old} {s} {t} {new} {at} {next} p e = subst (λ (x : List ℕ). Put old at x new next) e p

-- there is room for no byte past the end
pub put_within : {old text new : List ℕ} {at next : ℕ} → Put old at text new next → next ≤ length new
put_within {old} {text} {new} {at} {next} p = omega (arith, p.ends, ap length p.held, length-sets old at text)

pub put_long : {old text new : List ℕ} {at next : ℕ} → Put old at text new next → length new ≡ length old
put_long {old} {text} {new} {at} {next} p = ap length p.held ∙ length-sets old at text

-- ---- at the front of a buffer

sets_behind : (a : ℕ) (l vs : List ℕ) (i : ℕ) → sets (a ∷ l) (suc i) vs ≡ a ∷ sets l i vs
sets_behind a l [] i = refl
sets_behind a l (v ∷ vs) i = sets_behind a (set l i v) vs (suc i)

front : (l vs : List ℕ) → sets l 0 vs ≡ take (length l) vs ++ drop (length vs) l
front [] vs = sets_out [] vs 0 (omega arith) ∙ sym (drop-nil (length vs))
front (a ∷ l) [] = refl
front (a ∷ l) (v ∷ vs) = sets_behind v l vs 0 ∙ ap (λ (k : List ℕ). v ∷ k) (front l vs)

pub put_front : {old text new : List ℕ} {next : ℕ} → Put old 0 text new next
    → (next ≡ min (length text) (length old)) × (new ≡ take (length old) text ++ drop (length text) old)
put_front {old} {text} {new} {next} p = (omega (arith, p.ends), p.held ∙ front old text)
