-- A line that is read character by character.
use Rattle.std.specs.Prelude.{◌≡◌, ℕ, suc, ◌+◌, ◌≤◌, ◌<◌, max, Bool, false, ◌||◌, List, [], ◌∷◌, eqb, length, get_or, drop, set}
use Rattle.std.proofs.Common.{sym, ap, ◌∙◌, subst, arith, add-one, drop_of_length-le}
use Rattle.std.proofs.Math.Seq.{drop-cons}
use Rattle.std.proofs.lemmas.List.Edits.{sets}
use borrow.Author.Tests.{eq-eqb, ne_eqb}
use Rattle.laws.specs.general.Cases.{cond_true, cond_false}
use Rattle.replay.specs.Lines.{grown, number, numbers_from, numbers_of, line_length}

-- ---- a character of the line

at_end : (negative : Bool) (n c : ℕ) (t : List ℕ) → c ≡ 10 → numbers_from negative n (c ∷ t) ≡ number negative n ∷ []
unfolding numbers_from
at_end negative n c t e = cond_true _ _ (eq-eqb c 10 e)

at_blank : (negative : Bool) (n c : ℕ) (t : List ℕ) → c ≡ 32 → numbers_from negative n (c ∷ t) ≡ number negative n ∷ numbers_of t
unfolding numbers_from
at_blank negative n c t e = cond_false _ _ (ne_eqb c 10 (λ z. omega arith)) ∙ cond_true _ _ (eq-eqb c 32 e)

at_other : (negative : Bool) (n c : ℕ) (t : List ℕ) → (c ≡ 10 → ⊥) → (c ≡ 32 → ⊥)
    → numbers_from negative n (c ∷ t) ≡ numbers_from (negative || eqb c 45) (grown n c) t
unfolding numbers_from
at_other negative n c t e f = cond_false _ _ (ne_eqb c 10 e) ∙ cond_false _ _ (ne_eqb c 32 f)

long_end : (c : ℕ) (t : List ℕ) → c ≡ 10 → line_length (c ∷ t) ≡ 1
unfolding line_length
long_end c t e = cond_true 1 (suc (line_length t)) (eq-eqb c 10 e)

long_more : (c : ℕ) (t : List ℕ) → (c ≡ 10 → ⊥) → line_length (c ∷ t) ≡ suc (line_length t)
unfolding line_length
long_more c t e = cond_false 1 (suc (line_length t)) (ne_eqb c 10 e)

-- ---- what is left of the line

-- From `next` on the line is left to be read, a number of it as far as n; what is left goes on where `count` numbers are stored.
pub record Left (text : List ℕ) (at : ℕ) (old new : List ℕ) (count : ℕ) (negative : Bool) (n next : ℕ) : Type 0 where
  pub stored : sets new count (numbers_from negative n (drop next text)) ≡ sets old 0 (numbers_of (drop at text))
  pub counted : count + length (numbers_from negative n (drop next text)) ≡ length (numbers_of (drop at text))
  pub reached : next + line_length (drop next text) ≡ at + line_length (drop at text)
  pub few : count ≤ next
  pub near : next ≤ max at (length text)

-- What read_line answers.
pub record Read (text : List ℕ) (at : ℕ) (old new : List ℕ) (count next : ℕ) : Type 0 where
  pub stored : new ≡ sets old 0 (numbers_of (drop at text))
  pub counted : count ≡ length (numbers_of (drop at text))
  pub reached : next ≡ at + line_length (drop at text)

pub read_as : {text old new new' : List ℕ} {at count next : ℕ} → new' ≡ new → Read text at old new count next → Read text at old new' count next
read_as e r = record { stored = e ∙ r.stored; counted = r.counted; reached = r.reached }

-- the same state by other names
pub left_as : {text old new new' : List ℕ} {at count count' n n' next : ℕ} {negative negative' : Bool} → new' ≡ new → count' ≡ count → negative' ≡ negative → n' ≡ n
    → Left text at old new count negative n next → Left text at old new' count' negative' n' next
left_as {text} {old} {new} {new'} {at} {count} {count'} {n} {n'} {next} {negative} {negative'} e d f g l =
    subst (λ (x : List ℕ). Left text at old x count' negative' n' next) (sym e)
    (subst (λ (x : ℕ). Left text at old new x negative' n' next) (sym d)
    (subst (λ (x : Bool). Left text at old new count x n' next) (sym f)
    (subst (λ (x : ℕ). Left text at old new count negative x next) (sym g) l)))

-- the text ends
pub left_over : {text old new : List ℕ} {at count n next : ℕ} {negative : Bool} → Left text at old new count negative n next → length text ≤ next
    → Read text at old new count next
unfolding numbers_from line_length
left_over {text} {old} {new} {at} {count} {n} {next} {negative} l h =
    let e : drop next text ≡ [] = drop_of_length-le text h in
    record {
      stored = sym (ap (λ (t : List ℕ). sets new count (numbers_from negative n t)) e) ∙ l.stored;
      counted = omega (arith, l.counted, ap (λ (t : List ℕ). length (numbers_from negative n t)) e);
      reached = omega (arith, l.reached, ap line_length e);
    }

module _ {text old new : List ℕ} {at count n next : ℕ} {negative : Bool} (l : Left text at old new count negative n next) (h : next < length text) where
  abbrev char : ℕ
  char = get_or text next 0

  abbrev more : List ℕ
  more = drop (next + 1) text

  split : drop next text ≡ char ∷ more
  split = drop-cons text next 0 h ∙ sym (ap (λ (k : ℕ). char ∷ drop k text) (add-one next))

  -- the line ends
  pub left_end : char ≡ 10 → Read text at old (set new count (number negative n)) (count + 1) (next + 1)
  left_end e =
      let p : numbers_from negative n (drop next text) ≡ number negative n ∷ [] = ap (numbers_from negative n) split ∙ at_end negative n char more e in
      record {
        stored = sym (ap (sets new count) p) ∙ l.stored;
        counted = omega (arith, l.counted, ap length p);
        reached = omega (arith, l.reached, ap line_length split, long_end char more e);
      }

  -- a number ends
  pub left_blank : char ≡ 32 → Left text at old (set new count (number negative n)) (count + 1) false 0 (next + 1)
  left_blank e =
      let p : numbers_from negative n (drop next text) ≡ number negative n ∷ numbers_of more = ap (numbers_from negative n) split ∙ at_blank negative n char more e in
      record {
        stored =
            ap (λ (k : ℕ). sets (set new count (number negative n)) k (numbers_of more)) (add-one count)
            ∙ sym (ap (sets new count) p) ∙ l.stored;
        counted = omega (arith, l.counted, ap length p);
        reached = omega (arith, l.reached, ap line_length split, long_more char more (λ z. omega arith));
        few = omega (arith, l.few);
        near = omega arith;
      }

  -- a number goes on
  pub left_more : (char ≡ 10 → ⊥) → (char ≡ 32 → ⊥) → Left text at old new count (negative || eqb char 45) (grown n char) (next + 1)
  left_more e f =
      let p : numbers_from negative n (drop next text) ≡ numbers_from (negative || eqb char 45) (grown n char) more = ap (numbers_from negative n) split ∙ at_other negative n char more e f in
      record {
        stored = sym (ap (sets new count) p) ∙ l.stored;
        counted = omega (arith, l.counted, ap length p);
        reached = omega (arith, l.reached, ap line_length split, long_more char more e);
        few = omega (arith, l.few);
        near = omega arith;
      }
