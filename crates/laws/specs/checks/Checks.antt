-- Ordered checks: a check that fails refuses, one that passes leaves the rest, and what an answer says of the checks, the value and
-- the buffers.
use Rattle.std.specs.Prelude.{◌≡◌, Bool, ◌||◌, ℕ, ◌+◌, ◌*◌, ◌<◌, ◌≤◌, max, length, get_or, drop}
use Rattle.std.proofs.Math.Path.{refl, sym, ap}
use Rattle.std.proofs.Common.{subst, ◌∙◌, ⊎_elim, add-one, arith, drop_of_length-le, drop-cons, lt-ltb, le-ltb, le-leb, eq-eqb, ne_eqb, ltb-true, ltb-false}
use Rattle.std.proofs.Math.Bool.{true, false, cond, not}
use mathlib.Core.List.Memᴰ
use mathlib.Core.List.{List, [], ◌∷◌, ◌++◌, map, append-nil, Memᴰ}
use Rattle.std.proofs.Math.Dec.{ltb}
use Rattle.std.proofs.lemmas.Bool.{lt-leb}
use Rattle.definitions.specs.Bitmap.{padding_set}
use Rattle.definitions.specs.Refusals.{Check, Answer, accepted, refused, answer, after, side_over, either_over, wrong_length, percentile_over}
use Rattle.definitions.specs.Refusals.{scratch_short, padded, space_short, pixel_outside, report_checks}
use Rattle.laws.specs.general.Cases.{lt_or_le, clash}

-- an answer is not both
pub not_both {ℓ} : {A : Type 0} {X : Type ℓ} {a : A} {n : ℕ} {v : List ℕ} → accepted a ≡ refused n v → X
not_both {A} {X} {a} {n} {v} e = let z : ◌≡◌ {A = ℕ} 0 1 = cc in absurd (none z)
  where
    none : ◌≡◌ {A = ℕ} 0 1 → ⊥
    none h = omega arith

-- an answer says what it has
pub same_value : {A : Type 0} {a b : A} → accepted a ≡ accepted b → a ≡ b
same_value e = cc

pub same_number : {A : Type 0} {m n : ℕ} {v w : List ℕ} → ◌≡◌ {A = Answer A} (refused m v) (refused n w) → m ≡ n
same_number e = cc

pub same_values : {A : Type 0} {m n : ℕ} {v w : List ℕ} → ◌≡◌ {A = Answer A} (refused m v) (refused n w) → v ≡ w
same_values e = cc

-- ---- one check

module _ {A : Type 0} (a : A) where
  pub stop : (c : Check) (l : List Check) → c.fails ≡ true → refused c.number c.values ≡ answer (c ∷ l) a
  unfolding answer
  stop c l e = sym (ap (λ (t : Bool). cond t (refused c.number c.values) (answer l a)) e)

  pub skip : (c : Check) (l : List Check) {r : Answer A} → c.fails ≡ false → r ≡ answer l a → r ≡ answer (c ∷ l) a
  unfolding answer
  skip c l e h = h ∙ sym (ap (λ (t : Bool). cond t (refused c.number c.values) (answer l a)) e)

  pub done : accepted a ≡ answer [] a
  unfolding answer
  done = refl

  -- back: an accepted call passed the check
  pub passed : (c : Check) (l : List Check) {b : A} → answer (c ∷ l) a ≡ accepted b → (c.fails ≡ false) × (answer l a ≡ accepted b)
  unfolding answer
  passed c l {b} e = on c.fails refl e
    where
      on : (t : Bool) → c.fails ≡ t → cond t (refused c.number c.values) (answer l a) ≡ accepted b → (c.fails ≡ false) × (answer l a ≡ accepted b)
      on true p q = not_both (sym q)
      on false p q = (p, q)

-- ---- some checks before others, and one value for another: what the checks before say is what their answer with any value says

-- what an answer leaves to those after it
abbrev onward : {A B : Type 0} → Answer A → Answer B → Answer B
onward (accepted a) r = r
onward (refused n v) r = refused n v

-- and to what is held after them
abbrev held {ℓ} : {A : Type 0} {B : Type ℓ} → Answer A → B → B → B
held (accepted a) new old = new
held (refused n v) new old = old

module _ {A B : Type 0} (a : A) (b : B) where
  answer_after : (l m : List Check) → answer (l ++ m) b ≡ onward (answer l a) (answer m b)
  unfolding answer
  answer_after [] m = refl
  answer_after (c ∷ l) m = on c.fails (answer_after l m)
    where
      on : (t : Bool) → answer (l ++ m) b ≡ onward (answer l a) (answer m b)
          → cond t (refused c.number c.values) (answer (l ++ m) b) ≡ onward (cond t (refused c.number c.values) (answer l a)) (answer m b)
      on true ih = refl
      on false ih = ih

  answer_at : (l : List Check) → answer l b ≡ onward (answer l a) (accepted b)
  answer_at l = ap (λ (k : List Check). answer k b) (sym (append-nil l)) ∙ answer_after l [] ∙ ap (onward (answer l a)) (sym (done b))

  pub accepted_too : (l : List Check) {d : A} → answer l a ≡ accepted d → answer l b ≡ accepted b
  accepted_too l e = answer_at l ∙ ap (λ (r : Answer A). onward r (accepted b)) e

  pub refused_too : (l : List Check) {n : ℕ} {v : List ℕ} → answer l a ≡ refused n v → answer l b ≡ refused n v
  refused_too l e = answer_at l ∙ ap (λ (r : Answer A). onward r (accepted b)) e

-- an accepted answer has the value that it was made of
pub value_is : {A : Type 0} (l : List Check) {a b : A} → answer l a ≡ accepted b → a ≡ b
value_is l {a} e = same_value (sym (accepted_too a a l e) ∙ e)

module _ {A : Type 0} (a : A) where
  -- checks that all pass leave those after them
  pub pass_all : (l m : List Check) {b : A} → answer l b ≡ accepted b → answer (l ++ m) a ≡ answer m a
  pass_all l m {b} e = answer_after b a l m ∙ ap (λ (r : Answer A). onward r (answer m a)) e

  pub skip_all : (l m : List Check) {r : Answer A} → answer l a ≡ accepted a → r ≡ answer m a → r ≡ answer (l ++ m) a
  skip_all l m e q = q ∙ sym (pass_all l m e)

  -- one that fails refuses
  pub stop_all : (l m : List Check) {n : ℕ} {v : List ℕ} → answer l a ≡ refused n v → refused n v ≡ answer (l ++ m) a
  stop_all l m e = sym (answer_after a a l m ∙ ap (λ (r : Answer A). onward r (answer m a)) e)

  -- back
  pub passed_all : (l m : List Check) {b : A} → answer (l ++ m) a ≡ accepted b → (answer l a ≡ accepted a) × (answer m a ≡ accepted b)
  passed_all l m {b} e = on (answer l a) refl
    where
      on : (r : Answer A) → answer l a ≡ r → (answer l a ≡ accepted a) × (answer m a ≡ accepted b)
      on (accepted d) p = let q = accepted_too a a l p in (q, sym (pass_all l m q) ∙ e)
      on (refused n v) p = not_both (sym (stop_all l m p ∙ e))

  held_after {ℓ} : {B : Type ℓ} (l m : List Check) (new old : B) → after (l ++ m) new old ≡ held (answer l a) (after m new old) old
  unfolding answer after
  held_after [] m new old = refl
  held_after {B} (c ∷ l) m new old = on c.fails (held_after l m new old)
    where
      on : (t : Bool) → after (l ++ m) new old ≡ held (answer l a) (after m new old) old
          → cond t old (after (l ++ m) new old) ≡ held (cond t (refused c.number c.values) (answer l a)) (after m new old) old
      on true ih = refl
      on false ih = ih

  held_at {ℓ} : {B : Type ℓ} (l : List Check) (new old : B) → after l new old ≡ held (answer l a) new old
  unfolding after
  held_at l new old = ap (λ (k : List Check). after k new old) (sym (append-nil l)) ∙ held_after l [] new old

  pub after_pass {ℓ} : {B : Type ℓ} (l m : List Check) (new old : B) {d : A} → answer l a ≡ accepted d → after (l ++ m) new old ≡ after m new old
  after_pass l m new old e = held_after l m new old ∙ ap (λ (r : Answer A). held r (after m new old) old) e

  pub after_accepted {ℓ} : {B : Type ℓ} (l : List Check) (new old : B) {d : A} → answer l a ≡ accepted d → after l new old ≡ new
  after_accepted l new old e = held_at l new old ∙ ap (λ (r : Answer A). held r new old) e

  pub after_refused {ℓ} : {B : Type ℓ} (l : List Check) (new old : B) {n : ℕ} {v : List ℕ} → answer l a ≡ refused n v → after l new old ≡ old
  after_refused l new old e = held_at l new old ∙ ap (λ (r : Answer A). held r new old) e

-- ---- a loop over the checks f k of a list: those from the i-th on answer as all of them do

module _ {A : Type 0} (a : A) (f : ℕ → Check) (l : List ℕ) where
  abbrev pub answer_from : ℕ → Answer A
  answer_from i = answer (map f (drop i l)) a

  -- the i-th is the check c
  module _ (i : ℕ) {r : Answer A} (e : answer_from i ≡ r) where
    next : {c : Check} → i < length l → f (get_or l i 0) ≡ c → answer (c ∷ map f (drop (i + 1) l)) a ≡ r
    next h g =
        ap (λ (d : Check). answer (d ∷ map f (drop (i + 1) l)) a) (sym g)
        ∙ ap (λ (m : List ℕ). answer (map f m) a) (sym (drop-cons l i 0 h ∙ ap (λ (j : ℕ). get_or l i 0 ∷ drop j l) (sym (add-one i))))
        ∙ e

    pub one_passes : {c : Check} → i < length l → f (get_or l i 0) ≡ c → c.fails ≡ false → answer_from (i + 1) ≡ r
    one_passes {c} h g p = skip a c _ p refl ∙ next h g

    pub one_fails : {c : Check} → i < length l → f (get_or l i 0) ≡ c → c.fails ≡ true → refused c.number c.values ≡ r
    one_fails {c} h g p = stop a c _ p ∙ next h g

    pub all_passed : length l ≤ i → accepted a ≡ r
    all_passed h = done a ∙ ap (λ (m : List ℕ). answer (map f m) a) (sym (drop_of_length-le l h)) ∙ e

-- ---- each check of 01 by the fact that a branch gives: `..-stop` refuses, `..-skip` leaves the rest

module _ {A : Type 0} (a : A) where
  pub side_stop : (n : ℕ) (l : List Check) → 8192 < n → refused 1 [] ≡ answer (side_over n ∷ l) a
  unfolding side_over
  side_stop n l h = stop a (side_over n) l (lt-ltb 8192 n h)

  pub side_skip : (n : ℕ) (l : List Check) {r : Answer A} → n ≤ 8192 → r ≡ answer l a → r ≡ answer (side_over n ∷ l) a
  unfolding side_over
  side_skip n l h q = skip a (side_over n) l (le-ltb 8192 n h) q

  pub length_stop : (n m : ℕ) (l : List Check) → (n ≡ m → ⊥) → refused 2 [] ≡ answer (wrong_length n m ∷ l) a
  unfolding wrong_length
  length_stop n m l h = stop a (wrong_length n m) l (ap not (ne_eqb n m h))

  pub length_skip : (n m : ℕ) (l : List Check) {r : Answer A} → n ≡ m → r ≡ answer l a → r ≡ answer (wrong_length n m ∷ l) a
  unfolding wrong_length
  length_skip n m l h q = skip a (wrong_length n m) l (ap not (eq-eqb n m h)) q

  pub percentile_stop : (p : ℕ) (l : List Check) → 100 < p → refused 3 [] ≡ answer (percentile_over p ∷ l) a
  unfolding percentile_over
  percentile_stop p l h = stop a (percentile_over p) l (lt-ltb 100 p h)

  pub percentile_skip : (p : ℕ) (l : List Check) {r : Answer A} → p ≤ 100 → r ≡ answer l a → r ≡ answer (percentile_over p ∷ l) a
  unfolding percentile_over
  percentile_skip p l h q = skip a (percentile_over p) l (le-ltb 100 p h) q

  pub scratch_stop : (n need : ℕ) (l : List Check) → n < need → refused 7 [] ≡ answer (scratch_short n need ∷ l) a
  unfolding scratch_short
  scratch_stop n need l h = stop a (scratch_short n need) l (lt-ltb n need h)

  pub scratch_skip : (n need : ℕ) (l : List Check) {r : Answer A} → need ≤ n → r ≡ answer l a → r ≡ answer (scratch_short n need ∷ l) a
  unfolding scratch_short
  scratch_skip n need l h q = skip a (scratch_short n need) l (le-ltb n need h) q

  pub padded_stop : (words : List ℕ) (w h : ℕ) (l : List Check) → 0 < padding_set words w h → refused 8 [] ≡ answer (padded words w h ∷ l) a
  unfolding padded
  padded_stop words w h l k = stop a (padded words w h) l (lt-ltb 0 (padding_set words w h) k)

  pub padded_skip : (words : List ℕ) (w h : ℕ) (l : List Check) {r : Answer A} → padding_set words w h ≤ 0 → r ≡ answer l a → r ≡ answer (padded words w h ∷ l) a
  unfolding padded
  padded_skip words w h l k q = skip a (padded words w h) l (le-ltb 0 (padding_set words w h) k) q

  pub pixel_stop : (place side : ℕ) (l : List Check) → side ≤ place → refused 11 [] ≡ answer (pixel_outside place side ∷ l) a
  unfolding pixel_outside
  pixel_stop place side l h = stop a (pixel_outside place side) l (le-leb side place h)

  pub pixel_skip : (place side : ℕ) (l : List Check) {r : Answer A} → place < side → r ≡ answer l a → r ≡ answer (pixel_outside place side ∷ l) a
  unfolding pixel_outside
  pixel_skip place side l h q = skip a (pixel_outside place side) l (lt-leb side place h) q

  pub space_stop : (space needed : ℕ) (l : List Check) → space < 20 * needed → refused 10 (needed ∷ []) ≡ answer (space_short space needed ∷ l) a
  unfolding space_short
  space_stop space needed l h = stop a (space_short space needed) l (lt-ltb space (20 * needed) h)

  pub space_skip : (space needed : ℕ) (l : List Check) {r : Answer A} → 20 * needed ≤ space → r ≡ answer l a → r ≡ answer (space_short space needed ∷ l) a
  unfolding space_short
  space_skip space needed l h q = skip a (space_short space needed) l (le-ltb space (20 * needed) h) q

  -- both sides at once, by the test that the code makes
  pub sides_stop : (w h : ℕ) (l : List Check) → either_over w h ≡ true → refused 1 [] ≡ answer (side_over w ∷ side_over h ∷ l) a
  unfolding either_over
  sides_stop w h l e = on (ltb 8192 w) refl e
    where
      on : (t : Bool) → ltb 8192 w ≡ t → (t || ltb 8192 h) ≡ true → refused 1 [] ≡ answer (side_over w ∷ side_over h ∷ l) a
      on true p q = side_stop w (side_over h ∷ l) (ltb-true 8192 w p)
      on false p q = side_skip w (side_over h ∷ l) (ltb-false 8192 w p) (side_stop h l (ltb-true 8192 h q))

  pub sides_skip : (w h : ℕ) (l : List Check) {r : Answer A} → (w ≤ 8192) × (h ≤ 8192) → r ≡ answer l a → r ≡ answer (side_over w ∷ side_over h ∷ l) a
  sides_skip w h l p q = side_skip w (side_over h ∷ l) p.0 (side_skip h l p.1 q)

  -- both sides by the longest
  pub longest_stop : (w h : ℕ) (l : List Check) → 8192 < max w h → refused 1 [] ≡ answer (side_over w ∷ side_over h ∷ l) a
  longest_stop w h l m = ⊎_elim
      (λ (k : 8192 < w). side_stop w (side_over h ∷ l) k)
      (λ (k : w ≤ 8192). side_skip w (side_over h ∷ l) k (side_stop h l (omega arith)))
      (lt_or_le 8192 w)

  pub longest_skip : (w h : ℕ) (l : List Check) {r : Answer A} → max w h ≤ 8192 → r ≡ answer l a → r ≡ answer (side_over w ∷ side_over h ∷ l) a
  longest_skip w h l m q = sides_skip w h l (omega arith, omega arith) q

pub sides_within : (w h : ℕ) → either_over w h ≡ false → (w ≤ 8192) × (h ≤ 8192)
unfolding either_over
sides_within w h e = on (ltb 8192 w) refl e
  where
    on : (t : Bool) → ltb 8192 w ≡ t → (t || ltb 8192 h) ≡ false → (w ≤ 8192) × (h ≤ 8192)
    on true p q = clash q
    on false p q = (ltb-false 8192 w p, ltb-false 8192 h q)

-- ---- which check it was

abbrev pub Passes : List Check → Type 0
Passes l = (c : Check) → Memᴰ c l → c.fails ≡ false

passes_more : (c : Check) (l : List Check) → c.fails ≡ false → Passes l → Passes (c ∷ l)
passes_more c l p s d m = ⊎_elim (λ (i : d ≡ c). ap (λ (k : Check). k.fails) i ∙ p) (λ (i : Memᴰ d l). s d i) (Memᴰ.cases_cons m)

-- the first of some checks that fails, with its number and values: all before it pass
pub record FirstFails (l : List Check) (number : ℕ) (values : List ℕ) : Type 0 where
  pub before : List Check
  pub check : Check
  pub rest : List Check
  pub split : l ≡ before ++ (check ∷ rest)
  pub pass : Passes before
  pub fails : check.fails ≡ true
  pub says : (check.number ≡ number) × (check.values ≡ values)

module _ {A : Type 0} (a : A) where
  -- what an answer says of the checks: all pass, or which is the first that fails
  abbrev Said : List Check → Answer A → Type 0
  Said l (accepted b) = Passes l
  Said l (refused n v) = FirstFails l n v

  said_more : (c : Check) (l : List Check) → c.fails ≡ false → (r : Answer A) → Said l r → Said (c ∷ l) r
  said_more c l p (accepted b) s = passes_more c l p s
  said_more c l p (refused n v) f = record {
    before = c ∷ f.before;
    check = f.check;
    rest = f.rest;
    split = ap (λ (k : List Check). c ∷ k) f.split;
    pass = passes_more c f.before p f.pass;
    fails = f.fails;
    says = f.says;
  }

  said : (l : List Check) → Said l (answer l a)
  unfolding answer
  said [] = λ c m. absurd (Memᴰ.not-nil m)
  said (c ∷ l) = on c.fails refl (said l)
    where
      on : (t : Bool) → c.fails ≡ t → Said l (answer l a) → Said (c ∷ l) (cond t (refused c.number c.values) (answer l a))
      on true p s = record { before = []; check = c; rest = l; split = refl; pass = λ d m. absurd (Memᴰ.not-nil m); fails = p; says = (refl, refl) }
      on false p s = said_more c l p (answer l a) s

  -- a refusal is that of the first check that fails
  pub first_fails : (l : List Check) {n : ℕ} {v : List ℕ} → answer l a ≡ refused n v → FirstFails l n v
  first_fails l e = subst (Said l) e (said l)

  -- an accepted call passed every check
  pub all_pass : (l : List Check) {b : A} → answer l a ≡ accepted b → Passes l
  all_pass l e = subst (Said l) e (said l)

-- ---- the buffers after a call

-- what holds of both outcomes holds after the call, and what is computed of them is computed after it
module _ {B : Type 0} (l : List Check) (new old : B) where
  pub after_holds : (P : B → Type 0) → (accepted (tt {0}) ≡ answer l tt → P new) → P old → P (after l new old)
  after_holds P p q = on (answer l (tt {0})) refl
    where
      on : (r : Answer (Unit {0})) → answer l (tt {0}) ≡ r → P (after l new old)
      on (accepted u) e = subst P (sym (after_accepted (tt {0}) l new old e)) (p (sym (accepted_too (tt {0}) (tt {0}) l e)))
      on (refused n v) e = subst P (sym (after_refused (tt {0}) l new old e)) q

  pub after_by : {C : Type 0} (f : B → C) {new' old' : C} → (accepted (tt {0}) ≡ answer l tt → new' ≡ f new) → old' ≡ f old → after l new' old' ≡ f (after l new old)
  after_by f {new'} {old'} p q = on (answer l (tt {0})) refl
    where
      on : (r : Answer (Unit {0})) → answer l (tt {0}) ≡ r → after l new' old' ≡ f (after l new old)
      on (accepted u) e =
          after_accepted (tt {0}) l new' old' e ∙ p (sym (accepted_too (tt {0}) (tt {0}) l e)) ∙ sym (ap f (after_accepted (tt {0}) l new old e))
      on (refused n v) e = after_refused (tt {0}) l new' old' e ∙ q ∙ sym (ap f (after_refused (tt {0}) l new old e))

-- what a call that writes one buffer shows on its two paths
pub refuses : {B : Type 0} (l : List Check) (new old : B) {n : ℕ} {v : List ℕ} → refused n v ≡ answer l (tt {0}) → (refused n v ≡ answer l (tt {0})) × (old ≡ after l new old)
refuses l new old e = (e, sym (after_refused (tt {0}) l new old (sym e)))

pub accepts : {B : Type 0} (l : List Check) (new old : B) {x : B} → accepted (tt {0}) ≡ answer l tt → x ≡ new → (accepted (tt {0}) ≡ answer l tt) × (x ≡ after l new old)
accepts l new old e p = (e, p ∙ sym (after_accepted (tt {0}) l new old (sym e)))

-- and one that writes two
pub refuses_two : {B C : Type 0} (l : List Check) (new old : B) (new' old' : C) {n : ℕ} {v : List ℕ} → refused n v ≡ answer l (tt {0})
    → (refused n v ≡ answer l (tt {0})) × ((old ≡ after l new old) × (old' ≡ after l new' old'))
refuses_two l new old new' old' e = (e, ((refuses l new old e).1, (refuses l new' old' e).1))

pub accepts_two : {B C : Type 0} (l : List Check) (new old : B) (new' old' : C) {x : B} {y : C} → accepted (tt {0}) ≡ answer l tt → x ≡ new → y ≡ new'
    → (accepted (tt {0}) ≡ answer l tt) × ((x ≡ after l new old) × (y ≡ after l new' old'))
accepts_two l new old new' old' e p q = (e, ((accepts l new old e p).1, (accepts l new' old' e q).1))

-- ---- the record space of a report whose other checks pass: refused for space exactly if 20 times the records exceed it

module _ {A : Type 0} (a : A) (before : List Check) (needed space : ℕ) (all : answer before a ≡ accepted a) where
  pub refused_for_space : space < 20 * needed → answer (report_checks before needed space) a ≡ refused 10 (needed ∷ [])
  unfolding report_checks
  refused_for_space h = pass_all a before (space_short space needed ∷ []) all ∙ sym (space_stop a space needed [] h)

  pub accepted_for_space : 20 * needed ≤ space → answer (report_checks before needed space) a ≡ accepted a
  unfolding report_checks
  accepted_for_space h = pass_all a before (space_short space needed ∷ []) all ∙ sym (space_skip a space needed [] h (done a))
