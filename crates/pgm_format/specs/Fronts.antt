-- The grammar's parts and the reader's functions, one by one: what stands at the front of a list is read whole, whatever follows, and what
-- is read is a part of the grammar.
use Rattle.std.specs.Prelude.{ℕ, zero, suc, ◌+◌, ◌<◌, ◌≡◌, refl, Bool, true, not, ◌&&◌, ◌||◌, ltb, eqb, length, get_or}
use Rattle.std.proofs.Common.{suc-le-suc, zero-lt-suc, not-suc-le-zero, le_of_suc-le-suc, arith, sym, ◌∙◌, length-append, eqb-true, ltb-true, ne_eqb, lt-ltb}
use Rattle.std.proofs.Math.Path.{ap}
use Rattle.std.proofs.Math.Bool.{false, cond}
use mathlib.Core.List.{List, [], ◌∷◌, ◌++◌, append_assoc}
use Rattle.std.proofs.Math.ListN.{get_or-append}
use Rattle.definitions.specs.Decimal.{is_digit, value_from}
use Rattle.laws.specs.general.Cases.{clash}
use Rattle.laws.specs.general.Decimals.{digit_range}
use Rattle.pgm_format.specs.Pgm.{is_white, Gap, none, white, comment, Field}
use Rattle.pgm_format.specs.Pgm.{after_gap, digits_of, after_digits, Reading, missing, found, field_of}

-- ---- bytes

digit_not_white : (b : ℕ) → is_digit b ≡ true → is_white b ≡ false
unfolding is_white
digit_not_white b e =
    let r = digit_range b e in
    let no : (n : ℕ) → n < 48 → eqb b n ≡ false = λ n h. ne_eqb b n (λ q. omega (arith, r.0, h)) in
    ap (λ (t : Bool). t || eqb b 9 || eqb b 13 || eqb b 10) (no 32 (omega arith))
    ∙ ap (λ (t : Bool). t || eqb b 13 || eqb b 10) (no 9 (omega arith))
    ∙ ap (λ (t : Bool). t || eqb b 10) (no 13 (omega arith))
    ∙ no 10 (omega arith)

digit_not_hash : (b : ℕ) → is_digit b ≡ true → eqb b 35 ≡ false
digit_not_hash b e = let r = digit_range b e in ne_eqb b 35 (λ q. omega (arith, r.0))

pub white_not_digit : (b : ℕ) → is_white b ≡ true → is_digit b ≡ false
white_not_digit b e = on (is_digit b) refl
  where
    on : (t : Bool) → is_digit b ≡ t → is_digit b ≡ false
    on true p = clash (sym e ∙ digit_not_white b p)
    on false p = p

hash_not_white : is_white 35 ≡ false
unfolding is_white
hash_not_white = refl

pub hash_not_digit : is_digit 35 ≡ false
unfolding is_digit
hash_not_digit = refl

-- ---- white space and comments

-- what follows a gap begins with neither white space nor #
pub record Ends (l : List ℕ) : Type 0 where
  pub not_white : is_white (get_or l 0 0) ≡ false
  pub not_hash : eqb (get_or l 0 0) 35 ≡ false

ended : (l : List ℕ) → Ends l → after_gap false l ≡ l
unfolding after_gap
ended [] e = refl
ended (b ∷ l) e =
    ap (λ (t : Bool). cond t (after_gap false l) (cond (eqb b 35) (after_gap true l) (b ∷ l))) e.not_white
    ∙ ap (λ (t : Bool). cond t (after_gap true l) (b ∷ l)) e.not_hash

-- no line feed is among some bytes
abbrev Plain : List ℕ → Type 0
Plain c = (i : ℕ) → i < length c → eqb (get_or c i 0) 10 ≡ false

plain_more : (b : ℕ) (c : List ℕ) → eqb b 10 ≡ false → Plain c → Plain (b ∷ c)
plain_more b c e p zero j = e
plain_more b c e p (suc i) j = p i (le_of_suc-le-suc j)

in_comment : (c l : List ℕ) → Plain c → after_gap true (c ++ (10 ∷ l)) ≡ after_gap false l
unfolding after_gap
in_comment [] l h = refl
in_comment (b ∷ c) l h =
    ap (λ (t : Bool). after_gap (not t) (c ++ (10 ∷ l))) (h 0 (zero-lt-suc (length c)))
    ∙ in_comment c l (λ i k. h (suc i) (suc-le-suc k))

pub gap_skipped : (g r : List ℕ) → Gap g → Ends r → after_gap false (g ++ r) ≡ r
unfolding after_gap
gap_skipped g r none e = ended r e
gap_skipped g r (white b l w s) e =
    ap (λ (t : Bool). cond t (after_gap false (l ++ r)) (cond (eqb b 35) (after_gap true (l ++ r)) (b ∷ (l ++ r)))) w ∙ gap_skipped l r s e
gap_skipped g r (comment c l n s) e =
    ap (λ (t : Bool). cond t (after_gap false ((c ++ (10 ∷ l)) ++ r)) (after_gap true ((c ++ (10 ∷ l)) ++ r))) hash_not_white
    ∙ ap (after_gap true) (append_assoc c (10 ∷ l) r)
    ∙ in_comment c (l ++ r) n
    ∙ gap_skipped l r s e

-- a gap that is not empty begins with no digit, so that the digits before it end there
pub gap_not_digit : (g r : List ℕ) → Gap g → 0 < length g → is_digit (get_or (g ++ r) 0 0) ≡ false
gap_not_digit g r none h = absurd (not-suc-le-zero h)
gap_not_digit g r (white b l w s) h = white_not_digit b w
gap_not_digit g r (comment c l n s) h = hash_not_digit

-- the other way: a list that goes on behind its gap, or inside a comment, begins with one
record Closed (l r : List ℕ) : Type 0 where
  gap : List ℕ
  spaced : Gap gap
  parts : l ≡ gap ++ r

record Open (l r : List ℕ) : Type 0 where
  text : List ℕ
  gap : List ℕ
  plain : Plain text
  spaced : Gap gap
  parts : l ≡ text ++ (10 ∷ (gap ++ r))

abbrev Front : Bool → List ℕ → List ℕ → Type 0
Front true l r = Open l r
Front false l r = Closed l r

abbrev Fronts : List ℕ → Type 0
Fronts l = (inside : Bool) → 0 < length (after_gap inside l) → Front inside l (after_gap inside l)

front : (inside : Bool) (l : List ℕ) → 0 < length (after_gap inside l) → Front inside l (after_gap inside l)
unfolding after_gap
front true [] h = absurd (not-suc-le-zero h)
front false [] h = absurd (not-suc-le-zero h)
front true (b ∷ l) h = on (λ s k. front s l k) (eqb b 10) refl h
  where
    on : Fronts l → (t : Bool) → eqb b 10 ≡ t → 0 < length (after_gap (not t) l) → Open (b ∷ l) (after_gap (not t) l)
    on more true e k =
        let f = more false k in record {
          text = [];
          gap = f.gap;
          plain = λ i j. absurd (not-suc-le-zero j);
          spaced = f.spaced;
          parts = ap (λ (a : ℕ). a ∷ l) (eqb-true b 10 e) ∙ ap (λ (m : List ℕ). 10 ∷ m) f.parts;
        }
    on more false e k =
        let f = more true k in record {
          text = b ∷ f.text;
          gap = f.gap;
          plain = plain_more b f.text e f.plain;
          spaced = f.spaced;
          parts = ap (λ (m : List ℕ). b ∷ m) f.parts;
        }
front false (b ∷ l) h = on (λ s k. front s l k) (is_white b) (eqb b 35) refl refl h
  where
    on : Fronts l → (t s : Bool) → is_white b ≡ t → eqb b 35 ≡ s → 0 < length (cond t (after_gap false l) (cond s (after_gap true l) (b ∷ l)))
        → Closed (b ∷ l) (cond t (after_gap false l) (cond s (after_gap true l) (b ∷ l)))
    on more true s w e k =
        let f = more false k in record { gap = b ∷ f.gap; spaced = white b f.gap w f.spaced; parts = ap (λ (m : List ℕ). b ∷ m) f.parts }
    on more false true w e k =
        let f = more true k in record {
          gap = 35 ∷ (f.text ++ (10 ∷ f.gap));
          spaced = comment f.text f.gap f.plain f.spaced;
          parts =
              ap (λ (a : ℕ). a ∷ l) (eqb-true b 35 e)
              ∙ ap (λ (m : List ℕ). 35 ∷ m) (f.parts ∙ sym (append_assoc f.text (10 ∷ f.gap) (after_gap true l)));
        }
    on more false false w e k = record { gap = []; spaced = none; parts = refl }

-- ---- numbers

-- the digits of a list, where no digit follows
module _ (r : List ℕ) (e : is_digit (get_or r 0 0) ≡ false) where
  pub digits_read : (d : List ℕ) → ((i : ℕ) → i < length d → is_digit (get_or d i 0) ≡ true) → (digits_of (d ++ r) ≡ d) × (after_digits (d ++ r) ≡ r)
  unfolding digits_of after_digits
  digits_read [] h = end r e
    where
      end : (l : List ℕ) → is_digit (get_or l 0 0) ≡ false → (digits_of l ≡ []) × (after_digits l ≡ l)
      end [] q = (refl, refl)
      end (b ∷ l) q = (ap (λ (t : Bool). cond t (b ∷ digits_of l) []) q, ap (λ (t : Bool). cond t (after_digits l) (b ∷ l)) q)
  digits_read (b ∷ d) h =
      let first = h 0 (zero-lt-suc (length d)) in
      let rest = digits_read d (λ i k. h (suc i) (suc-le-suc k)) in (
        ap (λ (t : Bool). cond t (b ∷ digits_of (d ++ r)) []) first ∙ ap (λ (m : List ℕ). b ∷ m) rest.0,
        ap (λ (t : Bool). cond t (after_digits (d ++ r)) (b ∷ (d ++ r))) first ∙ rest.1,
      )

pub digits_front : (l : List ℕ) → l ≡ digits_of l ++ after_digits l
unfolding digits_of after_digits
digits_front [] = refl
digits_front (b ∷ l) = on (is_digit b) (digits_front l)
  where
    on : (t : Bool) → l ≡ digits_of l ++ after_digits l → b ∷ l ≡ cond t (b ∷ digits_of l) [] ++ cond t (after_digits l) (b ∷ l)
    on true rest = ap (λ (m : List ℕ). b ∷ m) rest
    on false rest = refl

digits_all : (l : List ℕ) (i : ℕ) → i < length (digits_of l) → is_digit (get_or (digits_of l) i 0) ≡ true
unfolding digits_of
digits_all [] i h = absurd (not-suc-le-zero h)
digits_all (b ∷ l) i h = on (λ j k. digits_all l j k) (is_digit b) refl i h
  where
    on : ((j : ℕ) → j < length (digits_of l) → is_digit (get_or (digits_of l) j 0) ≡ true) → (t : Bool) → is_digit b ≡ t → (j : ℕ)
        → j < length (cond t (b ∷ digits_of l) []) → is_digit (get_or (cond t (b ∷ digits_of l) []) j 0) ≡ true
    on rest true e zero k = e
    on rest true e (suc j) k = rest j (le_of_suc-le-suc k)
    on rest false e j k = absurd (not-suc-le-zero k)

-- ---- readings

module _ {A : Type 0} where
  pub found_or_missing {ℓ} : {X : Type ℓ} {a : A} {l : List ℕ} → missing ≡ found a l → X
  found_or_missing e = let z : ◌≡◌ {A = ℕ} 0 1 = cc in absurd (never z)
    where
      never : ◌≡◌ {A = ℕ} 0 1 → ⊥
      never h = omega arith

  pub same_found : {a b : A} {l m : List ℕ} → found a l ≡ found b m → (a ≡ b) × (l ≡ m)
  same_found e = (cc, cc)

-- ---- a field

-- a field is read, where no digit follows
pub field_read : {l : List ℕ} {n : ℕ} (r : List ℕ) → Field l n → is_digit (get_or r 0 0) ≡ false → field_of (l ++ r) ≡ found n r
unfolding field_of
field_read {l} {n} r f e =
    ap (λ (m : List ℕ). reading m (l ++ r)) skipped
    ∙ ap (λ (t : Bool). cond (t && ltb 0 (length (digits_of (d ++ r)))) (found (value_from 0 (digits_of (d ++ r))) (after_digits (d ++ r))) missing) shorter
    ∙ ap (λ (m : List ℕ). cond (ltb 0 (length m)) (found (value_from 0 m) (after_digits (d ++ r))) missing) read.0
    ∙ ap (λ (t : Bool). cond t (found (value_from 0 d) (after_digits (d ++ r))) missing) (lt-ltb 0 (length d) f.number.some)
    ∙ ap (λ (m : List ℕ). found (value_from 0 d) m) read.1
    ∙ ap (λ (v : ℕ). found v r) f.number.value
  where
    d : List ℕ
    d = f.digits

    reading : List ℕ → List ℕ → Reading ℕ
    reading m whole = cond (ltb (length m) (length whole) && ltb 0 (length (digits_of m))) (found (value_from 0 (digits_of m)) (after_digits m)) missing

    read : (digits_of (d ++ r) ≡ d) × (after_digits (d ++ r) ≡ r)
    read = digits_read r e d f.number.all

    parts : l ++ r ≡ f.gap ++ (d ++ r)
    parts = ap (λ (m : List ℕ). m ++ r) f.parts ∙ append_assoc f.gap d r

    first : is_digit (get_or (d ++ r) 0 0) ≡ true
    first = ap is_digit (get_or-append d r 0 0 f.number.some) ∙ f.number.all 0 f.number.some

    skipped : after_gap false (l ++ r) ≡ d ++ r
    skipped =
        ap (after_gap false) parts
        ∙ gap_skipped f.gap (d ++ r) f.spaced (record { not_white = digit_not_white (get_or (d ++ r) 0 0) first; not_hash = digit_not_hash (get_or (d ++ r) 0 0) first })

    shorter : ltb (length (d ++ r)) (length (l ++ r)) ≡ true
    shorter = lt-ltb (length (d ++ r)) (length (l ++ r)) (omega (arith, f.apart, ap length parts, length-append f.gap (d ++ r)))

-- a field begins with no digit
pub field_not_digit : {l : List ℕ} {n : ℕ} (r : List ℕ) → Field l n → is_digit (get_or (l ++ r) 0 0) ≡ false
field_not_digit {l} r f =
    ap (λ (m : List ℕ). is_digit (get_or m 0 0)) (ap (λ (m : List ℕ). m ++ r) f.parts ∙ append_assoc f.gap f.digits r)
    ∙ gap_not_digit f.gap (f.digits ++ r) f.spaced f.apart

-- the other way
pub record FieldFront (l : List ℕ) (n : ℕ) (r : List ℕ) : Type 0 where
  pub field : List ℕ
  pub is : Field field n
  pub parts : l ≡ field ++ r

pub field_front : (l : List ℕ) {n : ℕ} {r : List ℕ} → field_of l ≡ found n r → FieldFront l n r
unfolding field_of
field_front l {n} {r} e = on (ltb (length d) (length l)) (ltb 0 (length (digits_of d))) refl refl e
  where
    d : List ℕ
    d = after_gap false l

    on : (s t : Bool) → ltb (length d) (length l) ≡ s → ltb 0 (length (digits_of d)) ≡ t
        → cond (s && t) (found (value_from 0 (digits_of d)) (after_digits d)) missing ≡ found n r → FieldFront l n r
    on false t p q k = found_or_missing k
    on true false p q k = found_or_missing k
    on true true p q k =
        let some : 0 < length (digits_of d) = ltb-true 0 (length (digits_of d)) q in
        let split : length d ≡ length (digits_of d) + length (after_digits d) = ap length (digits_front d) ∙ length-append (digits_of d) (after_digits d) in
        let f : Closed l d = front false l (omega (arith, some, split)) in
        let less : length d < length l = ltb-true (length d) (length l) p in
        let whole : length l ≡ length f.gap + length d = ap length f.parts ∙ length-append f.gap d in
        let same = same_found k in record {
          field = f.gap ++ digits_of d;
          is = record {
            gap = f.gap;
            digits = digits_of d;
            parts = refl;
            apart = omega (arith, less, whole);
            spaced = f.spaced;
            number = record { some = some; all = digits_all d; value = same.0 };
          };
          parts =
              f.parts
              ∙ ap (λ (m : List ℕ). f.gap ++ m) (digits_front d ∙ ap (λ (m : List ℕ). digits_of d ++ m) same.1)
              ∙ sym (append_assoc f.gap (digits_of d) r);
        }
