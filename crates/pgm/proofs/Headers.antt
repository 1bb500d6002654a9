-- P5, a field, one white space byte and a header, by the tests that the code makes.
use mathlib.Core.Path.{◌≡◌, refl, sym, ap, subst, ◌∙◌}
use mathlib.Core.Bool.{Bool, true, false, cond, ◌&&◌}
use mathlib.Core.List.{List, [], ◌∷◌}
use Prim.Native.Nat.{ℕ, suc, ◌+◌, ◌-◌, ◌≤◌, ◌<◌}
use native.Mathlib.Omega.{arith}
use borrow.Author.Tests.{lt-ltb, le-ltb, eq-eqb, ne_eqb}
use lib.Dec.{eqb, ltb}
use lib.ListN.{length, get_or, drop, length-drop, drop_of_length-le}
use Rattle.std.specs.Prelude.{Some, None}
use Rattle.laws.specs.general.Cases.{cond_true, cond_false, and_yes, and_no}
use Rattle.definitions.specs.Decimal.{value_from}
use Rattle.pgm_format.specs.Pgm.{is_white, after_gap, digits_of, after_digits, Reading, missing, found, magic, and_then, field_of, one_white, Sizes, header_of}
use Rattle.pgm.specs.declared.header.Number.{Number}
use Rattle.pgm.specs.declared.header.Head.{Head}
use Rattle.pgm.specs.Inner.{From, kept, ReadAs, PlaceIs, FieldIs, HeaderIs}
use Rattle.pgm.proofs.Places.{split, no_sooner, gap_length}
use Rattle.pgm.proofs.Numbers.{NumberAt, digits_length}

-- ---- P5

module _ (file : List ℕ) (at : ℕ) where
  few : (l : List ℕ) → length l < 2 → magic l ≡ missing
  unfolding magic
  few [] h = refl
  few (p ∷ []) h = refl
  few (p ∷ q ∷ l) h = absurd (never h)
    where
      never : {n : ℕ} → suc (suc n) < 2 → ⊥
      never h = omega arith

  abbrev tested : Bool
  tested = eqb (get_or file at 0) 80 && eqb (get_or file (at + 1) 0) 53

  magic_here : at + 2 ≤ length file → magic (drop at file) ≡ cond tested (found tt (drop (at + 2) file)) missing
  unfolding magic
  magic_here h =
      let two : at + 1 + 1 ≡ at + 2 = omega arith in
      ap magic
      (split file at (omega arith)
      ∙ ap (λ (l : List ℕ). get_or file at 0 ∷ l) (split file (at + 1) (omega arith) ∙ ap (λ (k : ℕ). get_or file (at + 1) 0 ∷ drop k file) two))

  abbrev NoMagic : Type 0
  NoMagic = PlaceIs file (magic (drop at file)) None

  none_here : magic (drop at file) ≡ missing → NoMagic
  none_here e = subst (λ (r : Reading (Unit {0})). PlaceIs file r None) (sym e) tt

  pub magic_short : length file < at + 2 → NoMagic
  magic_short h = none_here (few (drop at file) (omega (arith, length-drop at file)))

  module _ (h : at + 2 ≤ length file) where
    pub magic_other : (get_or file at 0 ≡ 80 → ⊥) → NoMagic
    magic_other e = none_here (magic_here h ∙ cond_false _ _ (ap (λ (t : Bool). t && eqb (get_or file (at + 1) 0) 53) (ne_eqb _ 80 e)))

    pub magic_cut : (get_or file (at + 1) 0 ≡ 53 → ⊥) → NoMagic
    magic_cut e = none_here (magic_here h ∙ cond_false _ _ (and_no (eqb (get_or file at 0) 80) (ne_eqb _ 53 e)))

    pub magic_found : get_or file at 0 ≡ 80 → get_or file (at + 1) 0 ≡ 53 → PlaceIs file (magic (drop at file)) (Some (at + 2))
    magic_found p q =
        subst (λ (r : Reading (Unit {0})). PlaceIs file r (Some (at + 2)))
        (sym (magic_here h ∙ cond_true _ _ (and_yes (eq-eqb _ 80 p) (eq-eqb _ 53 q))))
        (record { inside = h; left = refl })

-- ---- a field

module _ {file : List ℕ} {at from : ℕ} (h : at ≤ length file) (p : From file (after_gap false (drop at file)) from) where
  abbrev digits : List ℕ
  digits = digits_of (after_gap false (drop at file))

  -- how much is left behind the gap
  behind : length (after_gap false (drop at file)) ≡ length file - from
  behind = sym (ap length p.left) ∙ length-drop from file

  no_field : ltb (length (after_gap false (drop at file))) (length (drop at file)) && ltb 0 (length digits) ≡ false
      → FieldIs file (field_of (drop at file)) None
  unfolding field_of
  no_field e = subst (λ (r : Reading ℕ). FieldIs file r None) (sym (cond_false _ _ e)) tt

  -- no gap
  pub field_joined : from ≡ at → FieldIs file (field_of (drop at file)) None
  field_joined e =
      no_field
      (ap (λ (t : Bool). t && ltb 0 (length digits))
      (le-ltb (length (after_gap false (drop at file))) (length (drop at file)) (omega (arith, behind, length-drop at file))))

  module _ (n : Number) (q : NumberAt file from n.value n.next) where
    -- what is left behind the digits
    beyond : length digits + (length file - n.next) ≡ length file - from
    beyond =
        let d = drop from file in
        omega (arith, digits_length d, length-drop from file, length-drop n.next file, ap length q.1.left, ap (λ (l : List ℕ). length (digits_of l)) p.left)

    -- no digits
    pub field_bare : n.next ≡ from → FieldIs file (field_of (drop at file)) None
    field_bare e = no_field (and_no (ltb (length (after_gap false (drop at file))) (length (drop at file))) (le-ltb 0 (length digits) (omega (arith, beyond))))

    pub field_found : (from ≡ at → ⊥) → (n.next ≡ from → ⊥) → FieldIs file (field_of (drop at file)) (Some n)
    unfolding field_of
    field_found e f =
        subst (λ (r : Reading ℕ). FieldIs file r (Some n))
        (sym
        (cond_true _ _
        (and_yes
        (lt-ltb (length (after_gap false (drop at file))) (length (drop at file)) (omega (arith, behind, length-drop at file, later)))
        (lt-ltb 0 (length digits) (omega (arith, beyond, q.1.inside, p.inside)))))) (
          q.0 ∙ ap (λ (l : List ℕ). kept (value_from 0 (digits_of l))) p.left,
          record { inside = q.1.inside; left = q.1.left ∙ ap after_digits p.left },
        )
      where
        later : at ≤ from
        later = no_sooner h p (gap_length false (drop at file))

-- ---- one white space byte

module _ (file : List ℕ) (at : ℕ) where
  abbrev u : Unit {0}
  u = tt

  abbrev NoWhite : Type 0
  NoWhite = PlaceIs file (one_white u (drop at file)) None

  module _ (h : at < length file) where
    white_here : one_white u (drop at file) ≡ cond (is_white (get_or file at 0)) (found u (drop (at + 1) file)) missing
    unfolding one_white
    white_here = ap (one_white u) (split file at h)

    pub white_found : is_white (get_or file at 0) ≡ true → PlaceIs file (one_white u (drop at file)) (Some (at + 1))
    white_found e =
        subst (λ (r : Reading (Unit {0})). PlaceIs file r (Some (at + 1))) (sym (white_here ∙ cond_true _ _ e)) (record { inside = omega arith; left = refl })

    pub white_other : is_white (get_or file at 0) ≡ false → NoWhite
    white_other e = subst (λ (r : Reading (Unit {0})). PlaceIs file r None) (sym (white_here ∙ cond_false _ _ e)) tt

  pub white_end : length file ≤ at → NoWhite
  unfolding one_white
  white_end h = subst (λ (l : List ℕ). PlaceIs file (one_white u l) None) (sym (drop_of_length-le file h)) tt

-- ---- a reading

-- Something was read.
pub record Got {A T : Type 0} (P : A → List ℕ → T → Type 0) (r : Reading A) (t : T) : Type 0 where
  pub value : A
  pub left : List ℕ
  pub is : r ≡ found value left
  pub holds : P value left t

module _ {A T : Type 0} (P : A → List ℕ → T → Type 0) where
  pub got : (r : Reading A) {t : T} → ReadAs P r (Some t) → Got P r t
  got missing h = absurd h
  got (found a l) h = record { value = a; left = l; is = refl; holds = h }

  pub none_read : (r : Reading A) → ReadAs P r None → r ≡ missing
  none_read missing h = refl
  none_read (found a l) h = absurd h

-- ---- a header

-- what is read behind the three numbers, behind two, behind one, and behind P5
abbrev pub from_last : ℕ → ℕ → ℕ → List ℕ → Reading Sizes
from_last w h top d = one_white (record { width = w; height = h; highest = top }) d

abbrev pub from_highest : ℕ → ℕ → List ℕ → Reading Sizes
from_highest w h c = and_then (field_of c) (λ (top : ℕ) (d : List ℕ). from_last w h top d)

abbrev pub from_height : ℕ → List ℕ → Reading Sizes
from_height w b = and_then (field_of b) (λ (h : ℕ) (c : List ℕ). from_highest w h c)

abbrev pub from_width : List ℕ → Reading Sizes
from_width a = and_then (field_of a) (λ (w : ℕ) (b : List ℕ). from_height w b)

pub header_none : (l : List ℕ) → magic l ≡ missing → header_of l ≡ missing
unfolding header_of and_then
header_none l e = ap (λ (r : Reading (Unit {0})). and_then r (λ (u : Unit {0}) (a : List ℕ). from_width a)) e

pub header_on : (l : List ℕ) {u : Unit {0}} {a : List ℕ} → magic l ≡ found u a → header_of l ≡ from_width a
unfolding header_of and_then
header_on l e = ap (λ (r : Reading (Unit {0})). and_then r (λ (u : Unit {0}) (a : List ℕ). from_width a)) e

-- A field was read: its number n, and what is left of the whole reading, f behind it.
pub record Step (file : List ℕ) (whole : Reading Sizes) (f : ℕ → List ℕ → Reading Sizes) (r : Number) : Type 0 where
  pub n : ℕ
  pub value : r.value ≡ kept n
  pub inside : r.next ≤ length file
  pub goes : whole ≡ f n (drop r.next file)

module _ (file l : List ℕ) (f : ℕ → List ℕ → Reading Sizes) {whole : Reading Sizes} (w : whole ≡ and_then (field_of l) f) where
  pub step_none : FieldIs file (field_of l) None → whole ≡ missing
  unfolding and_then
  step_none p = w ∙ ap (λ (g : Reading ℕ). and_then g f) (none_read _ (field_of l) p)

  pub step : {k : Number} → FieldIs file (field_of l) (Some k) → Step file whole f k
  unfolding and_then
  step p = let g = got _ (field_of l) p in record {
    n = g.value;
    value = g.holds.0;
    inside = g.holds.1.inside;
    goes = w ∙ ap (λ (r : Reading ℕ). and_then r f) g.is ∙ sym (ap (f g.value) g.holds.1.left);
  }

-- what is read of the byte behind the highest value is read with the sizes
module _ (s : Sizes) where
  pub last_none : (l : List ℕ) → one_white (tt {0}) l ≡ missing → one_white s l ≡ missing
  unfolding one_white
  last_none [] e = refl
  last_none (b ∷ l) e = on (is_white b) e
    where
      on : (t : Bool) → cond {A = Reading (Unit {0})} t (found tt l) missing ≡ missing → cond t (found s l) missing ≡ missing
      on true k = cc
      on false k = refl

  pub last_found : (l : List ℕ) {u : Unit {0}} {m : List ℕ} → one_white (tt {0}) l ≡ found u m → one_white s l ≡ found s m
  unfolding one_white
  last_found [] e = cc
  last_found (b ∷ l) {u} {m} e = on (is_white b) e
    where
      on : (t : Bool) → cond {A = Reading (Unit {0})} t (found tt l) missing ≡ found u m → cond t (found s l) missing ≡ found s m
      on true k = cc
      on false k = cc

-- what read_header answers
pub header_missing : (file l : List ℕ) → header_of l ≡ missing → HeaderIs file (header_of l) None
header_missing file l e = subst (λ (r : Reading Sizes). HeaderIs file r None) (sym e) tt

pub header_found : (file l : List ℕ) {s : Sizes} (h : Head) → header_of l ≡ found s (drop h.start file) → h.start ≤ length file
    → (h.width ≡ kept s.width) × (h.height ≡ kept s.height) × (h.highest ≡ kept s.highest) → HeaderIs file (header_of l) (Some h)
header_found file l h e i p =
    subst (λ (r : Reading Sizes). HeaderIs file r (Some h)) (sym e) (p.0, p.1, p.2, record { inside = i; left = refl })
