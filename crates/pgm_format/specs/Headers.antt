-- A header is read whole, whatever follows it, and what is read is a header: at the front of a list, and at a place of a file.
use Rattle.std.specs.Prelude.{ℕ, ◌+◌, ◌<◌, ◌≤◌, ◌≡◌, refl, Bool, true, false, cond, ◌&&◌, List, [], ◌∷◌, ◌++◌, eqb, length, get_or, take, drop}
use Rattle.std.proofs.Common.{arith, sym, ap, subst, ◌∙◌, append_assoc, ⊎_elim, length-append, take-append-drop, drop_of_length-le, drop_at, length-take-le, eqb-true}
use Rattle.definitions.specs.Decimal.{is_digit}
use Rattle.laws.specs.general.Cases.{lt_or_le}
use Rattle.pgm_format.specs.Pgm.{is_white, Field, Header, HeaderAt, Reading, missing, found, and_then, magic, field_of, one_white, Sizes, header_of}
use Rattle.pgm_format.specs.Fronts.{white_not_digit, found_or_missing, same_found, field_read, field_not_digit, field_front}

-- ---- a header

abbrev pub sizes : ℕ → ℕ → ℕ → Sizes
sizes w h top = record { width = w; height = h; highest = top }

-- a header is read, whatever follows
pub header_read : {head : List ℕ} {w h top : ℕ} (rest : List ℕ) → Header head w h top → header_of (head ++ rest) ≡ found (sizes w h top) rest
unfolding header_of and_then magic one_white
header_read {head} {w} {h} {top} rest r =
    ap (λ (l : List ℕ). header_of (l ++ rest)) r.parts
    ∙ ap (λ (l : List ℕ). behind l) (append_assoc r.wide (r.high ++ (r.most ++ (r.last ∷ []))) rest)
    ∙ ap (λ (f : Reading ℕ). and_then f fields) (field_read c r.width (ap (λ (l : List ℕ). is_digit (get_or l 0 0)) high_parts ∙ field_not_digit b r.height))
    ∙ ap (λ (l : List ℕ). and_then (field_of l) (λ (v : ℕ) (m : List ℕ). last_field w v m)) high_parts
    ∙ ap (λ (f : Reading ℕ). and_then f (λ (v : ℕ) (m : List ℕ). last_field w v m))
    (field_read b r.height (ap (λ (l : List ℕ). is_digit (get_or l 0 0)) most_parts ∙ field_not_digit (r.last ∷ rest) r.highest))
    ∙ ap (λ (l : List ℕ). last_field w h l) most_parts
    ∙ ap (λ (f : Reading ℕ). and_then f (λ (v : ℕ) (m : List ℕ). one_white (sizes w h v) m)) (field_read (r.last ∷ rest) r.highest (white_not_digit r.last r.ends))
    ∙ ap (λ (t : Bool). cond t (found (sizes w h top) rest) missing) r.ends
  where
    b : List ℕ
    b = (r.most ++ (r.last ∷ [])) ++ rest

    c : List ℕ
    c = (r.high ++ (r.most ++ (r.last ∷ []))) ++ rest

    high_parts : c ≡ r.high ++ b
    high_parts = append_assoc r.high (r.most ++ (r.last ∷ [])) rest

    most_parts : b ≡ r.most ++ (r.last ∷ rest)
    most_parts = append_assoc r.most (r.last ∷ []) rest

    last_field : ℕ → ℕ → List ℕ → Reading Sizes
    last_field u v m = and_then (field_of m) (λ (t : ℕ) (k : List ℕ). one_white (sizes u v t) k)

    fields : ℕ → List ℕ → Reading Sizes
    fields u l = and_then (field_of l) (λ (v : ℕ) (m : List ℕ). last_field u v m)

    behind : List ℕ → Reading Sizes
    behind l = and_then (field_of l) fields

-- the other way: what is read is a header
pub record HeaderFront (l : List ℕ) (s : Sizes) (rest : List ℕ) : Type 0 where
  pub head : List ℕ
  pub is : Header head s.width s.height s.highest
  pub parts : l ≡ head ++ rest

-- a reading with another one behind it is found where both are
record Both {A B : Type 0} (x : Reading A) (f : A → List ℕ → Reading B) (b : B) (rest : List ℕ) : Type 0 where
  first : A
  middle : List ℕ
  one : x ≡ found first middle
  two : f first middle ≡ found b rest

both : {A B : Type 0} (x : Reading A) (f : A → List ℕ → Reading B) {b : B} {rest : List ℕ} → and_then x f ≡ found b rest → Both x f b rest
unfolding and_then
both missing f e = found_or_missing e
both (found a l) f e = record { first = a; middle = l; one = refl; two = e }

magic_front : (l : List ℕ) {u : Unit {0}} {r : List ℕ} → magic l ≡ found u r → l ≡ 80 ∷ 53 ∷ r
unfolding magic
magic_front [] e = found_or_missing e
magic_front (p ∷ []) e = found_or_missing e
magic_front (p ∷ five ∷ l) {u} {r} e = on (eqb p 80) (eqb five 53) refl refl e
  where
    on : (s t : Bool) → eqb p 80 ≡ s → eqb five 53 ≡ t → cond (s && t) (found tt l) missing ≡ found u r → p ∷ five ∷ l ≡ 80 ∷ 53 ∷ r
    on false t a b k = found_or_missing k
    on true false a b k = found_or_missing k
    on true true a b k =
        ap (λ (q : ℕ). q ∷ five ∷ l) (eqb-true p 80 a)
        ∙ ap (λ (q : ℕ). 80 ∷ q ∷ l) (eqb-true five 53 b)
        ∙ ap (λ (m : List ℕ). 80 ∷ 53 ∷ m) (same_found k).1

record WhiteFront {A : Type 0} (a b : A) (l rest : List ℕ) : Type 0 where
  last : ℕ
  ends : is_white last ≡ true
  parts : l ≡ last ∷ rest
  same : a ≡ b

white_front : {A : Type 0} (a : A) (l : List ℕ) {b : A} {rest : List ℕ} → one_white a l ≡ found b rest → WhiteFront a b l rest
unfolding one_white
white_front a [] e = found_or_missing e
white_front a (c ∷ l) {b} {rest} e = on (is_white c) refl e
  where
    on : (t : Bool) → is_white c ≡ t → cond t (found a l) missing ≡ found b rest → WhiteFront a b (c ∷ l) rest
    on false p k = found_or_missing k
    on true p k = record { last = c; ends = p; parts = ap (λ (m : List ℕ). c ∷ m) (same_found k).1; same = (same_found k).0 }

pub header_front : (l : List ℕ) {s : Sizes} {rest : List ℕ} → header_of l ≡ found s rest → HeaderFront l s rest
unfolding header_of
header_front l {s} {rest} e =
    let a = both _ _ e in
    let b = both _ _ a.two in
    let c = both _ _ b.two in
    let d = both _ _ c.two in
    let w = field_front _ b.one in
    let h = field_front _ c.one in
    let t = field_front _ d.one in
    let z = white_front _ _ d.two in record {
      head = 80 ∷ 53 ∷ (w.field ++ (h.field ++ (t.field ++ (z.last ∷ []))));
      is = record {
        wide = w.field;
        high = h.field;
        most = t.field;
        last = z.last;
        parts = refl;
        width = subst (λ (q : Sizes). Field w.field q.width) z.same w.is;
        height = subst (λ (q : Sizes). Field h.field q.height) z.same h.is;
        highest = subst (λ (q : Sizes). Field t.field q.highest) z.same t.is;
        ends = z.ends;
      };
      parts =
          magic_front l a.one
          ∙ ap (λ (m : List ℕ). 80 ∷ 53 ∷ m)
          (w.parts
          ∙ ap (λ (m : List ℕ). w.field ++ m)
          (h.parts ∙ ap (λ (m : List ℕ). h.field ++ m) (t.parts ∙ ap (λ (m : List ℕ). t.field ++ m) z.parts ∙ sym (append_assoc t.field (z.last ∷ []) rest))
          ∙ sym (append_assoc h.field (t.field ++ (z.last ∷ [])) rest))
          ∙ sym (append_assoc w.field (h.field ++ (t.field ++ (z.last ∷ []))) rest));
    }

-- ---- a header at a place

pub at_read : (file : List ℕ) (at : ℕ) {w h top : ℕ} {rest : List ℕ} → HeaderAt file at w h top rest → header_of (drop at file) ≡ found (sizes w h top) rest
at_read file at {rest = rest} a =
    ap header_of (ap (drop at) a.parts ∙ drop_at a.before (a.head ++ rest) at a.place) ∙ header_read rest a.header

nothing : header_of [] ≡ missing
unfolding header_of and_then magic
nothing = refl

pub at_front : (file : List ℕ) (at : ℕ) {s : Sizes} {rest : List ℕ} → header_of (drop at file) ≡ found s rest → HeaderAt file at s.width s.height s.highest rest
at_front file at {s} {rest} e = ⊎_elim
    (λ (h : at < length file). let f = header_front (drop at file) e in record {
      before = take at file;
      head = f.head;
      parts = sym (take-append-drop at file) ∙ ap (λ (l : List ℕ). take at file ++ l) f.parts;
      place = length-take-le at file (omega arith);
      header = f.is;
    })
    (λ (h : length file ≤ at). found_or_missing (sym nothing ∙ ap header_of (sym (drop_of_length-le file h)) ∙ e))
    (lt_or_le at (length file))

-- what stands before the rest
pub at_long : {file : List ℕ} {at w h top : ℕ} {rest : List ℕ} (a : HeaderAt file at w h top rest) → length file ≡ at + length a.head + length rest
at_long {rest = rest} a =
    ap length a.parts ∙ length-append a.before (a.head ++ rest)
    ∙ ap (λ (n : ℕ). length a.before + n) (length-append a.head rest)
    ∙ omega (arith, a.place)
