-- A number in decimal: its last digit and those before it, how many there are, and that it is the shortest numeral of its value.
use Rattle.std.specs.Prelude.{◌≡◌, refl, Bool, true, false, ◌&&◌, List, [], ◌∷◌, ◌++◌, ℕ, zero, suc, ◌+◌, ◌-◌, ◌*◌, ◌/◌, ◌%◌, ◌^◌, ◌≤◌, ◌<◌, leb, length, get_or, replicate}
use Rattle.std.proofs.Common.{sym, ap, subst, ◌∙◌, append-nil, append_assoc, ⊎_elim, suc-le-suc, zero-lt-suc, not-suc-le-zero, le_of_suc-le-suc, arith, lt-ltb, le-ltb, le-leb, leb-true, length-append}
use Rattle.std.proofs.Math.ListN.{get_or-append}
use Rattle.definitions.specs.Decimal.{is_digit, value_from, Numeral, digits_up_to, decimal}
use Rattle.laws.specs.general.Cases.{lt_or_le, eq_or_ne, clash, cond_true, cond_false, and_yes}

-- ---- bytes

pub digit_range : (b : ℕ) → is_digit b ≡ true → (48 ≤ b) × (b ≤ 57)
unfolding is_digit
digit_range b e = on (leb 48 b) refl e
  where
    on : (t : Bool) → leb 48 b ≡ t → (t && leb b 57) ≡ true → (48 ≤ b) × (b ≤ 57)
    on true p q = (leb-true 48 b p, leb-true b 57 q)
    on false p q = clash (sym q)

range_digit : (b : ℕ) → 48 ≤ b → b ≤ 57 → is_digit b ≡ true
unfolding is_digit
range_digit b h k = and_yes (le-leb 48 b h) (le-leb b 57 k)

-- ---- digit by digit

small_up_to : (most n : ℕ) → n < 10 → digits_up_to (suc most) n ≡ (48 + n) ∷ []
unfolding digits_up_to
small_up_to most n h = cond_true _ _ (lt-ltb n 10 h)

more_up_to : (most n : ℕ) → 10 ≤ n → digits_up_to (suc most) n ≡ digits_up_to most (n / 10) ++ ((48 + n % 10) ∷ [])
unfolding digits_up_to
more_up_to most n h = cond_false _ _ (le-ltb n 10 h)

-- no more digits are asked for than there are
enough : (a b n : ℕ) → n ≤ a → n ≤ b → digits_up_to a n ≡ digits_up_to b n
unfolding digits_up_to
enough zero zero n h k = refl
enough zero (suc b) n h k = let e : n ≡ 0 = omega arith in ap (λ (m : ℕ). (48 + m) ∷ []) (sym e) ∙ sym (small_up_to b n (omega arith))
enough (suc a) zero n h k = let e : n ≡ 0 = omega arith in small_up_to a n (omega arith) ∙ ap (λ (m : ℕ). (48 + m) ∷ []) e
enough (suc a) (suc b) n h k = ⊎_elim
    (λ (l : n < 10). small_up_to a n l ∙ sym (small_up_to b n l))
    (λ (l : 10 ≤ n). more_up_to a n l ∙ ap (λ (d : List ℕ). d ++ ((48 + n % 10) ∷ [])) (enough a b (n / 10) (omega arith) (omega arith)) ∙ sym (more_up_to b n l))
    (lt_or_le n 10)

-- a digit alone
pub decimal_one : (n : ℕ) → n < 10 → decimal n ≡ (48 + n) ∷ []
unfolding decimal
decimal_one n h = enough n (suc n) n (omega arith) (omega arith) ∙ small_up_to n n h

-- the last digit, behind those of a tenth
pub decimal_more : (n : ℕ) → 10 ≤ n → decimal n ≡ decimal (n / 10) ++ ((48 + n % 10) ∷ [])
unfolding decimal
decimal_more n h =
    enough n (suc n) n (omega arith) (omega arith)
    ∙ more_up_to n n h
    ∙ ap (λ (d : List ℕ). d ++ ((48 + n % 10) ∷ [])) (enough n (n / 10) (n / 10) (omega arith) (omega arith))

-- by a fall to a tenth
pub by_tenths : (P : ℕ → Type 0) → ((n : ℕ) → n < 10 → P n) → ((n : ℕ) → 10 ≤ n → P (n / 10) → P n) → (n : ℕ) → P n
by_tenths P one more n = on n n (omega arith)
  where
    on : (most n : ℕ) → n ≤ most → P n
    on zero n h = one n (omega arith)
    on (suc most) n h = ⊎_elim (λ (l : n < 10). one n l) (λ (l : 10 ≤ n). more n l (on most (n / 10) (omega arith))) (lt_or_le n 10)

-- ---- how many digits

pub decimal_longer : (n : ℕ) → 10 ≤ n → length (decimal n) ≡ suc (length (decimal (n / 10)))
decimal_longer n h = omega (arith, ap length (decimal_more n h), length-append (decimal (n / 10)) ((48 + n % 10) ∷ []))

pub decimal_some : (n : ℕ) → 0 < length (decimal n)
decimal_some n = ⊎_elim
    (λ (l : n < 10). omega (arith, ap length (decimal_one n l)))
    (λ (l : 10 ≤ n). omega (arith, decimal_longer n l))
    (lt_or_le n 10)

pub decimal_few : (k n : ℕ) → n < 10 ^ suc k → length (decimal n) ≤ suc k
decimal_few zero n h = let l : n < 10 = omega arith in omega (arith, ap length (decimal_one n l))
decimal_few (suc k) n h = ⊎_elim
    (λ (l : n < 10). omega (arith, ap length (decimal_one n l)))
    (λ (l : 10 ≤ n). omega (arith, decimal_longer n l, decimal_few k (n / 10) (omega arith)))
    (lt_or_le n 10)

-- ---- the number that they write

value_append : (n : ℕ) (d e : List ℕ) → value_from n (d ++ e) ≡ value_from (value_from n d) e
unfolding value_from
value_append n [] e = refl
value_append n (b ∷ d) e = value_append (10 * n + (b - 48)) d e

-- a digit behind others
value_more : (d : List ℕ) (m c : ℕ) → value_from 0 d ≡ m → value_from 0 (d ++ (c ∷ [])) ≡ 10 * m + (c - 48)
unfolding value_from
value_more d m c e = value_append 0 d (c ∷ []) ∙ ap (λ (v : ℕ). 10 * v + (c - 48)) e

abbrev Digits : List ℕ → Type 0
Digits d = (i : ℕ) → i < length d → is_digit (get_or d i 0) ≡ true

all_append : (d : List ℕ) (c : ℕ) → is_digit c ≡ true → Digits d → Digits (d ++ (c ∷ []))
all_append [] c e a zero h = e
all_append [] c e a (suc i) h = absurd (not-suc-le-zero (le_of_suc-le-suc h))
all_append (b ∷ d) c e a zero h = a 0 (zero-lt-suc (length d))
all_append (b ∷ d) c e a (suc i) h = all_append d c e (λ j k. a (suc j) (suc-le-suc k)) i (le_of_suc-le-suc h)

digit_numeral : (n : ℕ) → n < 10 → Numeral ((48 + n) ∷ []) n
unfolding value_from
digit_numeral n h = record {
  some = omega arith;
  all = λ i k. let e : i ≡ 0 = omega arith in ap (λ (j : ℕ). is_digit (get_or ((48 + n) ∷ []) j 0)) e ∙ range_digit (48 + n) (omega arith) (omega arith);
  value = omega arith;
}

pub decimal_numeral : (n : ℕ) → Numeral (decimal n) n
decimal_numeral = by_tenths (λ (n : ℕ). Numeral (decimal n) n)
    (λ n h. subst (λ (d : List ℕ). Numeral d n) (sym (decimal_one n h)) (digit_numeral n h))
    (λ n h p. subst (λ (d : List ℕ). Numeral d n) (sym (decimal_more n h)) (record {
      some = omega (arith, length-append (decimal (n / 10)) ((48 + n % 10) ∷ []));
      all = all_append (decimal (n / 10)) (48 + n % 10) (range_digit (48 + n % 10) (omega arith) (omega arith)) p.all;
      value = value_more (decimal (n / 10)) (n / 10) (48 + n % 10) p.value ∙ omega arith;
    }))

-- ---- the shortest

-- digits behind those of a number other than 0
digits_behind : (d : List ℕ) (m : ℕ) → 0 < m → Digits d → decimal (value_from m d) ≡ decimal m ++ d
unfolding value_from
digits_behind [] m h a = sym (append-nil (decimal m))
digits_behind (b ∷ d) m h a =
    let r = digit_range b (a 0 (zero-lt-suc (length d))) in
    let n : ℕ = 10 * m + (b - 48) in
    let tenth : n / 10 ≡ m = omega (arith, r.0, r.1) in
    let last : 48 + n % 10 ≡ b = omega (arith, r.0, r.1) in
    digits_behind d n (omega arith) (λ i k. a (suc i) (suc-le-suc k))
    ∙ ap (λ (e : List ℕ). e ++ d) (decimal_more n (omega arith) ∙ ap (λ (k : ℕ). decimal k ++ ((48 + n % 10) ∷ [])) tenth ∙ ap (λ (c : ℕ). decimal m ++ (c ∷ [])) last)
    ∙ append_assoc (decimal m) (b ∷ []) d

-- a numeral is the number in decimal behind some zeros
pub record Padded (d : List ℕ) (n : ℕ) : Type 0 where
  pub zeros : ℕ
  pub parts : d ≡ replicate zeros 48 ++ decimal n

-- a 0 in front changes nothing
zero_first : (d : List ℕ) {n : ℕ} → Padded d n → Padded (48 ∷ d) n
zero_first d p = record { zeros = suc p.zeros; parts = ap (λ (e : List ℕ). 48 ∷ e) p.parts }

-- another digit is the first of the number
other_first : (b : ℕ) (d : List ℕ) → (b ≡ 48 → ⊥) → Digits (b ∷ d) → Padded (b ∷ d) (value_from 0 (b ∷ d))
unfolding value_from
other_first b d u a =
    let r = digit_range b (a 0 (zero-lt-suc (length d))) in
    let m : ℕ = 10 * 0 + (b - 48) in
    let e : 48 + m ≡ b = omega (arith, r.0) in
    let positive : 0 < m = ⊎_elim (λ (p : 48 < b). omega arith) (λ (p : b ≤ 48). absurd (u (omega (arith, r.0)))) (lt_or_le 48 b) in
    record {
      zeros = 0;
      parts = sym
          (digits_behind d m positive (λ i k. a (suc i) (suc-le-suc k))
          ∙ ap (λ (l : List ℕ). l ++ d) (decimal_one m (omega (arith, r.1)) ∙ ap (λ (c : ℕ). c ∷ []) e));
    }

padded : (d : List ℕ) → 0 < length d → Digits d → Padded d (value_from 0 d)
unfolding value_from
padded [] h a = absurd (not-suc-le-zero h)
padded (b ∷ []) h a = ⊎_elim
    (λ (e : b ≡ 48). subst (λ (c : ℕ). Padded (c ∷ []) (value_from 0 (c ∷ []))) (sym e) (record { zeros = 0; parts = sym (decimal_one 0 (omega arith)) }))
    (λ (u : b ≡ 48 → ⊥). other_first b [] u a)
    (eq_or_ne b 48)
padded (b ∷ c ∷ d) h a = let more = padded (c ∷ d) (zero-lt-suc (length d)) (λ i k. a (suc i) (suc-le-suc k)) in ⊎_elim
    (λ (e : b ≡ 48). subst (λ (q : ℕ). Padded (q ∷ c ∷ d) (value_from 0 (q ∷ c ∷ d))) (sym e) (zero_first (c ∷ d) more))
    (λ (u : b ≡ 48 → ⊥). other_first b (c ∷ d) u a)
    (eq_or_ne b 48)

pub numeral_padded : {d : List ℕ} {n : ℕ} → Numeral d n → Padded d n
numeral_padded {d} a = subst (Padded d) a.value (padded d a.some a.all)

-- No numeral of n is shorter, no other is as short, and its first digit is 0 only if it is 0 itself, alone.
pub record Shortest (d : List ℕ) (n : ℕ) : Type 0 where
  pub numeral : Numeral d n
  pub least : {e : List ℕ} → Numeral e n → length d ≤ length e
  pub only : {e : List ℕ} → Numeral e n → length e ≡ length d → e ≡ d
  pub front : get_or d 0 0 ≡ 48 → (n ≡ 0) × (d ≡ 48 ∷ [])

no_zeros : (k : ℕ) (d : List ℕ) → length (replicate k 48 ++ d) ≡ length d → replicate k 48 ++ d ≡ d
no_zeros zero d e = refl
no_zeros (suc k) d e = absurd (omega (arith, length-append (replicate k 48) d))

-- the first digit is that of a tenth
front_zero : (n : ℕ) → get_or (decimal n) 0 0 ≡ 48 → n ≡ 0
front_zero = by_tenths (λ (n : ℕ). get_or (decimal n) 0 0 ≡ 48 → n ≡ 0)
    (λ n h e. omega (arith, ap (λ (d : List ℕ). get_or d 0 0) (decimal_one n h)))
    (λ n h p e. absurd
    (omega
    (arith, h, p (sym (ap (λ (d : List ℕ). get_or d 0 0) (decimal_more n h) ∙ get_or-append (decimal (n / 10)) ((48 + n % 10) ∷ []) 0 0 (decimal_some (n / 10))) ∙ e))))

pub decimal_shortest : (n : ℕ) → Shortest (decimal n) n
decimal_shortest n = record {
  numeral = decimal_numeral n;
  least = λ {e} a. let p = numeral_padded a in omega (arith, ap length p.parts, length-append (replicate p.zeros 48) (decimal n));
  only = λ {e} a q. let p = numeral_padded a in p.parts ∙ no_zeros p.zeros (decimal n) (sym (ap length p.parts) ∙ q);
  front = λ e. let z = front_zero n e in (z, ap decimal z ∙ decimal_one 0 (omega arith));
}
