-- A whole number as two natural numbers of which one is 0: `ahead z`, how far z lies above 0, and `behind z`, how far below. A sum, a
-- difference, a negation, an order and an equation of whole numbers is a linear fact of these two, which `omega` reads: hand it the law at
-- the numbers in question, and `alone` at each of them.
--     gap, add, minus, neg            of an operation's result
--     equal, parts_of                 from the parts to an equation, and back
--     lt_true, lt_false, le_true, le_false     from a test to the parts;  true_lt, false_lt, true_le, false_le     and back
--     alone                           min (ahead z) (behind z) ≡ 0: that one of the two is 0, in a form that `omega` reads
use Rattle.std.specs.Prelude.{◌≡◌, refl, Bool, true, false, ℕ, zero, suc, ◌+◌, ◌-◌, ◌<◌, ◌≤◌, min, ltb, ℤ, pos, negsuc, neg_ℤ, ◌+ℤ◌, ◌-ℤ◌}
use Rattle.std.proofs.Common.{sym, ap, ◌∙◌, zero-le, add-zero, arith, lt-ltb, le-ltb, le-leb, ltb-true, ltb-false, leb-true, leb-false}
use Rattle.std.proofs.Math.IntN.{sub_ℕ}
use Rattle.std.specs.Int.Signed.{lt_z, le_z}
use Rattle.definitions.specs.Geometry.{ahead, behind}
use Rattle.laws.specs.general.Cases.{clash}
use Rattle.std.proofs.lemmas.Bool.{lt-leb}

pub alone : (z : ℤ) → min (ahead z) (behind z) ≡ 0
alone (pos n) = omega arith
alone (negsuc n) = omega arith

-- ---- a − b for two naturals: where nothing is lost, and where it falls below 0
pub sub_yes : (a b : ℕ) → b ≤ a → sub_ℕ a b ≡ pos (a - b)
sub_yes a b h = simp (le-ltb a b h)

pub sub_no : (a b : ℕ) → a < b → sub_ℕ a b ≡ negsuc (b - suc a)
sub_no a b h = simp (lt-ltb a b h)

sub_zero : (a : ℕ) → sub_ℕ a 0 ≡ pos a
sub_zero a = sub_yes a 0 zero-le ∙ ap pos (e a)
  where
    e : (a : ℕ) → a - 0 ≡ a
    e a = omega arith

sub_ahead : (a b : ℕ) (t : Bool) → ltb a b ≡ t → ahead (sub_ℕ a b) ≡ a - b
sub_ahead a b true e = let h : a < b = ltb-true a b e in ap ahead (sub_no a b h) ∙ omega arith
sub_ahead a b false e = ap ahead (sub_yes a b (ltb-false a b e))

sub_behind : (a b : ℕ) (t : Bool) → ltb a b ≡ t → behind (sub_ℕ a b) ≡ b - a
sub_behind a b true e = let h : a < b = ltb-true a b e in ap behind (sub_no a b h) ∙ omega arith
sub_behind a b false e = let h : b ≤ a = ltb-false a b e in ap behind (sub_yes a b h) ∙ omega arith

pub ahead_sub : (a b : ℕ) → ahead (sub_ℕ a b) ≡ a - b
ahead_sub a b = sub_ahead a b (ltb a b) refl

pub behind_sub : (a b : ℕ) → behind (sub_ℕ a b) ≡ b - a
behind_sub a b = sub_behind a b (ltb a b) refl

-- ---- the operations
-- a place less a shift, by the shift's two numbers
pub gap : (d : ℕ) (s : ℤ) → pos d -ℤ s ≡ sub_ℕ (d + behind s) (ahead s)
gap d (pos zero) = sym (sub_zero (d + 0))
gap d (pos (suc k)) = ap (λ (n : ℕ). sub_ℕ n (suc k)) (sym (add-zero d))
gap d (negsuc k) = sym (sub_zero (d + suc k))

pub add : (a b : ℤ) → ahead (a +ℤ b) + (behind a + behind b) ≡ behind (a +ℤ b) + (ahead a + ahead b)
add (pos a) (pos b) = omega arith
add (pos a) (negsuc b) = omega (arith, ahead_sub a (suc b), behind_sub a (suc b))
add (negsuc a) (pos b) = omega (arith, ahead_sub b (suc a), behind_sub b (suc a))
add (negsuc a) (negsuc b) = omega arith

pub neg : (z : ℤ) → (ahead (neg_ℤ z) ≡ behind z) × (behind (neg_ℤ z) ≡ ahead z)
neg (pos zero) = (refl, refl)
neg (pos (suc n)) = (refl, refl)
neg (negsuc n) = (refl, refl)

pub minus : (a b : ℤ) → ahead (a -ℤ b) + (behind a + ahead b) ≡ behind (a -ℤ b) + (ahead a + behind b)
minus a b = omega (arith, add a (neg_ℤ b), neg b)

-- ---- equations
pub equal : (a b : ℤ) → ahead a + behind b ≡ ahead b + behind a → a ≡ b
equal (pos a) (pos b) e = ap pos (omega arith)
equal (pos a) (negsuc b) e = absurd (never a b e)
  where
    never : (a b : ℕ) → a + suc b ≡ 0 + 0 → ⊥
    never a b e = omega arith
equal (negsuc a) (pos b) e = absurd (never a b e)
  where
    never : (a b : ℕ) → 0 + 0 ≡ b + suc a → ⊥
    never a b e = omega arith
equal (negsuc a) (negsuc b) e = ap negsuc (omega arith)

pub parts_of : {a b : ℤ} → a ≡ b → (ahead a ≡ ahead b) × (behind a ≡ behind b)
parts_of e = (ap ahead e, ap behind e)

-- ---- the order
pub lt_true : (a b : ℤ) → lt_z a b ≡ true → ahead a + behind b < ahead b + behind a
lt_true (pos a) (pos b) e = omega (arith, ltb-true a b e)
lt_true (pos a) (negsuc b) e = clash (sym e)
lt_true (negsuc a) (pos b) e = omega arith
lt_true (negsuc a) (negsuc b) e = omega (arith, ltb-true b a e)

pub lt_false : (a b : ℤ) → lt_z a b ≡ false → ahead b + behind a ≤ ahead a + behind b
lt_false (pos a) (pos b) e = omega (arith, ltb-false a b e)
lt_false (pos a) (negsuc b) e = omega arith
lt_false (negsuc a) (pos b) e = clash e
lt_false (negsuc a) (negsuc b) e = omega (arith, ltb-false b a e)

pub le_true : (a b : ℤ) → le_z a b ≡ true → ahead a + behind b ≤ ahead b + behind a
le_true (pos a) (pos b) e = omega (arith, leb-true a b e)
le_true (pos a) (negsuc b) e = clash (sym e)
le_true (negsuc a) (pos b) e = omega arith
le_true (negsuc a) (negsuc b) e = omega (arith, leb-true b a e)

pub le_false : (a b : ℤ) → le_z a b ≡ false → ahead b + behind a < ahead a + behind b
le_false (pos a) (pos b) e = omega (arith, leb-false a b e)
le_false (pos a) (negsuc b) e = omega arith
le_false (negsuc a) (pos b) e = clash e
le_false (negsuc a) (negsuc b) e = omega (arith, leb-false b a e)

pub true_lt : (a b : ℤ) → ahead a + behind b < ahead b + behind a → lt_z a b ≡ true
true_lt (pos a) (pos b) h = lt-ltb a b (omega arith)
true_lt (pos a) (negsuc b) h = absurd (never a b h)
  where
    never : (a b : ℕ) → a + suc b < 0 + 0 → ⊥
    never a b h = omega arith
true_lt (negsuc a) (pos b) h = refl
true_lt (negsuc a) (negsuc b) h = lt-ltb b a (omega arith)

pub false_lt : (a b : ℤ) → ahead b + behind a ≤ ahead a + behind b → lt_z a b ≡ false
false_lt (pos a) (pos b) h = le-ltb a b (omega arith)
false_lt (pos a) (negsuc b) h = refl
false_lt (negsuc a) (pos b) h = absurd (never a b h)
  where
    never : (a b : ℕ) → b + suc a ≤ 0 + 0 → ⊥
    never a b h = omega arith
false_lt (negsuc a) (negsuc b) h = le-ltb b a (omega arith)

pub true_le : (a b : ℤ) → ahead a + behind b ≤ ahead b + behind a → le_z a b ≡ true
true_le (pos a) (pos b) h = le-leb a b (omega arith)
true_le (pos a) (negsuc b) h = absurd (never a b h)
  where
    never : (a b : ℕ) → a + suc b ≤ 0 + 0 → ⊥
    never a b h = omega arith
true_le (negsuc a) (pos b) h = refl
true_le (negsuc a) (negsuc b) h = le-leb b a (omega arith)

pub false_le : (a b : ℤ) → ahead b + behind a < ahead a + behind b → le_z a b ≡ false
false_le (pos a) (pos b) h = lt-leb a b (omega arith)
false_le (pos a) (negsuc b) h = refl
false_le (negsuc a) (pos b) h = absurd (never a b h)
  where
    never : (a b : ℕ) → b + suc a < 0 + 0 → ⊥
    never a b h = omega arith
false_le (negsuc a) (negsuc b) h = lt-leb b a (omega arith)
