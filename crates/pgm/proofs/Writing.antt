-- Numbers and a header put into a buffer, digit by digit and part by part.
use mathlib.Core.Path.{◌≡◌, refl, sym, ap, ap₂, ◌∙◌}
use mathlib.Core.List.{List, [], ◌∷◌, ◌++◌, append-nil, append_assoc}
use mathlib.Core.Logic.{⊎_elim}
use Prim.Native.Nat.{ℕ, zero, suc, ◌+◌, ◌*◌, ◌/◌, ◌%◌, ◌^◌, ◌<◌, ◌≤◌}
use native.Mathlib.Omega.{arith}
use lib.ListN.{length, set, length-append}
use lib.Seq.{sets}
use Rattle.definitions.specs.Decimal.{decimal}
use Rattle.definitions.specs.Refusals.{Answer, accepted, refused, answer, after}
use Rattle.laws.specs.checks.Checks.{after_accepted, after_refused}
use Rattle.laws.specs.general.Cases.{lt_or_le}
use Rattle.laws.specs.general.Decimals.{decimal_one, decimal_more, decimal_longer, decimal_some}
use Rattle.laws.specs.general.Writes.{sets_append, sets_front, set_before}
use Rattle.pgm_format.specs.Pgm.{Frame, header_bytes, pgm, write_checks, write, written}

-- ---- a number, from its last digit on

-- how many digits a number has, by the power of ten that it reaches
pub digits_long : (k n : ℕ) → 10 ^ k ≤ n → n < 10 * 10 ^ k → length (decimal n) ≡ k + 1
digits_long zero n h g = ap length (decimal_one n g)
digits_long (suc k) n h g = let e : 10 ^ suc k ≡ 10 * 10 ^ k = omega arith in omega (arith, decimal_longer n (omega (arith, e)), digits_long k (n / 10) (omega (arith, e)) (omega (arith, e)))

-- The last digits are put from `at` up to `end`; those of `rest` are not yet.
pub record Putting (old : List ℕ) (end n : ℕ) (new : List ℕ) (at rest : ℕ) : Type 0 where
  pub last : List ℕ
  pub parts : decimal n ≡ decimal rest ++ last
  pub held : new ≡ sets old at last
  pub ends : at + length last ≡ end
  pub room : length (decimal rest) ≤ at

module _ {old new : List ℕ} {end n at rest : ℕ} (p : Putting old end n new at rest) where
  -- the next digit
  stored : (i : ℕ) → i + 1 ≡ at → (d : ℕ) → set new i d ≡ sets old i (d ∷ p.last)
  stored i e d = ap (λ (l : List ℕ). set l i d) p.held ∙ set_before old p.last i at d (omega arith) ∙ ap (λ (j : ℕ). sets (set old i d) j p.last) next
    where
      next : at ≡ suc i
      next = omega arith

  pub putting_more : {i : ℕ} → i + 1 ≡ at → 10 ≤ rest → Putting old end n (set new i (48 + rest % 10)) i (rest / 10)
  putting_more {i} e k =
      let d : ℕ = 48 + rest % 10 in record {
        last = d ∷ p.last;
        parts = p.parts ∙ ap (λ (l : List ℕ). l ++ p.last) (decimal_more rest k) ∙ append_assoc (decimal (rest / 10)) (d ∷ []) p.last;
        held = stored i e d;
        ends = omega (arith, p.ends);
        room = omega (arith, p.room, decimal_longer rest k);
      }

  module _ (first : ℕ) (f : end ≡ first + length (decimal n)) where
    -- the digits of the rest end where those put begin
    pub front_long : first + length (decimal rest) ≡ at
    front_long = omega (arith, p.ends, p.room, ap length p.parts, length-append (decimal rest) p.last)

    -- with room for two digits or more there are as many, and with less there is one
    pub rest_long : first + 1 < at → 10 ≤ rest
    rest_long h = ⊎_elim (λ (l : rest < 10). absurd (few (ap length (decimal_one rest l)))) (λ (l : 10 ≤ rest). l) (lt_or_le rest 10)
      where
        few : length (decimal rest) ≡ 1 → ⊥
        few e = omega (arith, front_long)

    pub rest_short : at ≤ first + 1 → rest < 10
    rest_short h = ⊎_elim (λ (l : rest < 10). l) (λ (l : 10 ≤ rest). absurd (many l)) (lt_or_le rest 10)
      where
        many : 10 ≤ rest → ⊥
        many l = omega (arith, front_long, decimal_longer rest l, decimal_some (rest / 10))

    pub last_place : at ≤ first + 1 → first + 1 ≡ at
    last_place h = omega (arith, front_long, decimal_some rest)

    pub put_all : at ≤ first + 1 → set new first (48 + rest) ≡ sets old first (decimal n)
    put_all h =
        stored first (last_place h) (48 + rest)
        ∙ ap (sets old first) (sym (p.parts ∙ ap (λ (l : List ℕ). l ++ p.last) (decimal_one rest (rest_short h))))

pub putting_none : (old : List ℕ) (end n : ℕ) → length (decimal n) ≤ end → Putting old end n old end n
putting_none old end n h = record { last = []; parts = sym (append-nil (decimal n)); held = refl; ends = omega arith; room = h }

-- ---- a header, part by part

-- a run behind a run is one run
pub behind : (l : List ℕ) {m : List ℕ} (i : ℕ) {j : ℕ} (s t : List ℕ) → m ≡ sets l i s → j ≡ i + length s → sets m j t ≡ sets l i (s ++ t)
behind l {m} i {j} s t e q = ap₂ (λ (k : List ℕ) (n : ℕ). sets k n t) e q ∙ sym (sets_append l i s t)

pub header_put : (old : List ℕ) (w h blank feed : ℕ) → blank ≡ 3 + length (decimal w) → feed ≡ blank + 1 + length (decimal h) → {a b c d e : List ℕ}
    → a ≡ sets old 0 (80 ∷ 53 ∷ 10 ∷ []) → b ≡ sets a 3 (decimal w) → c ≡ sets b blank (32 ∷ [])
    → d ≡ sets c (blank + 1) (decimal h) → e ≡ sets d feed (10 ∷ 50 ∷ 53 ∷ 53 ∷ 10 ∷ []) → e ≡ sets old 0 (header_bytes w h)
unfolding header_bytes
header_put old w h blank feed p q {a} {b} {c} ea eb ec ed ee =
    ee
    ∙ behind c (blank + 1) (decimal h) end ed q
    ∙ behind b blank (32 ∷ []) (decimal h ++ end) ec (omega arith)
    ∙ behind a 3 (decimal w) (32 ∷ (decimal h ++ end)) eb p
    ∙ behind old 0 (80 ∷ 53 ∷ 10 ∷ []) (decimal w ++ (32 ∷ (decimal h ++ end))) ea refl
  where
    end : List ℕ
    end = 10 ∷ 50 ∷ 53 ∷ 53 ∷ 10 ∷ []

-- ---- the buffer after the call

module _ (f : Frame) (old : List ℕ) where
  -- with its answer
  abbrev pub After : Answer ℕ → List ℕ → Type 0
  After r new = (r ≡ write f (length old)) × (new ≡ after (write_checks f (length old)) (written f old) old)

  pub as_it_was : {n : ℕ} {v : List ℕ} → refused n v ≡ answer (write_checks f (length old)) (length (pgm f)) → After (refused n v) old
  unfolding write
  as_it_was e = (e, sym (after_refused _ (write_checks f (length old)) (written f old) old (sym e)))

  -- the header and then the samples are put
  pub as_written : {n start : ℕ} {mid new : List ℕ} → accepted (length (pgm f)) ≡ answer (write_checks f (length old)) (length (pgm f))
      → n ≡ length (pgm f) → length (pgm f) ≤ length old
      → start ≡ length (header_bytes f.width f.height) → mid ≡ sets old 0 (header_bytes f.width f.height) → new ≡ sets mid start f.samples
      → After (accepted n) new
  unfolding write written pgm
  as_written e q h s p r = (
    ap accepted q ∙ e,
    r ∙ behind old 0 (header_bytes f.width f.height) f.samples p (omega (arith, s)) ∙ sets_front old (pgm f) h
        ∙ sym (after_accepted _ (write_checks f (length old)) (written f old) old (sym e)),
  )
