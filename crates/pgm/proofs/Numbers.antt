-- A number read digit by digit, kept up to 8,193.
use mathlib.Core.Path.{◌≡◌, refl, sym, ap, ◌∙◌}
use mathlib.Core.Bool.{true, false}
use mathlib.Core.List.{List, [], ◌∷◌}
use Prim.Native.Nat.{ℕ, ◌+◌, ◌-◌, ◌*◌, ◌≤◌, ◌<◌}
use native.Mathlib.Omega.{arith}
use lib.ListN.{length, get_or, drop, length-append, drop_of_length-le}
use Rattle.definitions.specs.Decimal.{is_digit, value_from}
use Rattle.pgm_format.specs.Pgm.{digits_of, after_digits}
use Rattle.pgm_format.specs.Fronts.{digits_front}
use Rattle.pgm.specs.Inner.{From, kept}
use Rattle.laws.specs.general.Cases.{cond_true, cond_false}
use Rattle.pgm.proofs.Places.{Left, left_more, left_stop, left_end, split}

-- what is kept of a number settles what is kept of it with more digits
kept_value : (n : ℕ) (l : List ℕ) → kept (value_from (kept n) l) ≡ kept (value_from n l)
unfolding value_from
kept_value n [] = omega arith
kept_value n (d ∷ l) =
    sym (kept_value (10 * kept n + (d - 48)) l)
    ∙ ap (λ (k : ℕ). kept (value_from k l)) (shorter (d - 48))
    ∙ kept_value (10 * n + (d - 48)) l
  where
    shorter : (e : ℕ) → kept (10 * kept n + e) ≡ kept (10 * n + e)
    shorter e = omega arith

module _ (b : ℕ) (l : List ℕ) where
  digits_more : is_digit b ≡ true → digits_of (b ∷ l) ≡ b ∷ digits_of l
  unfolding digits_of
  digits_more e = cond_true _ _ e

  digits_stop : is_digit b ≡ false → digits_of (b ∷ l) ≡ []
  unfolding digits_of
  digits_stop e = cond_false _ _ e

  behind_more : is_digit b ≡ true → after_digits (b ∷ l) ≡ after_digits l
  unfolding after_digits
  behind_more e = cond_true _ _ e

  behind_stop : is_digit b ≡ false → after_digits (b ∷ l) ≡ b ∷ l
  unfolding after_digits
  behind_stop e = cond_false _ _ e

-- digits, and what is behind them
pub digits_length : (l : List ℕ) → length (digits_of l) + length (after_digits l) ≡ length l
digits_length l = sym (ap length (digits_front l) ∙ length-append (digits_of l) (after_digits l))

-- The number is read up to i, where `value` is kept of it.
pub record SoFar (file : List ℕ) (at value i : ℕ) : Type 0 where
  pub left : Left after_digits file at i
  pub few : value ≤ 8193
  pub whole : kept (value_from value (digits_of (drop i file))) ≡ kept (value_from 0 (digits_of (drop at file)))

-- What read_number answers.
abbrev pub NumberAt : List ℕ → ℕ → ℕ → ℕ → Type 0
NumberAt file at value next = (value ≡ kept (value_from 0 (digits_of (drop at file)))) × From file (after_digits (drop at file)) next

module _ {file : List ℕ} {at value i : ℕ} (r : SoFar file at value i) where
  -- no digit is left
  over : {next : ℕ} → digits_of (drop i file) ≡ [] → From file (after_digits (drop at file)) next → NumberAt file at value next
  unfolding value_from
  over e p = (kept_all r.few ∙ sym (ap (λ (l : List ℕ). kept (value_from value l)) e) ∙ r.whole, p)
    where
      kept_all : {n : ℕ} → n ≤ 8193 → n ≡ kept n
      kept_all h = omega arith

  pub number_end : length file ≤ i → NumberAt file at value (length file)
  unfolding digits_of after_digits
  number_end h = over (ap digits_of (drop_of_length-le file h)) (left_end r.left h refl)

  module _ (h : i < length file) where
    pub number_more : is_digit (get_or file i 0) ≡ true → {value' : ℕ} → value' ≡ kept (10 * value + (get_or file i 0 - 48)) → SoFar file at value' (i + 1)
    unfolding value_from
    number_more e {value'} p =
        let b = get_or file i 0 in
        let l = drop (i + 1) file in
        record {
          left = left_more r.left h (behind_more b l e);
          few = omega arith;
          whole =
              ap (λ (k : ℕ). kept (value_from k (digits_of l))) p
              ∙ kept_value (10 * value + (b - 48)) (digits_of l)
              ∙ sym (ap (λ (d : List ℕ). kept (value_from value d)) (ap digits_of (split file i h) ∙ digits_more b l e))
              ∙ r.whole;
        }

    pub number_stop : is_digit (get_or file i 0) ≡ false → NumberAt file at value i
    number_stop e =
        let b = get_or file i 0 in
        let l = drop (i + 1) file in
        over (ap digits_of (split file i h) ∙ digits_stop b l e)
        (left_stop r.left (ap after_digits (split file i h) ∙ behind_stop b l e ∙ sym (split file i h)))
