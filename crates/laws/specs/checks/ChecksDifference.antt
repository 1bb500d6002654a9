-- The checks of counting two packed pairs: what refuses at each of them, and that else the call is accepted.
use Rattle.std.specs.Prelude.{◌≡◌, refl, Bool, true, false, ◌&&◌, ℕ, ◌+◌, ◌/◌, ◌^◌, ◌≤◌, ◌<◌, ltb, length}
use Rattle.std.proofs.Common.{sym, ap₂, ◌∙◌, ⊎_elim, arith, eq-eqb, ne_eqb}
use Rattle.std.proofs.Math.Path.{ap}
use Rattle.std.proofs.Math.Bool.{not}
use mathlib.Core.List.{List, [], ◌∷◌}
use Rattle.std.specs.Int.Bits.{bit_or}
use Rattle.std.proofs.Math.Dec.{eqb}
use Rattle.definitions.specs.Bitmap.{bitmap_words, padding_set}
use Rattle.definitions.specs.Refusals.{Check, Answer, accepted, refused, answer, either_over, sizes_differ, wrong_length, padded, counting_checks}
use Rattle.laws.specs.bitmaps.Bitmaps.{IsBitmap, padding_clear, ClearFrom, clear_or, clear_test}
use Rattle.laws.specs.general.Cases.{lt_or_le}
use Rattle.laws.specs.checks.Checks.{stop, skip, sides_stop, sides_skip, length_stop, length_skip, padded_stop, padded_skip, done}

-- ---- sizes that differ

and_false : (b : Bool) → (b && false) ≡ false
and_false true = refl
and_false false = refl

module _ {A : Type 0} (a : A) (w h w' h' : ℕ) (l : List Check) where
  pub widths_stop : (w ≡ w' → ⊥) → refused 4 (w ∷ h ∷ w' ∷ h' ∷ []) ≡ answer (sizes_differ w h w' h' ∷ l) a
  unfolding sizes_differ
  widths_stop n = stop a (sizes_differ w h w' h') l (ap (λ (b : Bool). not (b && eqb h h')) (ne_eqb w w' n))

  pub heights_stop : (h ≡ h' → ⊥) → refused 4 (w ∷ h ∷ w' ∷ h' ∷ []) ≡ answer (sizes_differ w h w' h' ∷ l) a
  unfolding sizes_differ
  heights_stop n = stop a (sizes_differ w h w' h') l (ap (λ (b : Bool). not (eqb w w' && b)) (ne_eqb h h' n) ∙ ap not (and_false (eqb w w')))

  pub sizes_skip : {r : Answer A} → w ≡ w' → h ≡ h' → r ≡ answer l a → r ≡ answer (sizes_differ w h w' h' ∷ l) a
  unfolding sizes_differ
  sizes_skip p q = skip a (sizes_differ w h w' h') l (ap₂ (λ (b c : Bool). not (b && c)) (eq-eqb w w' p) (eq-eqb h h' q))

-- ---- the paddings of four bitmaps at once

abbrev pub padding_of : (t e t' e' : List ℕ) → (w h : ℕ) → ℕ
padding_of t e t' e' w h = padding_set t w h + padding_set e w h + padding_set t' w h + padding_set e' w h

-- none is set past bit s of four words together exactly if there is none
pub paddings_test : (t e t' e' : List ℕ) (w h s : ℕ) {a b c d : ℕ}
    → ClearFrom s a (padding_set t w h) → ClearFrom s b (padding_set e w h) → ClearFrom s c (padding_set t' w h) → ClearFrom s d (padding_set e' w h)
    → ltb 0 (bit_or (bit_or (bit_or a b) c) d / 2 ^ s) ≡ ltb 0 (padding_of t e t' e' w h)
paddings_test t e t' e' w h s p q r u = clear_test (clear_or (clear_or (clear_or p q) r) u)

all_padded : (t e t' e' : List ℕ) → (w h : ℕ) → List Check
all_padded t e t' e' w h = padded t w h ∷ padded e w h ∷ padded t' w h ∷ padded e' w h ∷ []

module _ {A : Type 0} (a : A) (t e t' e' : List ℕ) (w h : ℕ) where
  or_else : (words : List ℕ) (l : List Check) → (padding_set words w h ≤ 0 → refused 8 [] ≡ answer l a) → refused 8 [] ≡ answer (padded words w h ∷ l) a
  or_else words l k = ⊎_elim
      (λ (p : 0 < padding_set words w h). padded_stop a words w h l p)
      (λ (p : padding_set words w h ≤ 0). padded_skip a words w h l p (k p))
      (lt_or_le 0 (padding_set words w h))

  paddings_stop : 0 < padding_of t e t' e' w h → refused 8 [] ≡ answer (all_padded t e t' e' w h) a
  unfolding all_padded
  paddings_stop k =
      or_else t _ (λ p. or_else e _ (λ q. or_else t' _ (λ r. padded_stop a e' w h [] (omega arith))))

  paddings_skip : padding_of t e t' e' w h ≤ 0 → accepted a ≡ answer (all_padded t e t' e' w h) a
  unfolding all_padded
  paddings_skip k =
      padded_skip a t w h _ (omega arith) (padded_skip a e w h _ (omega arith) (padded_skip a t' w h _ (omega arith) (padded_skip a e' w h [] (omega arith) (done a))))

-- ---- the call

-- sides that pass, with the words of a bitmap
pub record Sized (w h w' h' words : ℕ) : Type 0 where
  pub sides : (w ≤ 8192) × (h ≤ 8192)
  pub target_sides : (w' ≤ 8192) × (h' ≤ 8192)
  pub widths : w ≡ w'
  pub heights : h ≡ h'
  pub words_are : words ≡ bitmap_words w h

-- lengths that pass
pub record Long (t e t' e' : List ℕ) (words : ℕ) : Type 0 where
  pub first : length t ≡ words
  pub second : length e ≡ words
  pub third : length t' ≡ words
  pub fourth : length e' ≡ words

pub long_as : {t e t' e' : List ℕ} {m n : ℕ} → Long t e t' e' m → m ≡ n → Long t e t' e' n
long_as l o = record { first = l.first ∙ o; second = l.second ∙ o; third = l.third ∙ o; fourth = l.fourth ∙ o }

module _ {A : Type 0} (a : A) (w h w' h' : ℕ) (t e t' e' : List ℕ) where
  abbrev Answers : Answer A → Type 0
  Answers r = r ≡ answer (counting_checks w h w' h' t e t' e') a

  pub reference_over : either_over w h ≡ true → Answers (refused 1 [])
  unfolding counting_checks
  reference_over o = sides_stop a w h _ o

  pub target_over : (w ≤ 8192) × (h ≤ 8192) → either_over w' h' ≡ true → Answers (refused 1 [])
  unfolding counting_checks
  target_over s o = sides_skip a w h _ s (sides_stop a w' h' _ o)

  pub widths_differ : (w ≤ 8192) × (h ≤ 8192) → (w' ≤ 8192) × (h' ≤ 8192) → (w ≡ w' → ⊥) → Answers (refused 4 (w ∷ h ∷ w' ∷ h' ∷ []))
  unfolding counting_checks
  widths_differ s s' n = sides_skip a w h _ s (sides_skip a w' h' _ s' (widths_stop a w h w' h' _ n))

  pub heights_differ : (w ≤ 8192) × (h ≤ 8192) → (w' ≤ 8192) × (h' ≤ 8192) → (h ≡ h' → ⊥) → Answers (refused 4 (w ∷ h ∷ w' ∷ h' ∷ []))
  unfolding counting_checks
  heights_differ s s' n = sides_skip a w h _ s (sides_skip a w' h' _ s' (heights_stop a w h w' h' _ n))

  module _ {words : ℕ} (s : Sized w h w' h' words) where
    -- past the sizes
    past_sizes : {r : Answer A}
        → r ≡ answer (wrong_length (length t) (bitmap_words w h) ∷ wrong_length (length e) (bitmap_words w h) ∷ wrong_length (length t') (bitmap_words w h)
        ∷ wrong_length (length e') (bitmap_words w h) ∷ all_padded t e t' e' w h) a
        → Answers r
    unfolding counting_checks all_padded
    past_sizes o = sides_skip a w h _ s.sides (sides_skip a w' h' _ s.target_sides (sizes_skip a w h w' h' _ s.widths s.heights o))

    -- a bitmap's length
    wrong : (l : List Check) (m : List ℕ) → (length m ≡ words → ⊥) → refused 2 [] ≡ answer (wrong_length (length m) (bitmap_words w h) ∷ l) a
    wrong l m n = length_stop a (length m) (bitmap_words w h) l (λ o. n (o ∙ sym s.words_are))

    right : (l : List Check) (m : List ℕ) {r : Answer A} → length m ≡ words → r ≡ answer l a → r ≡ answer (wrong_length (length m) (bitmap_words w h) ∷ l) a
    right l m o = length_skip a (length m) (bitmap_words w h) l (o ∙ s.words_are)

    pub first_long : (length t ≡ words → ⊥) → Answers (refused 2 [])
    first_long n = past_sizes (wrong _ t n)

    pub second_long : length t ≡ words → (length e ≡ words → ⊥) → Answers (refused 2 [])
    second_long l₁ n = past_sizes (right _ t l₁ (wrong _ e n))

    pub third_long : length t ≡ words → length e ≡ words → (length t' ≡ words → ⊥) → Answers (refused 2 [])
    third_long l₁ l₂ n = past_sizes (right _ t l₁ (right _ e l₂ (wrong _ t' n)))

    pub fourth_long : length t ≡ words → length e ≡ words → length t' ≡ words → (length e' ≡ words → ⊥) → Answers (refused 2 [])
    fourth_long l₁ l₂ l₃ n = past_sizes (right _ t l₁ (right _ e l₂ (right _ t' l₃ (wrong _ e' n))))

    module _ (l : Long t e t' e' words) where
      past_lengths : {r : Answer A} → r ≡ answer (all_padded t e t' e' w h) a → Answers r
      past_lengths o = past_sizes (right _ t l.first (right _ e l.second (right _ t' l.third (right _ e' l.fourth o))))

      pub some_padded : 0 < padding_of t e t' e' w h → Answers (refused 8 [])
      some_padded k = past_lengths (paddings_stop a t e t' e' w h k)

      pub all_right : padding_of t e t' e' w h ≤ 0 → {b : A} → b ≡ a → Answers (accepted b)
      all_right k o = ap accepted o ∙ past_lengths (paddings_skip a t e t' e' w h k)

-- what is then known of the bitmaps
pub bitmaps : (t e t' e' : List ℕ) (w h w' h' : ℕ) {words : ℕ} → Sized w h w' h' words → Long t e t' e' words → padding_of t e t' e' w h ≤ 0
    → IsBitmap t w h × IsBitmap e w h × IsBitmap t' w h × IsBitmap e' w h
bitmaps t e t' e' w h w' h' s l z =
    let n = long_as l s.words_are in (
      padding_clear t w h n.first (omega arith),
      padding_clear e w h n.second (omega arith),
      padding_clear t' w h n.third (omega arith),
      padding_clear e' w h n.fourth (omega arith),
    )
