-- A list lent in two parts: a run of stores in the second is one in the whole, and the first has what stood before the cut.
use Rattle.std.specs.Prelude.{◌≡◌, refl, List, [], ◌∷◌, ◌++◌, ℕ, suc, ◌+◌, ◌-◌, ◌≤◌, length, take, drop}
use Rattle.std.proofs.Common.{sym, ap, ap₂, ◌∙◌, arith, append_assoc, append-nil, drop-drop, length-append, length-drop, drop_of_length-le, take_all, take_at, drop_at, set}
use Rattle.std.proofs.lemmas.List.{drop-append-le, take-append-drop, length-take}
use Rattle.std.proofs.lemmas.List.Edits.{sets, sets-eq}
use Rattle.laws.specs.general.Writes.{sets_front}

module _ {A : Type 0} where
  sets_cons : (x : A) (l : List A) (i : ℕ) (vs : List A) → sets (x ∷ l) (suc i) vs ≡ x ∷ sets l i vs
  sets_cons x l i [] = refl
  sets_cons x l i (v ∷ vs) = sets_cons x (set l i v) (suc i) vs

  sets_seam : (front back vs : List A) → front ++ sets back 0 vs ≡ sets (front ++ back) (length front) vs
  sets_seam [] back vs = refl
  sets_seam (x ∷ front) back vs = ap (λ (l : List A). x ∷ l) (sets_seam front back vs) ∙ sym (sets_cons x (front ++ back) (length front) vs)

  pub sets_behind : (front back vs : List A) {whole out : List A} {i : ℕ} → whole ≡ front ++ back → length front ≡ i → out ≡ sets back 0 vs → front ++ out ≡ sets whole i vs
  sets_behind front back vs {whole} {out} {i} e n q =
      ap (λ (l : List A). front ++ l) q ∙ sets_seam front back vs ∙ ap₂ (λ (l : List A) (k : ℕ). sets l k vs) (sym e) n

  -- ---- a part alone was lent, of n elements from i on

  pub put_part : (l vs : List A) (i n : ℕ) {out : List A} → i + n ≤ length l → length vs ≡ n → out ≡ vs → take i l ++ (out ++ drop n (drop i l)) ≡ sets l i vs
  put_part l vs i n {out} h m q =
      ap₂ (λ (o r : List A). take i l ++ (o ++ r)) q (drop-drop n i l ∙ ap (λ (k : ℕ). drop (i + k) l) (sym m))
      ∙ sym (append_assoc (take i l) vs (drop (i + length vs) l))
      ∙ sym (sets-eq vs l i (omega arith))

  -- all from i on, stored into
  pub sets_from : (whole vs : List A) (i : ℕ) {out : List A} → i ≤ length whole → out ≡ sets (take (length whole - i) (drop i whole)) 0 vs
      → take i whole ++ (out ++ drop (length whole - i) (drop i whole)) ≡ sets whole i vs
  sets_from whole vs i {out} h q =
      let n = length whole - i in
      let all : length (drop i whole) ≤ n = omega (arith, length-drop i whole) in
      let front : length (take i whole) ≡ i = length-take i whole ∙ omega arith in
      ap (λ (l : List A). take i whole ++ (out ++ l)) (drop_of_length-le (drop i whole) {i = n} all)
      ∙ ap (λ (l : List A). take i whole ++ l) (append-nil out)
      ∙ sets_behind (take i whole) (drop i whole) vs (sym (take-append-drop i whole)) front (q ∙ ap (λ (l : List A). sets l 0 vs) (take_all n (drop i whole) all))

  -- what the first part has from `from` on
  pub tail_of : (front back : List A) (from n : ℕ) {whole : List A} → whole ≡ front ++ back → length front ≡ from + n
      → take (length front - from) (drop from front) ≡ take n (drop from whole)
  tail_of front back from n {whole} e m =
      let long : length (drop from front) ≡ n = omega (arith, length-drop from front) in
      take_all (length front - from) (drop from front) (omega arith)
      ∙ sym (take_at (drop from front) back n long)
      ∙ ap (take n) (sym (ap (drop from) e ∙ drop-append-le from front back (omega arith)))

  -- ---- a list lent in four parts of n and a rest: what is left in each, stored from the front on
  pub sets_four : (p q r s rest a b c d : List A) (n : ℕ) {whole back half last : List A} → whole ≡ p ++ back → back ≡ q ++ half → half ≡ r ++ last → last ≡ s ++ rest
      → length p ≡ n → length q ≡ n → length r ≡ n → length s ≡ n → length a ≡ n → length b ≡ n → length c ≡ n → length d ≡ n
      → a ++ (b ++ (c ++ (d ++ rest))) ≡ sets whole 0 ((a ++ b) ++ (c ++ d))
  sets_four p q r s rest a b c d n {whole} {back} {half} {last} e1 e2 e3 e4 p1 p2 p3 p4 a1 a2 a3 a4 =
      let vs = (a ++ b) ++ (c ++ d) in
      let ps = (p ++ q) ++ (r ++ s) in
      let is : whole ≡ ps ++ rest = e1 ∙ ap (λ (l : List A). p ++ l) (e2 ∙ ap (λ (l : List A). q ++ l) (e3 ∙ ap (λ (l : List A). r ++ l) e4)) ∙ joined p q r s rest in
      let long : length vs ≡ length ps = omega (arith, length-append (a ++ b) (c ++ d), length-append a b, length-append c d, length-append (p ++ q) (r ++ s), length-append p q, length-append r s) in
      joined a b c d rest
      ∙ sym (sets_front whole vs (omega (arith, ap length is, length-append ps rest)) ∙ ap (λ (l : List A). vs ++ l) (ap₂ drop long is ∙ drop_at ps rest (length ps) refl))
    where
      joined : (p q r s t : List A) → p ++ (q ++ (r ++ (s ++ t))) ≡ ((p ++ q) ++ (r ++ s)) ++ t
      joined p q r s t =
          ap (λ (l : List A). p ++ (q ++ l)) (sym (append_assoc r s t)) ∙ sym (append_assoc p q ((r ++ s) ++ t)) ∙ sym (append_assoc (p ++ q) (r ++ s) t)
