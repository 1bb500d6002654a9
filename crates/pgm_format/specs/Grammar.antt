-- The grammar and the reader are the same, in one table: `reads`.
use Prim.Native.Nat.{ℕ, ◌+◌, ◌-◌, ◌*◌, ◌<◌, ◌≤◌, max}
use Rattle.std.proofs.Common.{arith, subst, ◌∙◌, inl, inr, ⊎_elim, take-append-drop, length-take-le}
use Rattle.std.specs.Prelude.{◌≡◌, ◌↔◌, ◌⊎◌, length, take, drop}
use Rattle.std.proofs.Math.Path.{refl, sym, ap}
use mathlib.Core.List.{List, [], ◌∷◌, ◌++◌, append_assoc}
use Rattle.std.proofs.Math.ListN.{length-append}
use Rattle.std.proofs.Math.Seq.{take_at, drop_at}
use Rattle.definitions.specs.Refusals.{Answer, accepted, refused, answer}
use Rattle.laws.specs.checks.Checks.{stop, skip}
use Rattle.laws.specs.general.Cases.{lt_or_le, eq_or_ne}
use Rattle.pgm_format.specs.Pgm.{Header, HeaderAt, Image, ImageAt, Reading, missing, found, Sizes, header_of, is_missing, sizes_in, rest_in}
use Rattle.pgm_format.specs.Pgm.{malformed, sizes_checks, read_checks, image_from, image_read, read, samples_of}
use Rattle.pgm_format.specs.Fronts.{found_or_missing, same_found}
use Rattle.pgm_format.specs.Parts.{part_inside}
use Rattle.pgm_format.specs.SizeChecks.{over_stop, highest_stop, short_stop, all_pass}
use Rattle.pgm_format.specs.Headers.{sizes, at_read, at_front, at_long}

-- the longest side is over 8,192 where one is
longest_over : {w h : ℕ} → (8192 < w) ⊎ (8192 < h) → 8192 < max w h
longest_over {w} {h} = ⊎_elim (λ (p : 8192 < w). omega arith) (λ (p : 8192 < h). omega arith)

-- ---- the reader's answer by what it finds

module _ (file : List ℕ) (at : ℕ) where
  abbrev answer_by : Reading Sizes → Answer Image
  answer_by r = answer (malformed r ∷ sizes_checks (sizes_in r) (length (rest_in r))) (image_from (sizes_in r) (length file - length (rest_in r)))

  read_by : {r : Reading Sizes} → header_of (drop at file) ≡ r → read file at ≡ answer_by r
  unfolding read read_checks image_read
  read_by e = ap answer_by e

  pub read_none : header_of (drop at file) ≡ missing → read file at ≡ refused 13 []
  unfolding malformed is_missing
  read_none e = read_by e ∙ sym (stop _ (malformed missing) _ refl)

  pub read_some : {s : Sizes} {rest : List ℕ} → header_of (drop at file) ≡ found s rest
      → read file at ≡ answer (sizes_checks s (length rest)) (image_from s (length file - length rest))
  unfolding malformed is_missing sizes_in rest_in
  read_some {s} {rest} e = read_by e ∙ sym (skip _ (malformed (found s rest)) (sizes_checks s (length rest)) refl refl)

  -- ---- what each answer means

  -- no header begins there
  abbrev pub NoHeader : Type 0
  NoHeader = (w h top : ℕ) (rest : List ℕ) → HeaderAt file at w h top rest → ⊥

  -- one begins there: with a side over 8,192; with sides within it and another highest value than 255; with these and too few bytes behind it
  pub record SideOver : Type 0 where
    pub width : ℕ
    pub height : ℕ
    pub highest : ℕ
    pub rest : List ℕ
    pub header : HeaderAt file at width height highest rest
    pub over : (8192 < width) ⊎ (8192 < height)

  pub record OtherHighest : Type 0 where
    pub width : ℕ
    pub height : ℕ
    pub highest : ℕ
    pub rest : List ℕ
    pub header : HeaderAt file at width height highest rest
    pub narrow : width ≤ 8192
    pub low : height ≤ 8192
    pub other : highest ≡ 255 → ⊥

  pub record TooShort : Type 0 where
    pub width : ℕ
    pub height : ℕ
    pub rest : List ℕ
    pub header : HeaderAt file at width height 255 rest
    pub narrow : width ≤ 8192
    pub low : height ≤ 8192
    pub short : length rest < width * height

  -- from what stands there to the answer
  no_header_refused : NoHeader → read file at ≡ refused 13 []
  no_header_refused n = on (header_of (drop at file)) refl
    where
      on : (r : Reading Sizes) → header_of (drop at file) ≡ r → read file at ≡ refused 13 []
      on missing e = read_none e
      on (found s rest) e = absurd (n s.width s.height s.highest rest (at_front file at e))

  answered : {w h top : ℕ} {rest : List ℕ} → HeaderAt file at w h top rest
      → read file at ≡ answer (sizes_checks (sizes w h top) (length rest)) (image_from (sizes w h top) (length file - length rest))
  answered a = read_some (at_read file at a)

  side_refused : SideOver → read file at ≡ refused 1 []
  side_refused o =
      answered o.header
      ∙ sym (over_stop _ (sizes o.width o.height o.highest) (length o.rest) (longest_over o.over))

  highest_refused : OtherHighest → read file at ≡ refused 14 []
  highest_refused o = answered o.header ∙ sym (highest_stop _ (sizes o.width o.height o.highest) (length o.rest) (omega (arith, o.narrow, o.low)) o.other)

  too_short_refused : TooShort → read file at ≡ refused 15 []
  too_short_refused o = answered o.header ∙ sym (short_stop _ (sizes o.width o.height 255) (length o.rest) (omega (arith, o.narrow, o.low)) refl o.short)

  image_accepted : (i : Image) → ImageAt file at i → read file at ≡ accepted i
  image_accepted i a =
      answered a.header
      ∙ sym
      (all_pass _ (sizes i.width i.height 255) (length (a.samples ++ a.behind)) (omega (arith, a.narrow, a.low)) refl
      (omega (arith, a.counted, length-append a.samples a.behind)))
      ∙ ap accepted
      (ap (λ (n : ℕ). record { width = i.width; height = i.height; start = n; next = n + i.width * i.height }) start
      ∙ ap (λ (n : ℕ). record { width = i.width; height = i.height; start = i.start; next = n }) next)
    where
      start : length file - length (a.samples ++ a.behind) ≡ i.start
      start = omega (arith, at_long a.header, a.starts)

      next : i.start + i.width * i.height ≡ i.next
      next = omega (arith, a.ends, a.counted)

  -- and back: one of these stands there, and the answer is its own
  abbrev Means : Answer Image → Type 0
  Means (accepted i) = ImageAt file at i
  Means (refused n v) = (v ≡ []) × (((n ≡ 13) × NoHeader) ⊎ (((n ≡ 1) × SideOver) ⊎ (((n ≡ 14) × OtherHighest) ⊎ ((n ≡ 15) × TooShort))))

  found_means : (s : Sizes) (rest : List ℕ) → HeaderAt file at s.width s.height s.highest rest → Means (answer (sizes_checks s (length rest)) (image_from s (length file - length rest)))
  found_means s rest a = ⊎_elim
      (λ (w : 8192 < s.width). over (inl w))
      (λ (w : s.width ≤ 8192). ⊎_elim
      (λ (h : 8192 < s.height). over (inr h))
      (λ (h : s.height ≤ 8192). ⊎_elim
      (λ (t : s.highest ≡ 255). ⊎_elim
      (λ (k : length rest < s.width * s.height). short w h t k)
      (λ (k : s.width * s.height ≤ length rest). enough w h t k)
      (lt_or_le (length rest) (s.width * s.height)))
      (λ (t : s.highest ≡ 255 → ⊥).
      subst Means (highest_stop _ s (length rest) (omega (arith, w, h)) t)
      (refl, inr (inr (inl (refl, record { width = s.width; height = s.height; highest = s.highest; rest = rest; header = a; narrow = w; low = h; other = t })))))
      (eq_or_ne s.highest 255))
      (lt_or_le 8192 s.height))
      (lt_or_le 8192 s.width)
    where
      over : (8192 < s.width) ⊎ (8192 < s.height) → Means (answer (sizes_checks s (length rest)) (image_from s (length file - length rest)))
      over o =
          subst Means (over_stop _ s (length rest) (longest_over o))
          (refl, inr (inl (refl, record { width = s.width; height = s.height; highest = s.highest; rest = rest; header = a; over = o })))

      header : s.highest ≡ 255 → (l : List ℕ) → rest ≡ l → HeaderAt file at s.width s.height 255 l
      header t l e = record {
        before = a.before;
        head = a.head;
        parts = a.parts ∙ ap (λ (m : List ℕ). a.before ++ (a.head ++ m)) e;
        place = a.place;
        header = subst (λ (top : ℕ). Header a.head s.width s.height top) t a.header;
      }

      short : s.width ≤ 8192 → s.height ≤ 8192 → s.highest ≡ 255 → length rest < s.width * s.height → Means (answer (sizes_checks s (length rest)) (image_from s (length file - length rest)))
      short w h t k =
          subst Means (short_stop _ s (length rest) (omega (arith, w, h)) t k)
          (refl, inr (inr (inr (refl, record { width = s.width; height = s.height; rest = rest; header = header t rest refl; narrow = w; low = h; short = k }))))

      enough : s.width ≤ 8192 → s.height ≤ 8192 → s.highest ≡ 255 → s.width * s.height ≤ length rest → Means (answer (sizes_checks s (length rest)) (image_from s (length file - length rest)))
      enough w h t k =
          let n = s.width * s.height in
          let counted : length (take n rest) ≡ n = length-take-le n rest k in
          subst Means (all_pass _ s (length rest) (omega (arith, w, h)) t k) (record {
            samples = take n rest;
            behind = drop n rest;
            header = header t (take n rest ++ drop n rest) (sym (take-append-drop n rest));
            narrow = w;
            low = h;
            counted = counted;
            starts = omega (arith, at_long a);
            ends = ap (λ (m : ℕ). length file - length rest + m) (sym counted);
          })

  means : Means (read file at)
  means = on (header_of (drop at file)) refl
    where
      on : (r : Reading Sizes) → header_of (drop at file) ≡ r → Means (read file at)
      on missing e =
          subst Means (sym (read_none e)) (refl, inl (refl, λ w h top rest a. found_or_missing (sym e ∙ at_read file at a)))
      on (found s rest) e = subst Means (sym (read_some e)) (found_means s rest (at_front file at e))

  refused_means : {n : ℕ} {v : List ℕ} → read file at ≡ refused n v → Means (refused n v)
  refused_means e = subst Means e means

  -- ---- the table

  pub record Reads : Type 0 where
    -- every accepted answer is an image of the grammar, and every image of the grammar is accepted, with its size, its samples' start and
    -- the place behind them
    pub image : (i : Image) → (read file at ≡ accepted i) ↔ ImageAt file at i
    -- its samples are a part of the file
    pub samples : (i : Image) (a : ImageAt file at i) → samples_of file i ≡ a.samples
    -- "at most one header begins at a place": two have the same numbers and the same bytes
    pub one_header : {w h top w' h' top' : ℕ} {rest rest' : List ℕ} (a : HeaderAt file at w h top rest) (b : HeaderAt file at w' h' top' rest')
        → (w ≡ w') × (h ≡ h') × (top ≡ top') × (rest ≡ rest') × (a.head ≡ b.head)
    -- 13: "header malformed or cut short, or the place past the slice's end": no header begins there
    pub malformed : (read file at ≡ refused 13 []) ↔ NoHeader
    -- 1: "sides over 8,192 give 1, between 13 and 14"
    pub side : (read file at ≡ refused 1 []) ↔ SideOver
    -- 14: "highest value other than 255"
    pub highest : (read file at ≡ refused 14 []) ↔ OtherHighest
    -- 15: "fewer samples than promised"
    pub short : (read file at ≡ refused 15 []) ↔ TooShort
    -- there is no other refusal
    pub only : {n : ℕ} {v : List ℕ} → read file at ≡ refused n v → (v ≡ []) × ((n ≡ 13) ⊎ ((n ≡ 1) ⊎ ((n ≡ 14) ⊎ (n ≡ 15))))

  image_samples : (i : Image) (a : ImageAt file at i) → samples_of file i ≡ a.samples
  unfolding samples_of
  image_samples i a =
      sym
      (part_inside file i.start i.next (omega (arith, a.ends))
      (omega (arith, a.ends, a.starts, at_long a.header, length-append a.samples a.behind)))
      ∙ ap (take (i.next - i.start)) (ap (drop i.start) parts ∙ drop_at front (a.samples ++ a.behind) i.start long)
      ∙ take_at a.samples a.behind (i.next - i.start) (omega (arith, a.ends))
    where
      front : List ℕ
      front = a.header.before ++ a.header.head

      parts : file ≡ front ++ (a.samples ++ a.behind)
      parts = a.header.parts ∙ sym (append_assoc a.header.before a.header.head (a.samples ++ a.behind))

      long : length front ≡ i.start
      long = length-append a.header.before a.header.head ∙ ap (λ (n : ℕ). n + length a.header.head) a.header.place ∙ sym a.starts

  -- a header is the bytes from the place up to its rest
  head_is : {w h top : ℕ} {rest : List ℕ} (a : HeaderAt file at w h top rest) → a.head ≡ take (length file - length rest - at) (drop at file)
  head_is {rest = rest} a = sym
      (ap (take (length file - length rest - at)) (ap (drop at) a.parts ∙ drop_at a.before (a.head ++ rest) at a.place)
      ∙ take_at a.head rest (length file - length rest - at) (omega (arith, at_long a)))

  only_one : {w h top w' h' top' : ℕ} {rest rest' : List ℕ} (a : HeaderAt file at w h top rest) (b : HeaderAt file at w' h' top' rest')
      → (w ≡ w') × (h ≡ h') × (top ≡ top') × (rest ≡ rest') × (a.head ≡ b.head)
  only_one a b =
      let s = same_found (sym (at_read file at a) ∙ at_read file at b) in (
        ap (λ (q : Sizes). q.width) s.0,
        ap (λ (q : Sizes). q.height) s.0,
        ap (λ (q : Sizes). q.highest) s.0,
        s.1,
        head_is a ∙ ap (λ (l : List ℕ). take (length file - length l - at) (drop at file)) s.1 ∙ sym (head_is b),
      )

  pub reads : Reads
  reads = record {
    image = λ i. (λ e. subst Means e means, image_accepted i);
    samples = image_samples;
    one_header = only_one;
    malformed = (
      λ e. ⊎_elim (λ p. p.1) (λ p. ⊎_elim (λ q. absurd (omega (arith, q.0))) (λ q. ⊎_elim (λ r. absurd (omega (arith, r.0))) (λ r. absurd (omega (arith, r.0))) q) p) (refused_means e).1,
      no_header_refused,
    );
    side = (
      λ e. ⊎_elim (λ p. absurd (omega (arith, p.0))) (λ p. ⊎_elim (λ q. q.1) (λ q. ⊎_elim (λ r. absurd (omega (arith, r.0))) (λ r. absurd (omega (arith, r.0))) q) p) (refused_means e).1,
      side_refused,
    );
    highest = (
      λ e. ⊎_elim (λ p. absurd (omega (arith, p.0))) (λ p. ⊎_elim (λ q. absurd (omega (arith, q.0))) (λ q. ⊎_elim (λ r. r.1) (λ r. absurd (omega (arith, r.0))) q) p) (refused_means e).1,
      highest_refused,
    );
    short = (
      λ e. ⊎_elim (λ p. absurd (omega (arith, p.0))) (λ p. ⊎_elim (λ q. absurd (omega (arith, q.0))) (λ q. ⊎_elim (λ r. absurd (omega (arith, r.0))) (λ r. r.1) q) p) (refused_means e).1,
      too_short_refused,
    );
    only = λ e. let m = refused_means e in
        (m.0, ⊎_elim (λ p. inl p.0) (λ p. inr (⊎_elim (λ q. inl q.0) (λ q. inr (⊎_elim (λ r. inl r.0) (λ r. inr r.0) q)) p)) m.1);
  }
