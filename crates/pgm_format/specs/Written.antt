-- What is written: it is an image of the grammar at any place of a file, with the frame's size and samples, and the shortest that has them.
use Rattle.std.specs.Prelude.{ℕ, ◌+◌, ◌*◌, ◌≤◌, ◌≡◌, refl, true, ◌↔◌, length}
use Rattle.std.proofs.Common.{arith, sym, subst, ◌∙◌, length-append}
use Rattle.std.proofs.Math.Path.{ap}
use mathlib.Core.List.{List, [], ◌∷◌, ◌++◌, append_assoc}
use Rattle.definitions.specs.Decimal.{Numeral, digits_up_to, decimal}
use Rattle.definitions.specs.Refusals.{accepted}
use Rattle.laws.specs.checks.Checks.{same_value}
use Rattle.laws.specs.general.Decimals.{decimal_few, decimal_numeral, Shortest, decimal_shortest}
use Rattle.pgm_format.specs.Pgm.{is_white, none, white, Field, Header, Image, ImageAt, Sizes, header_of, read}
use Rattle.pgm_format.specs.Pgm.{Frame, frame_of, Within, header_bytes, pgm, write}
use Rattle.pgm_format.specs.Fronts.{same_found}
use Rattle.pgm_format.specs.Headers.{header_read}
use Rattle.pgm_format.specs.Grammar.{reads}
use Rattle.pgm_format.specs.Writes.{writes}

-- ---- the header

-- a field behind one white space byte
field : (b : ℕ) → is_white b ≡ true → {d : List ℕ} {n : ℕ} → Numeral d n → Field (b ∷ d) n
field b e {d} a = record { gap = b ∷ []; digits = d; parts = refl; apart = omega arith; spaced = white b [] e none; number = a }

line_feed : is_white 10 ≡ true
unfolding is_white
line_feed = refl

blank : is_white 32 ≡ true
unfolding is_white
blank = refl

three_digits : decimal 255 ≡ 50 ∷ 53 ∷ 53 ∷ []
unfolding decimal digits_up_to
three_digits = refl

pub header_written : (w h : ℕ) → Header (header_bytes w h) w h 255
unfolding header_bytes
header_written w h = record {
  wide = 10 ∷ decimal w;
  high = 32 ∷ decimal h;
  most = 10 ∷ 50 ∷ 53 ∷ 53 ∷ [];
  last = 10;
  parts = refl;
  width = field 10 line_feed (decimal_numeral w);
  height = field 32 blank (decimal_numeral h);
  highest = field 10 line_feed (subst (λ (d : List ℕ). Numeral d 255) three_digits (decimal_numeral 255));
  ends = line_feed;
}

-- ---- read back

-- The image that a frame's file is at a place.
abbrev pub image_of : ℕ → Frame → Image
image_of at f = record {
  width = f.width;
  height = f.height;
  start = at + length (header_bytes f.width f.height);
  next = at + length (pgm f);
}

pub pgm_long : (f : Frame) → length (pgm f) ≡ length (header_bytes f.width f.height) + length f.samples
unfolding pgm
pgm_long f = length-append (header_bytes f.width f.height) f.samples

module _ (f : Frame) (a b : List ℕ) where
  -- it is an image of the grammar
  pub image_written : Within f → ImageAt (a ++ (pgm f ++ b)) (length a) (image_of (length a) f)
  unfolding pgm
  image_written k = record {
    samples = f.samples;
    behind = b;
    header = record {
      before = a;
      head = header_bytes f.width f.height;
      parts = ap (λ (l : List ℕ). a ++ l) (append_assoc (header_bytes f.width f.height) f.samples b);
      place = refl;
      header = header_written f.width f.height;
    };
    narrow = k.narrow;
    low = k.low;
    counted = k.counted;
    starts = refl;
    ends = omega (arith, pgm_long f);
  }

  -- the reader "gets size and samples back from every written frame", at any place, whatever stands before and behind
  pub read_back : Within f → (read (a ++ (pgm f ++ b)) (length a) ≡ accepted (image_of (length a) f)) × (frame_of (a ++ (pgm f ++ b)) (image_of (length a) f) ≡ f)
  unfolding frame_of image_written
  read_back k =
      let r = reads (a ++ (pgm f ++ b)) (length a) in
      let i = image_written k in (
        (r.image (image_of (length a) f)).1 i,
        ap (λ (s : List ℕ). record { width = f.width; height = f.height; samples = s }) (r.samples (image_of (length a) f) i),
      )

-- ---- equal files

-- "Two frames have equal files exactly when size and samples are equal", whatever the sizes are
pub same_file : (f g : Frame) → (pgm f ≡ pgm g) ↔ ((f.width ≡ g.width) × (f.height ≡ g.height) × (f.samples ≡ g.samples))
unfolding pgm
same_file f g = (
  λ e. let s = same_found (sym (header_read f.samples (header_written f.width f.height)) ∙ ap header_of e ∙ header_read g.samples (header_written g.width g.height)) in
      (ap (λ (q : Sizes). q.width) s.0, ap (λ (q : Sizes). q.height) s.0, s.1),
  λ e. ap (λ (w : ℕ). header_bytes w f.height ++ f.samples) e.0 ∙ ap (λ (h : ℕ). header_bytes g.width h ++ f.samples) e.1
      ∙ ap (λ (s : List ℕ). header_bytes g.width g.height ++ s) e.2,
)

-- ---- the shortest

-- a field has its gap and its digits, and these are no fewer than the number's
field_digits : {l : List ℕ} {n : ℕ} (f : Field l n) → (1 + length f.digits ≤ length l) × (length (decimal n) ≤ length f.digits)
field_digits {l} {n} f = (omega (arith, f.apart, ap length f.parts, length-append f.gap f.digits), (decimal_shortest n).least f.number)

-- the bytes of a header beside the digits of its numbers are six at least
header_digits : {l : List ℕ} {w h : ℕ} (r : Header l w h 255)
    → (6 + length r.width.digits + length r.height.digits + length r.highest.digits ≤ length l)
    × (length (decimal w) ≤ length r.width.digits) × (length (decimal h) ≤ length r.height.digits) × (3 ≤ length r.highest.digits)
header_digits r =
    let w = field_digits r.width in
    let h = field_digits r.height in
    let t = field_digits r.highest in (
      omega (
        arith,
        w.0,
        h.0,
        t.0,
        ap length r.parts,
        length-append r.wide (r.high ++ (r.most ++ (r.last ∷ []))),
        length-append r.high (r.most ++ (r.last ∷ [])),
        length-append r.most (r.last ∷ []),
      ),
      w.1,
      h.1,
      omega (arith, t.1, ap length three_digits),
    )

pub header_long : (w h : ℕ) → length (header_bytes w h) ≡ 9 + length (decimal w) + length (decimal h)
unfolding header_bytes
header_long w h =
    omega (
      arith,
      length-append (decimal w) (32 ∷ (decimal h ++ (10 ∷ 50 ∷ 53 ∷ 53 ∷ 10 ∷ []))),
      length-append (decimal h) (10 ∷ 50 ∷ 53 ∷ 53 ∷ 10 ∷ []),
    )

-- within the limits it has 17 bytes at most, so that a frame's samples and 17 bytes are room enough for its file
pub header_short : (w h : ℕ) → w ≤ 8192 → h ≤ 8192 → length (header_bytes w h) ≤ 17
header_short w h p q = omega (arith, header_long w h, decimal_few 3 w (omega arith), decimal_few 3 h (omega arith))

pub pgm_short : (f : Frame) → Within f → length (pgm f) ≤ f.width * f.height + 17
pgm_short f k = omega (arith, pgm_long f, k.counted, header_short f.width f.height k.narrow k.low)

-- no header of the same numbers is shorter
header_least : {l : List ℕ} {w h : ℕ} → Header l w h 255 → length (header_bytes w h) ≤ length l
header_least {l} {w} {h} r = omega (arith, header_digits r, header_long w h)

-- So however the bytes of a written header are read as one, the digits of its three numbers are the shortest of their values.
pub shortest_numbers : (w h : ℕ) (r : Header (header_bytes w h) w h 255)
    → Shortest r.width.digits w × Shortest r.height.digits h × Shortest r.highest.digits 255
shortest_numbers w h r =
    let p = header_digits r in
    let n = header_long w h in (
      as_short r.width.number (omega (arith, p, n)),
      as_short r.height.number (omega (arith, p, n)),
      as_short r.highest.number (omega (arith, p, n, ap length three_digits)),
    )
  where
    as_short : {d : List ℕ} {n : ℕ} → Numeral d n → length d ≡ length (decimal n) → Shortest d n
    as_short {n = n} a q = subst (λ (e : List ℕ). Shortest e n) (sym ((decimal_shortest n).only a q)) (decimal_shortest n)

-- ---- written again

-- "An image that the reader accepts, written, read and written again, gives the same bytes both times, never more than it took in its file"
pub record Rewritten (file : List ℕ) (at : ℕ) (i : Image) : Type 0 where
  -- the writer takes it wherever its file has room
  pub taken : (room : ℕ) → length (pgm (frame_of file i)) ≤ room → write (frame_of file i) room ≡ accepted (length (pgm (frame_of file i)))
  -- it is read of its file, at any place
  pub read_too : (a b : List ℕ) → read (a ++ (pgm (frame_of file i) ++ b)) (length a) ≡ accepted (image_of (length a) (frame_of file i))
  -- and what is read there is the same frame, written as the same bytes
  pub again : (a b : List ℕ) → let second = a ++ (pgm (frame_of file i) ++ b) in
      (j : Image) → read second (length a) ≡ accepted j → (frame_of second j ≡ frame_of file i) × (pgm (frame_of second j) ≡ pgm (frame_of file i))
  -- which are no more than the image took
  pub never_more : at + length (pgm (frame_of file i)) ≤ i.next

pub rewritten : (file : List ℕ) (at : ℕ) (i : Image) → read file at ≡ accepted i → Rewritten file at i
unfolding frame_of
rewritten file at i e =
    let image = ((reads file at).image i).0 e in
    let samples = (reads file at).samples i image in
    let k : Within f = record { narrow = image.narrow; low = image.low; counted = ap length samples ∙ image.counted } in record {
      taken = λ room h. ((writes f room).taken (length (pgm f))).1 (k, h, refl);
      read_too = λ a b. (read_back f a b k).0;
      again = λ a b j q. let r = read_back f a b k in
          let same : frame_of (a ++ (pgm f ++ b)) j ≡ f = ap (frame_of (a ++ (pgm f ++ b))) (same_value (sym q ∙ r.0)) ∙ r.1 in
          (same, ap pgm same);
      never_more = omega (arith, pgm_long f, header_least image.header.header, image.starts, image.ends, ap length samples);
    }
  where
    f : Frame
    f = frame_of file i
