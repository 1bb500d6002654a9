-- Frames that are written one behind another are read back as that bracket, in one table: `bracket_back`.
use Prim.Native.Nat.{ℕ, zero, suc, ◌+◌, ◌*◌, ◌<◌, ◌≤◌}
use Rattle.std.proofs.Common.{not-suc-le-zero, le_of_suc-le-suc, suc-mul, zero-mul, arith, ◌∙◌, take_at}
use Rattle.std.specs.Prelude.{◌≡◌, drop}
use Rattle.std.proofs.Math.Path.{refl, sym, ap, ap₂, subst}
use mathlib.Core.List.{List, [], ◌∷◌, ◌++◌, map, append_assoc, Memᴰ}
use Rattle.std.proofs.Math.ListN.{length, get_or, take, length-append}
use Rattle.std.proofs.Math.Seq.{drop-append-add}
use Rattle.definitions.specs.Align.{Options, stack_of, exposure}
use Rattle.definitions.specs.Refusals.{accepted}
use Rattle.pgm_format.specs.Pgm.{Image, ImageAt, Frame, frame_of, samples_of, Within, pgm}
use Rattle.pgm_format.specs.Stack.{Run, ended, image, images_from, widths_of, heights_of, joined_samples, read_stack, files_of}
use Rattle.pgm_format.specs.Runs.{run_images, stack_reads}
use Rattle.pgm_format.specs.Written.{image_of, image_written, read_back}

-- The images of frames that are written one behind another, from a place on.
abbrev pub images_of : ℕ → List Frame → List Image
images_of at [] = []
images_of at (f ∷ l) = image_of at f ∷ images_of (at + length (pgm f)) l

-- Their samples, one frame's behind the other's.
abbrev pub samples_in : List Frame → List ℕ
samples_in [] = []
samples_in (f ∷ l) = f.samples ++ samples_in l

-- Each of some frames is within 01's limits.
abbrev pub AllWithin : List Frame → Type 0
AllWithin l = (f : Frame) → Memᴰ f l → Within f

images_many : (at : ℕ) (l : List Frame) → length (images_of at l) ≡ length l
images_many at [] = refl
images_many at (f ∷ l) = ap suc (images_many (at + length (pgm f)) l)

-- ---- the run

module _ (file b : List ℕ) where
  -- what stands before the files, and the place behind it
  abbrev Behind : List ℕ → ℕ → List Frame → Type 0
  Behind a at l = (file ≡ a ++ (files_of l ++ b)) × (length a ≡ at)

  behind_one : (a : List ℕ) (at : ℕ) (f : Frame) (l : List Frame) → Behind a at (f ∷ l) → Behind (a ++ pgm f) (at + length (pgm f)) l
  unfolding files_of
  behind_one a at f l p = (
    p.0 ∙ ap (λ (m : List ℕ). a ++ m) (append_assoc (pgm f) (files_of l) b) ∙ sym (append_assoc a (pgm f) (files_of l ++ b)),
    length-append a (pgm f) ∙ ap (λ (n : ℕ). n + length (pgm f)) p.1,
  )

  first : (a : List ℕ) (at : ℕ) (f : Frame) (l : List Frame) → Behind a at (f ∷ l) → Within f → ImageAt file at (image_of at f) × (frame_of file (image_of at f) ≡ f)
  unfolding files_of
  first a at f l p k =
      let whole : a ++ (pgm f ++ (files_of l ++ b)) ≡ file = sym (p.0 ∙ ap (λ (m : List ℕ). a ++ m) (append_assoc (pgm f) (files_of l) b)) in
      subst (λ (n : ℕ). ImageAt file n (image_of n f) × (frame_of file (image_of n f) ≡ f)) p.1
      (subst (λ (m : List ℕ). ImageAt m (length a) (image_of (length a) f) × (frame_of m (image_of (length a) f) ≡ f)) whole
      (image_written f a (files_of l ++ b) k, (read_back f a (files_of l ++ b) k).1))

  run_of : (a : List ℕ) (at : ℕ) (l : List Frame) → Behind a at l → AllWithin l → Run file at (images_of at l) (at + length (files_of l))
  unfolding files_of
  run_of a at [] p k = subst (Run file at []) (omega arith) (ended at (omega (arith, ap length p.0, p.1, length-append a b)))
  run_of a at (f ∷ l) p k =
      let e : at + length (pgm f) + length (files_of l) ≡ at + length (pgm f ++ files_of l) = omega (arith, length-append (pgm f) (files_of l)) in
      image at (image_of at f) (images_of (at + length (pgm f)) l) (at + length (pgm f ++ files_of l)) (first a at f l p (k f (Memᴰ.head refl))).0
      (subst (Run file (at + length (pgm f)) (images_of (at + length (pgm f)) l)) e
      (run_of (a ++ pgm f) (at + length (pgm f)) l (behind_one a at f l p) (λ g m. k g (Memᴰ.tail m))))

  frames_of : (a : List ℕ) (at : ℕ) (l : List Frame) → Behind a at l → AllWithin l → map (frame_of file) (images_of at l) ≡ l
  frames_of a at [] p k = refl
  frames_of a at (f ∷ l) p k =
      ap₂ (λ (g : Frame) (m : List Frame). g ∷ m) (first a at f l p (k f (Memᴰ.head refl))).1
      (frames_of (a ++ pgm f) (at + length (pgm f)) l (behind_one a at f l p) (λ g m. k g (Memᴰ.tail m)))

-- ---- the lists of a stack are those of the images' frames

module _ (file : List ℕ) where
  widths_frames : (l : List Image) → widths_of l ≡ map (λ (f : Frame). f.width) (map (frame_of file) l)
  unfolding widths_of frame_of
  widths_frames [] = refl
  widths_frames (i ∷ l) = ap (λ (m : List ℕ). i.width ∷ m) (widths_frames l)

  heights_frames : (l : List Image) → heights_of l ≡ map (λ (f : Frame). f.height) (map (frame_of file) l)
  unfolding heights_of frame_of
  heights_frames [] = refl
  heights_frames (i ∷ l) = ap (λ (m : List ℕ). i.height ∷ m) (heights_frames l)

  samples_frames : (l : List Image) → joined_samples file l ≡ samples_in (map (frame_of file) l)
  unfolding joined_samples frame_of
  samples_frames [] = refl
  samples_frames (i ∷ l) = ap (λ (m : List ℕ). samples_of file i ++ m) (samples_frames l)

-- ---- a frame of the stack

-- where each frame has n samples, those of frame k stand from k * n on
part_of : (n : ℕ) (l : List Frame) → ((f : Frame) → Memᴰ f l → length f.samples ≡ n) → (k : ℕ) → k < length l
    → take n (drop (k * n) (samples_in l)) ≡ get_or (map (λ (f : Frame). f.samples) l) k []
part_of n [] e k h = absurd (not-suc-le-zero h)
part_of n (f ∷ l) e zero h =
    ap (λ (m : ℕ). take n (drop m (f.samples ++ samples_in l))) (zero-mul n) ∙ take_at f.samples (samples_in l) n (e f (Memᴰ.head refl))
part_of n (f ∷ l) e (suc k) h =
    let long : length f.samples ≡ n = e f (Memᴰ.head refl) in
    let at : suc k * n ≡ length f.samples + k * n = omega (arith, suc-mul k n, long) in
    ap (λ (m : ℕ). take n (drop m (f.samples ++ samples_in l))) at
    ∙ ap (take n) (drop-append-add f.samples (samples_in l) (k * n))
    ∙ part_of n l (λ g m. e g (Memᴰ.tail m)) k (le_of_suc-le-suc h)

-- ---- the table

module _ (a b : List ℕ) (l : List Frame) where
  abbrev whole : List ℕ
  whole = a ++ (files_of l ++ b)

  -- what is read of the frames' files, whatever stands before and behind them
  pub record BracketBack : Type 0 where
    -- the images stand there, one behind another, and have the frames' sizes and samples
    pub run : Run whole (length a) (images_of (length a) l) (length a + length (files_of l))
    pub frames : map (frame_of whole) (images_of (length a) l) ≡ l
    -- up to 16 of them are laid out as a stack, up to the end of the last file
    pub laid : length l ≤ 16 → read_stack whole (length a) (length l) (length l) (length (samples_in l)) ≡ accepted (length a + length (files_of l))
    -- and these are its lists
    pub widths : widths_of (images_from whole (length a) (length l)) ≡ map (λ (f : Frame). f.width) l
    pub heights : heights_of (images_from whole (length a) (length l)) ≡ map (λ (f : Frame). f.height) l
    pub samples : joined_samples whole (images_from whole (length a) (length l)) ≡ samples_in l

  pub bracket_back : AllWithin l → BracketBack
  bracket_back k = record {
    run = run;
    frames = frames;
    laid = λ h. ((stack_reads whole (length a) (length l) (length l) (length (samples_in l))).laid (length a + length (files_of l))).1
        (h, refl, record { images = images_of (length a) l; number = images_many (length a) l; run = run; counted = ap length (sym samples) });
    widths = ap widths_of read ∙ widths_frames whole (images_of (length a) l) ∙ ap (map (λ (f : Frame). f.width)) frames;
    heights = ap heights_of read ∙ heights_frames whole (images_of (length a) l) ∙ ap (map (λ (f : Frame). f.height)) frames;
    samples = ap (joined_samples whole) read ∙ samples;
  }
    where
      run : Run whole (length a) (images_of (length a) l) (length a + length (files_of l))
      run = run_of whole b a (length a) l (refl, refl) k

      frames : map (frame_of whole) (images_of (length a) l) ≡ l
      frames = frames_of whole b a (length a) l (refl, refl) k

      read : images_from whole (length a) (length l) ≡ images_of (length a) l
      read = ap (images_from whole (length a)) (sym (images_many (length a) l)) ∙ run_images whole (length a) (images_of (length a) l) (length a + length (files_of l)) run

      samples : joined_samples whole (images_of (length a) l) ≡ samples_in l
      samples = samples_frames whole (images_of (length a) l) ∙ ap samples_in frames

  -- with frames of one size, the aligner's frame k of the stack is the k-th that was written
  pub frame_back : AllWithin l → (w h : ℕ) → ((f : Frame) → Memᴰ f l → (f.width ≡ w) × (f.height ≡ h)) → (percentiles : List ℕ) (reference : ℕ) (options : Options) (k : ℕ)
      → k < length l
      → let images = images_from whole (length a) (length l) in
      (exposure (stack_of (widths_of images) (heights_of images) percentiles (joined_samples whole images) reference options) k).samples ≡ get_or (map (λ (f : Frame). f.samples) l) k []
  unfolding exposure stack_of
  frame_back within w h same percentiles reference options k c =
      let back = bracket_back within in
      ap₂ (λ (u v : List ℕ). take (get_or u 0 0 * get_or v 0 0) (drop (k * (get_or u 0 0 * get_or v 0 0)) (joined_samples whole (images_from whole (length a) (length l))))) back.widths back.heights
      ∙ ap₂ (λ (n : ℕ) (s : List ℕ). take n (drop (k * n) s)) (area l same c) back.samples
      ∙ part_of (w * h) l (λ f m. (within f m).counted ∙ ap₂ ◌*◌ (same f m).0 (same f m).1) k c
    where
      area : (l : List Frame) → ((f : Frame) → Memᴰ f l → (f.width ≡ w) × (f.height ≡ h)) → k < length l
          → get_or (map (λ (f : Frame). f.width) l) 0 0 * get_or (map (λ (f : Frame). f.height) l) 0 0 ≡ w * h
      area [] e q = absurd (not-suc-le-zero q)
      area (f ∷ m) e q = let s = e f (Memᴰ.head refl) in ap₂ ◌*◌ s.0 s.1
