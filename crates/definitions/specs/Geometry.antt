-- geometry.rs: shifts, the source of a place, moved images, and the crop. A shift (x, y) moves right and down.
use Rattle.std.specs.Prelude.{ℕ, suc, ◌+◌, ◌-◌, ◌≤◌, ◌<◌, max, Bool, cond, ◌&&◌, List, [], ◌∷◌, map, ltb, ℤ, pos, negsuc, ◌+ℤ◌, ◌-ℤ◌}
use Rattle.std.specs.Int.Signed.{le_z}
use Rattle.definitions.specs.Build.{image, sample}

pub record Shift : Type 0 where
  pub x : ℤ
  pub y : ℤ

-- The shift that moves nothing.
abbrev pub origin : Shift
origin = record { x = pos 0; y = pos 0 }

-- A shift offset by another: the sum on each axis, as whole numbers, which never wrap.
abbrev pub offset : Shift → Shift → Shift
offset s d = record { x = s.x +ℤ d.x; y = s.y +ℤ d.y }

-- Twice a shift.
abbrev pub doubled : Shift → Shift
doubled s = offset s s

-- A coordinate that an i32 holds: -2,147,483,648 to 2,147,483,647.
unfoldable pub in_i32 : ℤ → Bool
in_i32 z = le_z (negsuc 2147483647) z && le_z z (pos 2147483647)

-- 01's "source of a place" along one axis: inside with its index, or outside.
pub data Source : Type 0 where
  inside : ℕ → Source
  outside : Source

-- A whole number as an index of a side: inside if it is one of 0 to side - 1.
unfoldable pub index_of : ℤ → ℕ → Source
index_of (pos n) side = cond (ltb n side) (inside n) outside
index_of (negsuc n) side = outside

-- Destination minus shift. On a side of 0 every place is outside.
unfoldable pub source : ℕ → ℤ → ℕ → Source
source place shift side = index_of (pos place -ℤ shift) side

-- What f gives at a source, and 0 where the source is outside.
abbrev pub value_at_source : Source → (ℕ → ℕ) → ℕ
value_at_source (inside i) f = f i
value_at_source outside f = 0

-- What f gives at the sources of a column and a row, and 0 where either is outside.
unfoldable pub at_sources : ℕ → ℕ → Shift → ℕ → ℕ → (ℕ → ℕ → ℕ) → ℕ
at_sources w h s x y f = value_at_source (source x s.x w) (λ (u : ℕ). value_at_source (source y s.y h) (λ (v : ℕ). f u v))

-- A moved image: each pixel is the sample at its source, or 0 where that is outside.
unfoldable pub shifted : ℕ → ℕ → List ℕ → Shift → List ℕ
shifted w h s d = image w h (λ (x y : ℕ). at_sources w h d x y (λ (u v : ℕ). sample s w u v))

-- ---- shift lists: x then y for each frame

-- The shifts of a list. The last element of an odd list is left out; such a list is refused wherever it could matter.
unfoldable pub shifts_of : List ℤ → List Shift
shifts_of [] = []
shifts_of (x ∷ []) = []
shifts_of (x ∷ y ∷ l) = record { x = x; y = y } ∷ shifts_of l

-- The list of some shifts.
unfoldable pub listed : List Shift → List ℤ
listed [] = []
listed (s ∷ l) = s.x ∷ s.y ∷ listed l

-- ---- the crop

-- How far a coordinate lies above 0: 0 for one below.
abbrev pub ahead : ℤ → ℕ
ahead (pos n) = n
ahead (negsuc n) = 0

-- How far a coordinate lies below 0: 0 for one above.
abbrev pub behind : ℤ → ℕ
behind (pos n) = 0
behind (negsuc n) = suc n

-- The largest of f over a list, or 0 if greater. Of no element it is 0.
unfoldable pub largest : (ℤ → ℕ) → List ℤ → ℕ
largest f [] = 0
largest f (z ∷ l) = max (f z) (largest f l)

-- 01's "start" along one axis: the largest coordinate, or 0 if greater.
abbrev pub crop_start : List ℤ → ℕ
crop_start l = largest ahead l

-- 01's "lost" along one axis: the largest move the other way, at least 0.
abbrev pub crop_lost : List ℤ → ℕ
crop_lost l = largest behind l

-- 01's "width" along one axis: side minus lost minus start, not below 0, as `-` on ℕ is.
abbrev pub crop_width : ℕ → List ℤ → ℕ
crop_width side l = side - crop_lost l - crop_start l

-- A region of a frame, in pixels from the top left.
pub record Rect : Type 0 where
  pub x : ℕ
  pub y : ℕ
  pub width : ℕ
  pub height : ℕ

-- A crop that starts and ends along each axis by itself.
unfoldable pub common_crop : List Shift → ℕ → ℕ → Rect
common_crop l w h =
    let xs = map (λ (s : Shift). s.x) l in
    let ys = map (λ (s : Shift). s.y) l in
    record { x = crop_start xs; y = crop_start ys; width = crop_width w xs; height = crop_width h ys }

-- The source is inside.
abbrev pub Inside : Source → Type 0
Inside (inside i) = Unit {0}
Inside outside = ⊥

-- 01's "covers": a frame of w by h, moved by s, covers the place of column x and row y when both sources are inside.
pub record Covers (w h : ℕ) (s : Shift) (x y : ℕ) : Type 0 where
  pub across : Inside (source x s.x w)
  pub down : Inside (source y s.y h)

-- 01's "places of a crop": the columns from its x on, as many as its width, with the rows from its y on, as many as its height.
pub record Place (r : Rect) (x y : ℕ) : Type 0 where
  pub from_x : r.x ≤ x
  pub to_x : x < r.x + r.width
  pub from_y : r.y ≤ y
  pub to_y : y < r.y + r.height
