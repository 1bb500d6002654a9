-- What the report owes, in one table: each part is a sentence of demand 3, for any stack, any reach, floor and margin, and a record
-- space of any length. The parts on records, verdicts and the crop are records of their own, over any list, number and region, so that
-- they can be said as well of what a call wrote.
use Rattle.std.specs.Prelude.{◌≡◌, refl, ◌↔◌, ◌⊎◌, ℕ, ◌*◌, ◌≤◌, ◌<◌, length, get_or}
use Rattle.std.proofs.Common.{sym, ap, ◌∙◌, arith}
use mathlib.Core.List.{List, [], ◌∷◌, ◌++◌, Memᴰ}
use Rattle.definitions.specs.Build.{build}
use Rattle.definitions.specs.Geometry.{Shift, Rect, Place, origin}
use Rattle.definitions.specs.Align.{Stack, step_of, shift_of}
use Rattle.definitions.specs.Refusals.{Check, accepted, refused, answer, report_checks}
use Rattle.definitions.specs.Report.{NeighbourShift, Terms, frame_counts, RivalOf, Record, Before, records, records_needed, records_bytes, record_at, verdict, report_crop}
use Rattle.laws.specs.checks.Checks.{refused_for_space, accepted_for_space}
use Rattle.laws.specs.images.Crop.{CoveredByFrames, report_crop_in_frame, report_crop_covered, covered_report_crop}
use Rattle.laws.specs.report.ReadBack.{AllHeld, records_held, records_read_lem}
use Rattle.laws.specs.report.Records.{Names, records_name, rivals_named, records_once, records_in_order, records_number}
use Rattle.laws.specs.search.StepBounds.{Small, shift_reference}
use Rattle.laws.specs.report.Verdicts.{verdict_reference, verdict_cases, weak_means, weak_no_rival, alone_means, contested_means, FarFall, alone_says}

-- the record of frame k that names a shift, with both counts there
abbrev named : Stack → ℕ → Shift → Record
named a k s = record { frame = k; shift = s; counts = frame_counts a k s }

-- some records name the rivals
pub record NamesRivals (a : Stack) (q : Terms) (l : List Record) : Type 0 where
  -- "its records name each rival of each frame"
  pub each : (k : ℕ) → k < a.frames → (k ≡ a.reference → ⊥) → (s : Shift) → RivalOf a q k s → Memᴰ (named a k s) l
  -- "exactly once"
  pub once : (d : Record) (i j : ℕ) → i < length l → j < length l → (get_or l i d).frame ≡ (get_or l j d).frame → (get_or l i d).shift ≡ (get_or l j d).shift → i ≡ j
  -- "and no other shift, with both counts"
  pub only : (e : Record) → Memᴰ e l → Names a q e
  -- no record names a neighbour shift of its frame's step
  pub neighbours : (e : Record) → Memᴰ e l → NeighbourShift (step_of a e.frame) e.shift → ⊥
  -- they stand by frame, row and column
  pub ordered : (d : Record) (i j : ℕ) → i < j → j < length l → Before (get_or l i d) (get_or l j d)

-- v is the verdict on frame k: "weak, alone and contested mean exactly what 01 says"
pub record Judges (a : Stack) (q : Terms) (k v : ℕ) : Type 0 where
  pub reference : k ≡ a.reference → v ≡ 0
  pub other : (k ≡ a.reference → ⊥) → (v ≡ 1) ⊎ (v ≡ 2) ⊎ (v ≡ 3)
  pub weak : (k ≡ a.reference → ⊥) → (v ≡ 1) ↔ ((frame_counts a k (step_of a k)).compared < q.floor)
  pub weak_step : (k ≡ a.reference → ⊥) → (v ≡ 1) ↔ (RivalOf a q k (step_of a k) → ⊥)
  pub alone : (k ≡ a.reference → ⊥) → (v ≡ 2) ↔ (RivalOf a q k (step_of a k) × ((s : Shift) → RivalOf a q k s → s ≡ step_of a k))
  -- "the step compares at least f and every shift within reach that is two or more pixels away compares fewer than f or disagrees in
  -- more than the step plus m"
  pub alone_far : (k ≡ a.reference → ⊥) → (v ≡ 2) ↔ ((q.floor ≤ (frame_counts a k (step_of a k)).compared) × FarFall a q k)
  pub contested : (k ≡ a.reference → ⊥) → (v ≡ 3) ↔ (RivalOf a q k (step_of a k) × ((s : Shift) × RivalOf a q k s × (s ≡ step_of a k → ⊥)))

-- r is the crop: "exactly the places that every moved frame covers", the reference moved by (0, 0)
pub record Crops (a : Stack) (r : Rect) : Type 0 where
  pub places : (x y : ℕ) → Place r x y ↔ ((x < a.width) × (y < a.height) × CoveredByFrames a x y)
  pub still : shift_of a a.reference ≡ origin

pub record Demanded (a : Stack) (q : Terms) : Type 0 where
  pub rivals : NamesRivals a q (records a q)
  -- "it is refused for space exactly when they don't fit, and then gives their number", once all other checks pass
  pub short : (before : List Check) → answer before (tt {0}) ≡ accepted tt → (space : ℕ) → space < 20 * length (records a q)
      → answer (report_checks before (records_needed a q) space) (tt {0}) ≡ refused 10 (length (records a q) ∷ [])
  pub fits : (before : List Check) → answer before (tt {0}) ≡ accepted tt → (space : ℕ) → 20 * length (records a q) ≤ space
      → answer (report_checks before (records_needed a q) space) (tt {0}) ≡ accepted tt
  pub judged : (k : ℕ) → Judges a q k (verdict a q k)
  pub cropped : Crops a (report_crop a)
  -- "each 32 bits, low byte first, x and y signed": within 01's limits every number fits, and the bytes read back are the records
  pub held : Small a → q.reach ≤ 64 → AllHeld (records a q)
  pub read_back : Small a → q.reach ≤ 64 → (rest : List ℕ) → build (length (records a q)) (record_at (records_bytes (records a q) ++ rest)) ≡ records a q

pub demand_three : (a : Stack) (q : Terms) → Demanded a q
demand_three a q = record {
  rivals = record {
    each = λ k l ne s h. rivals_named a q (named a k s) (record { frame = l; other = ne; rival = h; counts = refl });
    once = records_once a q;
    only = records_name a q;
    neighbours = λ e m. (records_name a q e m).rival.no_neighbour_shift;
    ordered = records_in_order a q;
  };
  short = λ before all space h.
      refused_for_space (tt {0}) before (records_needed a q) space all (omega (arith, h, records_number a q)) ∙ ap (λ (n : ℕ). refused 10 (n ∷ [])) (sym (records_number a q));
  fits = λ before all space h. accepted_for_space (tt {0}) before (records_needed a q) space all (omega (arith, h, records_number a q));
  judged = λ k. record {
    reference = λ e. ap (verdict a q) e ∙ verdict_reference a q;
    other = verdict_cases a q k;
    weak = weak_means a q k;
    weak_step = weak_no_rival a q k;
    alone = alone_means a q k;
    alone_far = alone_says a q k;
    contested = contested_means a q k;
  };
  cropped = record {
    places = λ x y. (
      λ p. let f = report_crop_in_frame a x y p in (f.0, f.1, report_crop_covered a x y p),
      λ c. covered_report_crop a x y c.0 c.1 c.2,
    );
    still = shift_reference a;
  };
  held = records_held a q;
  read_back = λ s r rest. records_read_lem a q s r rest;
}
