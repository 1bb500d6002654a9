-- One level of the walk: the two images that the code takes, what it asks of them, and the costs that it searches.
use mathlib.Core.Path.{◌≡◌, sym, ap, ap₂, ◌∙◌}
use mathlib.Core.List.{List}
use Prim.Native.Nat.{ℕ, ◌+◌, ◌-◌, ◌*◌, ◌≤◌}
use native.Mathlib.Omega.{arith}
use lib.ListN.{length, take, drop}
use lib.Seq.{drop-drop}
use Rattle.definitions.specs.Bitmap.{bitmap_words}
use Rattle.definitions.specs.Geometry.{Shift}
use Rattle.definitions.specs.Shrink.{side_at, samples_at, level_of, halved_samples, level_start}
use Rattle.definitions.specs.Align.{Exposure, Stepped, bitmaps_at, counts_at, cost_of, refined, step_words}
use Rattle.definitions.specs.Refusals.{FreeUpTo}
use Rattle.laws.specs.search.Free.{free_wider}
use Rattle.laws.specs.images.Pyramids.{side_le, samples_are, halved_le, level_end, level_length}
use Rattle.laws.specs.search.LevelSteps.{words_le, level_held}
use Rattle.mtb_align.specs.declared.pair.Pair.{Pair}
use Rattle.mtb_align.specs.Answers.{mode_of}
use Rattle.mtb_align.specs.Levelled.{Levelled}
use Rattle.mtb_align.specs.Search.{options_in, costs_in}

-- sides and images that are those of level k
pub record Taken (p : Pair) (k w h : ℕ) (r t : List ℕ) : Type 0 where
  pub width : w ≡ side_at k p.width
  pub height : h ≡ side_at k p.height
  pub first : r ≡ level_of (mode_of p.options.shrink) p.width p.height p.reference.now k
  pub second : t ≡ level_of (mode_of p.options.shrink) p.width p.height p.target.now k

-- what a pair of them has
pub record Sized (w h : ℕ) (r t : List ℕ) : Type 0 where
  pub wide : w ≤ 8192
  pub high : h ≤ 8192
  pub reference_whole : length r ≡ w * h
  pub target_whole : length t ≡ w * h

module _ {p : Pair} {k w h : ℕ} {r t : List ℕ} (q : Taken p k w h r t) where
  abbrev image : List ℕ → ℕ → Exposure
  image samples percentile = record { samples = samples; percentile = percentile }

  abbrev cost : Shift → ℕ
  cost = cost_of (options_in p.options) w h (image r p.first) (image t p.second) 0

  -- their costs as frames are the costs of level k
  cost_here : cost_of (options_in p.options) w h (image r p.first) (image t p.second) 0 ≡ costs_in p k
  unfolding counts_at bitmaps_at side_at level_of
  cost_here = rw (q.width, q.height, q.first, q.second)

  pub words_less : step_words w h ≤ step_words p.width p.height
  unfolding step_words
  words_less = omega (arith, ap₂ bitmap_words q.width q.height, words_le k p.width p.height)

  pub sized : Sized w h r t
  sized =
      let mode = mode_of p.options.shrink in
      let size = sym (samples_are p.width p.height k q.width q.height) in
      record {
        wide = omega (arith, q.width, side_le k p.width, p.wide);
        high = omega (arith, q.height, side_le k p.height, p.high);
        reference_whole = ap length q.first ∙ level_length mode p.width p.height p.reference.now k p.reference_whole ∙ size;
        target_whole = ap length q.second ∙ level_length mode p.width p.height p.target.now k p.target_whole ∙ size;
      }

  -- what the level's work gives
  pub gives : (around : Shift) {s : Stepped} {old new : List ℕ}
      → s ≡ refined cost around → FreeUpTo (step_words w h) old new
      → (s ≡ refined (costs_in p k) around) × FreeUpTo (step_words p.width p.height) old new
  gives around e free = (e ∙ ap (λ (c : Shift → ℕ). refined c around) cost_here, free_wider words_less free)

-- where the code finds level k, 1 or more, of both frames
pub record Bounds (w h last k start end half long : ℕ) : Type 0 where
  pub starts : start ≡ level_start w h k
  pub ends : end ≡ level_start w h k + samples_at k w h
  pub halves : half ≡ halved_samples w h last
  pub inside : end ≤ half
  pub room : half + half ≤ long

module _ {p : Pair} {last words k start end half : ℕ} {bytes : List ℕ} (g : Levelled p last bytes words) (some : 1 ≤ k) (before : k ≤ last) where
  pub bounds : start ≡ halved_samples p.width p.height (k - 1) → end ≡ halved_samples p.width p.height k → half ≡ halved_samples p.width p.height last
      → Bounds p.width p.height last k start end half (length bytes)
  unfolding level_start
  bounds a b e = record {
    starts = a;
    ends = b ∙ sym (level_end p.width p.height k some);
    halves = e;
    inside = omega (arith, halved_le p.width p.height k last before);
    room = omega (arith, g.room);
  }

  pub taken_parts : {w h : ℕ} → Bounds p.width p.height last k start end half (length bytes) → w ≡ side_at k p.width → h ≡ side_at k p.height
      → Taken p k w h (take (end - start) (drop start bytes)) (take (half + end - (half + start)) (drop (half + start) bytes))
  taken_parts b u v =
      let mode = mode_of p.options.shrink in
      let n : end - start ≡ samples_at k p.width p.height = omega (arith, b.starts, b.ends) in
      let m : half + end - (half + start) ≡ samples_at k p.width p.height = omega (arith, b.starts, b.ends) in
      record {
        width = u;
        height = v;
        first = rw (n, b.starts) (level_held mode p.width p.height p.reference.now bytes last k g.reference_halved some before);
        second = rw (m, ← drop-drop start half bytes, b.starts, b.halves)
            (level_held mode p.width p.height p.target.now (drop (halved_samples p.width p.height last) bytes) last k g.target_halved some before);
      }
