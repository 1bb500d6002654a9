use mathlib.Core.Path.{◌≡◌, ap, ap₂, ◌∙◌}
use mathlib.Core.List.{List}
use Prim.Native.Nat.{ℕ, ◌-◌, ◌*◌, ◌≤◌}
use native.Mathlib.Omega.{arith}
use lib.Dec.{ltb}
use lib.ListN.{length, get_or, take, drop}
use Rattle.definitions.specs.Sum.{sum}
use Rattle.definitions.specs.Bitmap.{bitmap_words, bit_of}
use Rattle.laws.specs.bitmaps.Bitmaps.{bitmap_most, all_total}
use Rattle.mtb_align.specs.Packed.{map_of}
use Rattle.mtb_align.proofs.survey.too_few.Goals.{After-words_per_row}
use Rattle.mtb_align.proofs.survey.too_few.Goals as goal

-- the words of one bitmap
size : (c : After-words_per_row)
    → let a = c.args in
    let n = a.packed.now.height * c.words_per_row.result in
    (n ≡ bitmap_words a.packed.now.width a.packed.now.height) × (n ≤ 1048576) × (4 * n ≡ length a.packed.now.words.now)
size c =
    let a = c.args in
    let p = c.args.packed.now in
    let e = ap (λ (k : ℕ). a.packed.now.height * k) c.words_per_row.ensures in
    (e, omega (arith, e, bitmap_most a.packed.now.width a.packed.now.height p.wide p.high), omega (arith, e, p.long))

-- the part that is counted is the reference's exclusion bitmap
part : (c : After-words_per_row)
    → let a = c.args in
    let n = a.packed.now.height * c.words_per_row.result in
    take (2 * n - n) (drop n a.packed.now.words.now) ≡ map_of a.packed.now 1
part c =
    let a = c.args in
    let n = a.packed.now.height * c.words_per_row.result in
    let e = (size c).0 in
    let d : 2 * n - n ≡ bitmap_words a.packed.now.width a.packed.now.height = omega (arith, e) in
    let f : n ≡ 1 * bitmap_words a.packed.now.width a.packed.now.height = omega (arith, e) in
    ap₂ (λ (i j : ℕ). take i (drop j a.packed.now.words.now)) d f

pub ones_in-requires : goal.ones_in-requires
ones_in-requires c = omega (arith, ap length (part (goal.at.ones_in-requires c).After-words_per_row), size (goal.at.ones_in-requires c).After-words_per_row, c.args.packed.now.reference_exclusion.long)

pub returns : goal.returns
returns c =
    let a = c.args in
    ap (λ (k : ℕ). ltb k a.floor)
    (c.ones_in.ensures
    ∙ ap (λ (l : List ℕ). sum (length l) (λ (k : ℕ). sum 64 (bit_of (get_or l k 0)))) (part (goal.at.returns c).After-words_per_row)
    ∙ all_total c.args.packed.now.reference_exclusion)
