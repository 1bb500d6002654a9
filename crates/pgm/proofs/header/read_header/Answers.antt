-- Each field that is found leaves the header to what is behind it; the first one that is missing leaves no header.
use mathlib.Core.Path.{◌≡◌, sym, ap, ◌∙◌}
use mathlib.Core.List.{List}
use Prim.Native.Nat.{ℕ, ◌≤◌}
use lib.ListN.{length, drop}
use Rattle.std.specs.Prelude.{Some}
use Rattle.pgm_format.specs.Pgm.{magic, field_of, one_white, Sizes, header_of, found}
use Rattle.pgm.specs.declared.header.Number.{Number}
use Rattle.pgm.specs.Inner.{PlaceIs, FieldIs}
use Rattle.pgm.proofs.Headers.{got, none_read, from_width, from_height, from_highest, from_last, header_none, header_on, Step, step, step_none, last_none, last_found}
use Rattle.pgm.proofs.Headers.{header_missing, header_found}
use Rattle.pgm.proofs.header.read_header.Goals as goal

-- ---- what is found

module _ (file : List ℕ) (at a : ℕ) (p : PlaceIs file (magic (drop at file)) (Some a)) where
  begun : (a ≤ length file) × (header_of (drop at file) ≡ from_width (drop a file))
  begun =
      let g = got _ (magic (drop at file)) p in
      (g.holds.inside, header_on (drop at file) g.is ∙ ap from_width (sym g.holds.left))

  module _ (w : Number) (q : FieldIs file (field_of (drop a file)) (Some w)) where
    width : Step file (header_of (drop at file)) from_height w
    width = step file (drop a file) from_height begun.1 q

    module _ (h : Number) (r : FieldIs file (field_of (drop w.next file)) (Some h)) where
      height : Step file (header_of (drop at file)) (from_highest width.n) h
      height = step file (drop w.next file) (from_highest width.n) width.goes r

      module _ (t : Number) (s : FieldIs file (field_of (drop h.next file)) (Some t)) where
        highest : Step file (header_of (drop at file)) (from_last width.n height.n) t
        highest = step file (drop h.next file) (from_last width.n height.n) height.goes s

pub returns-in_err-sizes : goal.returns-in_err-sizes
returns-in_err-sizes c =
    let f = c.args.file.now in
    let l = drop c.args.at f in
    rw c.from_residual.ensures (header_missing f l (header_none l (none_read _ (magic l) c.in_err-sizes.ensures)))

pub returns-in_err-width : goal.returns-in_err-width
returns-in_err-width c =
    let f = c.args.file.now in
    let b = begun f c.args.at c.in_ok-sizes.sizes c.in_ok-sizes.ensures in
    rw c.from_residual-in_err-width.ensures
    (header_missing f (drop c.args.at f) (step_none f (drop c.in_ok-sizes.sizes f) from_height b.1 c.in_err-width.ensures))

pub returns-in_err-height : goal.returns-in_err-height
returns-in_err-height c =
    let f = c.args.file.now in
    let w = width f c.args.at c.in_ok-sizes.sizes c.in_ok-sizes.ensures c.in_ok-width.width c.in_ok-width.ensures in
    rw c.from_residual-in_err-height.ensures
    (header_missing f (drop c.args.at f) (step_none f (drop c.in_ok-width.width.next f) (from_highest w.n) w.goes c.in_err-height.ensures))

pub returns-in_err-highest : goal.returns-in_err-highest
returns-in_err-highest c =
    let f = c.args.file.now in
    let w = width f c.args.at c.in_ok-sizes.sizes c.in_ok-sizes.ensures c.in_ok-width.width c.in_ok-width.ensures in
    let h = height f c.args.at c.in_ok-sizes.sizes c.in_ok-sizes.ensures c.in_ok-width.width c.in_ok-width.ensures c.in_ok-height.height c.in_ok-height.ensures in
    rw c.from_residual-in_err-highest.ensures
    (header_missing f (drop c.args.at f) (step_none f (drop c.in_ok-height.height.next f) (from_last w.n h.n) h.goes c.in_err-highest.ensures))

pub returns-in_err-start : goal.returns-in_err-start
returns-in_err-start c =
    let f = c.args.file.now in
    let t = highest f c.args.at c.in_ok-sizes.sizes c.in_ok-sizes.ensures c.in_ok-width.width c.in_ok-width.ensures c.in_ok-height.height
    c.in_ok-height.ensures c.in_ok-highest.highest c.in_ok-highest.ensures in
    let l = drop c.in_ok-highest.highest.next f in
    rw c.from_residual-in_err-start.ensures
    (header_missing f (drop c.args.at f) (t.goes ∙ last_none _ l (none_read _ (one_white (tt {0}) l) c.in_err-start.ensures)))

pub returns : goal.returns
returns c =
    let f = c.args.file.now in
    let w = width f c.args.at c.in_ok-sizes.sizes c.in_ok-sizes.ensures c.in_ok-width.width c.in_ok-width.ensures in
    let h = height f c.args.at c.in_ok-sizes.sizes c.in_ok-sizes.ensures c.in_ok-width.width c.in_ok-width.ensures c.in_ok-height.height c.in_ok-height.ensures in
    let t = highest f c.args.at c.in_ok-sizes.sizes c.in_ok-sizes.ensures c.in_ok-width.width c.in_ok-width.ensures c.in_ok-height.height
    c.in_ok-height.ensures c.in_ok-highest.highest c.in_ok-highest.ensures in
    let l = drop c.in_ok-highest.highest.next f in
    let g = got _ (one_white (tt {0}) l) c.in_ok-start.ensures in
    let sizes : Sizes = record { width = w.n; height = h.n; highest = t.n } in
    header_found f (drop c.args.at f) _
    (t.goes ∙ last_found sizes l g.is ∙ ap (found sizes) (sym g.holds.left))
    g.holds.inside
    (w.value, h.value, t.value)
