use Rattle.std.proofs.Common.{◌≡◌, ℕ, ◌≤◌, List, ◌++◌, length, ltb, rules, tests}
use Rattle.std.specs.List.{list_any}
use Rattle.std.proofs.lemmas.Iterator.{YieldsList-from_slice}
use Rattle.std.proofs.lemmas.Iterator.Search.{any_from_yields_List}
use Rattle.definitions.specs.Refusals.{Answer, answer, frames_checks}
use Rattle.laws.specs.checks.Checks.{length_stop, length_skip}
use Rattle.laws.specs.checks.ChecksStack.{frames_stop, frames_skip, reference_stop, reference_left, entries, past_lists, past_entries, past_reference, widths_stop, heights_stop, cuts_stop}
use Rattle.mtb_align.proofs.Entries.{sides_pass, sides_fail, cuts_pass, cuts_fail}
use Rattle.mtb_align.proofs.checks.frames_fit.Goals.{After-any, After-any-2, After-any-3}
use Rattle.mtb_align.proofs.checks.frames_fit.Goals as goal

-- past the tests of the three lists' numbers
past_lengths : (widths heights percentiles : List ℕ) (reference : ℕ) {r : Answer (Unit {0})}
    → length widths ≤ 16 → length heights ≤ 16 → length heights ≡ length widths → length percentiles ≡ length widths
    → r ≡ answer (entries widths heights percentiles reference ++ reference_left widths heights percentiles reference) tt
    → r ≡ answer (frames_checks widths heights percentiles reference) tt
past_lengths widths heights percentiles reference p q e f h = past_lists _ _ _ _ p q e (length_skip tt _ _ _ f h)

pub returns-then-widths-gt-MOST_FRAMES : goal.returns-then-widths-gt-MOST_FRAMES
unfolding frames_checks
returns-then-widths-gt-MOST_FRAMES c = frames_stop tt _ _ c.if-widths-gt-MOST_FRAMES.true

pub returns-then-heights-gt-MOST_FRAMES : goal.returns-then-heights-gt-MOST_FRAMES
unfolding frames_checks
returns-then-heights-gt-MOST_FRAMES c =
    frames_skip tt _ _ c.if-widths-gt-MOST_FRAMES.false (frames_stop tt _ _ c.if-heights-gt-MOST_FRAMES.true)

pub returns-then-heights-widths : goal.returns-then-heights-widths
unfolding frames_checks
returns-then-heights-widths c =
    frames_skip tt _ _ c.if-widths-gt-MOST_FRAMES.false
    (frames_skip tt _ _ c.if-heights-gt-MOST_FRAMES.false (length_stop tt _ _ _ c.if-heights-widths.true))

pub returns-then-percentiles-widths : goal.returns-then-percentiles-widths
returns-then-percentiles-widths c =
    past_lists _ _ _ _ c.if-widths-gt-MOST_FRAMES.false c.if-heights-gt-MOST_FRAMES.false c.if-heights-widths.false
    (length_stop tt _ _ _ c.if-percentiles-widths.true)

-- ---- what the code finds of each list's entries

widths_over : (c : After-any) → c.any.result ≡ list_any (ltb 8192) c.args.widths.now
widths_over c = any_from_yields_List (ltb 8192) _ _ _ c.any.ensures.ran (YieldsList-from_slice c.args.widths.now cc) (λ x b q k. search (rules, tests))

heights_over : (c : After-any-2) → c.any-2.result ≡ list_any (ltb 8192) c.args.heights.now
heights_over c = any_from_yields_List (ltb 8192) _ _ _ c.any-2.ensures.ran (YieldsList-from_slice c.args.heights.now cc) (λ x b q k. search (rules, tests))

cuts_over : (c : After-any-3) → c.any-3.result ≡ list_any (ltb 100) c.args.percentiles.now
cuts_over c = any_from_yields_List (ltb 100) _ _ _ c.any-3.ensures.ran (YieldsList-from_slice c.args.percentiles.now cc) (λ x b q k. search (rules, tests))

pub returns-then-any : goal.returns-then-any
returns-then-any c =
    let s = goal.at.returns-then-any c in
    past_lengths _ _ _ _ c.if-widths-gt-MOST_FRAMES.false c.if-heights-gt-MOST_FRAMES.false c.if-heights-widths.false
    c.if-percentiles-widths.false
    (widths_stop _ _ _ _ (sides_fail _ (widths_over s.After-any) c.if-any.true))

pub returns-then-any-2 : goal.returns-then-any-2
returns-then-any-2 c =
    let s = goal.at.returns-then-any-2 c in
    past_lengths _ _ _ _ c.if-widths-gt-MOST_FRAMES.false c.if-heights-gt-MOST_FRAMES.false c.if-heights-widths.false
    c.if-percentiles-widths.false
    (heights_stop _ _ _ _ (sides_pass _ (widths_over s.After-any) c.if-any.false)
    (sides_fail _ (heights_over s.After-any-2) c.if-any-2.true))

pub returns-then-any-3 : goal.returns-then-any-3
returns-then-any-3 c =
    let s = goal.at.returns-then-any-3 c in
    past_lengths _ _ _ _ c.if-widths-gt-MOST_FRAMES.false c.if-heights-gt-MOST_FRAMES.false c.if-heights-widths.false
    c.if-percentiles-widths.false
    (cuts_stop _ _ _ _ (sides_pass _ (widths_over s.After-any) c.if-any.false)
    (sides_pass _ (heights_over s.After-any-2) c.if-any-2.false)
    (cuts_fail _ (cuts_over s.After-any-3) c.if-any-3.true))

pub returns-then-reference-widths : goal.returns-then-reference-widths
returns-then-reference-widths c =
    let s = goal.at.returns-then-reference-widths c in
    past_lengths _ _ _ _ c.if-widths-gt-MOST_FRAMES.false c.if-heights-gt-MOST_FRAMES.false c.if-heights-widths.false
    c.if-percentiles-widths.false
    (past_entries _ _ _ _ (sides_pass _ (widths_over s.After-any) c.if-any.false)
    (sides_pass _ (heights_over s.After-any-2) c.if-any-2.false) (cuts_pass _ (cuts_over s.After-any-3) c.if-any-3.false)
    (reference_stop tt _ _ _ c.if-reference-widths.true))

pub returns : goal.returns
returns c =
    let s = goal.at.returns c in
    past_lengths _ _ _ _ c.if-widths-gt-MOST_FRAMES.false c.if-heights-gt-MOST_FRAMES.false c.if-heights-widths.false
    c.if-percentiles-widths.false
    (past_entries _ _ _ _ (sides_pass _ (widths_over s.After-any) c.if-any.false)
    (sides_pass _ (heights_over s.After-any-2) c.if-any-2.false) (cuts_pass _ (cuts_over s.After-any-3) c.if-any-3.false)
    (past_reference c.args.widths.now c.args.heights.now c.args.percentiles.now c.args.reference c.if-reference-widths.false c.pairs_fit.ensures))
