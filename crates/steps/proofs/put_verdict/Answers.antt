use mathlib.Core.Path.{◌≡◌, refl, sym, ap}
use native.Mathlib.Omega.{arith}
use mathlib.Core.List.{List, ◌++◌}
use Prim.Native.Nat.{ℕ, zero, suc, ◌≤◌}
use Rattle.steps.specs.Text.{ascii, verdict_word}
use Rattle.steps.proofs.Puts.{put_as}
use Rattle.steps.proofs.put_verdict.Goals as goal

-- a verdict that is none of the first three
otherwise : (v : ℕ) → 3 ≤ v → ascii "contested" ≡ verdict_word v
unfolding verdict_word
otherwise zero h = absurd (omega arith)
otherwise (suc zero) h = absurd (omega arith)
otherwise (suc (suc zero)) h = absurd (omega arith)
otherwise (suc (suc (suc v))) h = refl

pub returns-in-0 : goal.returns-in-0
unfolding ascii verdict_word
returns-in-0 c = put_as c.put_bytes.ensures (ap (λ (v : ℕ). ascii " " ++ verdict_word v) (sym c.in-0.is))

pub returns-in-1 : goal.returns-in-1
unfolding ascii verdict_word
returns-in-1 c = put_as c.put_bytes-in-1.ensures (ap (λ (v : ℕ). ascii " " ++ verdict_word v) (sym c.in-1.is))

pub returns-in-2 : goal.returns-in-2
unfolding ascii verdict_word
returns-in-2 c = put_as c.put_bytes-in-2.ensures (ap (λ (v : ℕ). ascii " " ++ verdict_word v) (sym c.in-2.is))

pub returns-in_default : goal.returns-in_default
unfolding ascii verdict_word
returns-in_default c = put_as c.put_bytes-in_default.ensures (ap (λ (l : List ℕ). ascii " " ++ l) (otherwise c.args.verdict (omega arith)))
