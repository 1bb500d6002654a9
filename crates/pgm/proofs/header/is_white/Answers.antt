use mathlib.Core.Path.{◌≡◌}
use mathlib.Core.Bool.{true}
use mathlib.Core.Logic.{◌⊎◌, inl, inr}
use Prim.Native.Nat.{ℕ}
use lib.Dec.{eqb}
use borrow.Author.Tests.{eq-eqb, ne_eqb}
use Rattle.pgm_format.specs.Pgm.{is_white}
use Rattle.pgm.proofs.header.is_white.Goals as goal

-- one of the first three
white : (b : ℕ) → (b ≡ 32) ⊎ (((b ≡ 32 → ⊥) × (b ≡ 9)) ⊎ ((b ≡ 32 → ⊥) × (b ≡ 9 → ⊥) × (b ≡ 13))) → is_white b ≡ true
unfolding is_white
white b (inl e) = rw (eq-eqb b 32 e)
white b (inr (inl t)) = rw (ne_eqb b 32 t.0, eq-eqb b 9 t.1)
white b (inr (inr t)) = rw (ne_eqb b 32 t.0, ne_eqb b 9 t.1, eq-eqb b 13 t.2)

-- none of them
last_asked : (b : ℕ) → (b ≡ 32 → ⊥) → (b ≡ 9 → ⊥) → (b ≡ 13 → ⊥) → eqb b 10 ≡ is_white b
unfolding is_white
last_asked b p q r = rw (ne_eqb b 32 p, ne_eqb b 9 q, ne_eqb b 13 r)

pub returns-then-byte-eq13 : goal.returns-then-byte-eq13
returns-then-byte-eq13 c = let e = c.if-byte-eq13.either in let w : is_white c.args.byte ≡ true = white c.args.byte e in cc

pub returns-else-byte-eq13 : goal.returns-else-byte-eq13
returns-else-byte-eq13 c = let f = c.if-byte-eq13.false in last_asked c.args.byte f.0 f.1 f.2
