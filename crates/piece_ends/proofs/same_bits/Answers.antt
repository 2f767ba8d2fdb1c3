-- `piece_ends::same_bits` meets its contract. Assumes nothing.
use Prim.Native.Nat.{ℕ}
use mathlib.Core.Bool.{true, false}
use mathlib.Core.Path.{◌≡◌, refl, sym, ◌∙◌}
use lib.Dec.{eqb}
use borrow.Author.Tests.{eq-eqb, ne_eqb}
use Rattle.piece_ends.specs.Ends.{same_bits}
use Rattle.piece_ends.proofs.same_bits.Goals as goal

differ : (a b x y : ℕ) → a ≡ x → b ≡ y → (a ≡ b → ⊥) → eqb x y ≡ false
differ a b x y p q h = ne_eqb x y (λ z. h (p ∙ (z ∙ sym q)))

agree : (a b x y : ℕ) → a ≡ x → b ≡ y → a ≡ b → eqb x y ≡ true
agree a b x y p q h = eq-eqb x y (sym p ∙ (h ∙ q))

pub returns-then-bits : goal.returns-then-bits
unfolding same_bits
returns-then-bits c = rw (differ _ _ _ _ c.bits.ensures c.bits-2.ensures c.if-bits.true) refl

pub returns-then-bits-2 : goal.returns-then-bits-2
unfolding same_bits
returns-then-bits-2 c =
    rw (agree _ _ _ _ c.bits.ensures c.bits-2.ensures c.if-bits.false, differ _ _ _ _ c.bits-3.ensures c.bits-4.ensures c.if-bits-2.true) refl

pub returns-then-bits-3 : goal.returns-then-bits-3
unfolding same_bits
returns-then-bits-3 c =
    rw
    (agree _ _ _ _ c.bits.ensures c.bits-2.ensures c.if-bits.false, agree _ _ _ _ c.bits-3.ensures c.bits-4.ensures c.if-bits-2.false, differ _ _ _ _ c.bits-5.ensures c.bits-6.ensures c.if-bits-3.true)
    refl

pub returns : goal.returns
unfolding same_bits
returns c =
    rw
    (agree _ _ _ _ c.bits.ensures c.bits-2.ensures c.if-bits.false, agree _ _ _ _ c.bits-3.ensures c.bits-4.ensures c.if-bits-2.false, agree _ _ _ _ c.bits-5.ensures c.bits-6.ensures c.if-bits-3.false)
    refl
