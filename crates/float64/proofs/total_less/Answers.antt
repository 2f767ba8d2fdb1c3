-- `float64::total_less` meets its contract. Assumes nothing.
use Prim.Native.Nat.{ℕ}
use mathlib.Core.Path.{◌≡◌, sym, ◌∙◌, subst}
use mathlib.Core.Bool.{Bool, true, false}
use lib.Dec.{T, ltb}
use lib.Ieee.{Float, binary64, fits}
use borrow.Author.Tests.{lt-ltb, le-ltb}
use Rattle.float64.specs.TotalOrder.{total_key, total_less}
use Rattle.float64.proofs.TotalOrder.{total_key_less}
use Rattle.float64.proofs.total_less.Goals as goal

-- the test on two keys is the order of their values, which the format holds
tested : (x y : Float) → T (fits binary64 x) → T (fits binary64 y) → (p q : ℕ) (b : Bool) → p ≡ total_key x → q ≡ total_key y → ltb p q ≡ b → b ≡ total_less x y
tested x y fx fy p q b h k t = sym t ∙ rw (h, k) (total_key_less x y fx fy)

pub returns-then-total_key : goal.returns-then-total_key
returns-then-total_key c = tested c.args.x c.args.y (subst T (sym c.well_formed.0.1) tt) (subst T (sym c.well_formed.1.0.1) tt) _ _ true c.total_key.ensures c.total_key-2.ensures (lt-ltb _ _ c.if-total_key.true)

pub returns : goal.returns
returns c = tested c.args.x c.args.y (subst T (sym c.well_formed.0.1) tt) (subst T (sym c.well_formed.1.0.1) tt) _ _ false c.total_key.ensures c.total_key-2.ensures (le-ltb _ _ c.if-total_key.false)
