-- The key of a number, by the test of it. Assumes nothing.
use Prim.Native.Nat.{ℕ}
use mathlib.Core.Path.{◌≡◌, sym, ◌∙◌}
use borrow.Author.Tests.{eq-eqb, ne_eqb}
use Rattle.stl_table.specs.Keys.{zero_unsigned}

pub of_minus_zero : (b n : ℕ) → b ≡ n → b ≡ 2147483648 → 0 ≡ zero_unsigned n
unfolding zero_unsigned
of_minus_zero b n e h = rw (eq-eqb n 2147483648 (sym e ∙ h))

pub of_other : (b n : ℕ) → b ≡ n → (b ≡ 2147483648 → ⊥) → b ≡ zero_unsigned n
unfolding zero_unsigned
of_other b n e h = rw (ne_eqb n 2147483648 (λ z. h (e ∙ z))) e
