-- The thousandths of a double. Definitions only.
use Rattle.std.specs.Prelude.{ℕ, ◌+◌, ◌-◌, ◌*◌, ◌/◌, Bool, true, false, Float}
use Rattle.std.specs.Float.{nan, inf, fin}
use Rattle.std.specs.Float.Ieee.{up, down}

-- The thousandths of n / d, and below zero the size of those of - (n / d), nearest, halves up: 1000 * x + 1/2, cut to the next lower whole number. Of a
-- half the higher number is meant, which below zero has the smaller size.
unfoldable pub rounded : Bool → ℕ → ℕ → ℕ
rounded false n d = (2000 * n + d) / (2 * d)
rounded true n d = (2000 * n + d - 1) / (2 * d)

-- of x without its own sign, or of what that is below zero
unfoldable pub thousandths_of : Bool → Float → ℕ
unfolding rounded
thousandths_of minus nan = 0
thousandths_of minus (inf s) = 0
thousandths_of minus (fin s m e) = rounded minus (m * up e) (down e)
