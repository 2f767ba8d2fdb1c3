-- The bit patterns of the NaN. Assumes nothing.
use mathlib.Core.Path.{◌≡◌, refl, sym, ap, subst, ◌∙◌}
use mathlib.Core.Bool.{true, true≢false}
use Prim.Native.Nat.{ℕ, ◌%◌, ◌<◌}
use lib.Dec.{T}
use lib.Ieee.{Float, nan, inf, fin, binary64, of_bits, to_bits, is_nan, ne}
use lib.Ieee.Compare.{differs_from_itself}
use lib.Ieee.Bits.{nan_bits_is, nan_bits_above}
use borrow.Author.Tests.{lt-ltb}

-- a double that differs from itself is the NaN, whose pattern is the quiet one with no sign
pub nan_pattern : (x : Float) → ne x x ≡ true → 0x7ff8_0000_0000_0000 ≡ to_bits binary64 x
unfolding to_bits
nan_pattern x h = ap (to_bits binary64) (sym (differs_from_itself x (subst T (sym h) tt)))

-- the patterns above the infinity's, the sign aside, are the NaN's
pub nan_is : (b : ℕ) → 0x7ff0_0000_0000_0000 < b % 0x8000_0000_0000_0000 → nan ≡ of_bits binary64 b
unfolding is_nan
nan_is b h = only (of_bits binary64 b) (sym (nan_bits_is binary64 b) ∙ nan_bits_above binary64 b ∙ lt-ltb _ _ h)
  where
    only : (x : Float) → is_nan x ≡ true → nan ≡ x
    only nan e = refl
    only (inf s) e = absurd (true≢false (sym e))
    only (fin s m k) e = absurd (true≢false (sym e))
