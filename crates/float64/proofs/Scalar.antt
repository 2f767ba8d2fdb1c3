-- What the tests of the code say of its arguments, and the bits of a magnitude. Assumes nothing.
use Prim.Native.Nat.{ℕ, ◌+◌, ◌%◌, ◌<◌, ◌≤◌}
use mathlib.Core.Bool.{true, false, not, cond, true≢false}
use mathlib.Core.Path.{◌≡◌, refl, sym, ap, subst}
use native.Mathlib.Omega.{arith}
use native.Mathlib.Nat.{mod-eq_of_lt}
use lib.Dec.{T, ltb}
use lib.IntN.{pos}
use lib.Ieee.{Float, nan, inf, fin, Format, binary64, to_bits, of_bits, fits, is_nan, ne, lt, neg, div}
use lib.Ieee.Bits.{is_false}
use lib.Ieee.Fits.{inf-fits}
use lib.Ieee.Compare.{differs_from_itself}
use Rattle.root_spec.proofs.Floats.{no_nan}
use borrow.Author.Tests.{lt-ltb, le-ltb}
use Rattle.float64.specs.Scalar.{zero64, one, negative, abs_of, is_finite}
use Rattle.float64.specs.TotalOrder.{half_range}
use Rattle.root_spec.proofs.Units.{fits_either}
use Rattle.float64.proofs.Bits.{to_bits_fin, pattern_small, fin_below}

-- `x != x` is the test for a NaN
pub nan_of : (x : Float) → ne x x ≡ true → is_nan x ≡ true
unfolding is_nan
nan_of x h = ap is_nan (differs_from_itself x (subst T (sym h) tt))

pub number_of : (x : Float) → ne x x ≡ false → is_nan x ≡ false
number_of x h = is_false (is_nan x) (no_nan x h)

-- ---- the finite values lie between the infinities
abbrev infinity : Float
infinity = div binary64 one zero64

infinity_is : infinity ≡ inf false
unfolding div of_bits
infinity_is = refl

finite_test : (x : Float) → is_finite x ≡ cond (lt x (inf false)) (lt (neg (inf false)) x) false
unfolding lt neg
finite_test nan = refl
finite_test (inf true) = refl
finite_test (inf false) = refl
finite_test (fin s m e) = refl

pub finite_tests : (x : Float) → is_finite x ≡ cond (lt x infinity) (lt (neg infinity) x) false
finite_tests x = subst (λ (i : Float). is_finite x ≡ cond (lt x i) (lt (neg i) x) false) (sym infinity_is) (finite_test x)

-- ---- the constants
pub zero_is : zero64 ≡ fin false 0 (pos 0)
unfolding of_bits
zero_is = refl

pub one_is : one ≡ fin false 1 (pos 0)
unfolding of_bits
one_is = refl

-- ---- the sign's bit
pub sign_bit : (x : Float) → T (fits binary64 x) → is_nan x ≡ false → ltb (to_bits binary64 x) half_range ≡ not (negative x)
unfolding negative is_nan
sign_bit nan p h = absurd (true≢false h)
sign_bit (inf true) p h = unfold to_bits in refl
sign_bit (inf false) p h = unfold to_bits in refl
sign_bit (fin true m e) p h = le-ltb (to_bits binary64 (fin true m e)) half_range (omega (arith, to_bits_fin true m e))
sign_bit (fin false m e) p h = lt-ltb (to_bits binary64 (fin false m e)) half_range (omega (arith, to_bits_fin false m e, pattern_small false m e p))

-- without it the bits are those of the magnitude
mod_half : (b p : ℕ) → p < half_range → b ≡ half_range + p → b % half_range ≡ p
mod_half b p h e = omega arith

pub abs_bits : (x : Float) → T (fits binary64 x) → is_nan x ≡ false → to_bits binary64 x % half_range ≡ to_bits binary64 (abs_of x)
unfolding abs_of is_nan
abs_bits nan p h = absurd (true≢false h)
abs_bits (inf true) p h = unfold to_bits in refl
abs_bits (inf false) p h = unfold to_bits in refl
abs_bits (fin true m e) p h = mod_half (to_bits binary64 (fin true m e)) (to_bits binary64 (fin false m e)) (omega (arith, to_bits_fin false m e, pattern_small true m e p)) (omega (arith, to_bits_fin true m e, to_bits_fin false m e))
abs_bits (fin false m e) p h = mod-eq_of_lt (omega (arith, to_bits_fin false m e, pattern_small false m e p))

pub abs_fits : (f : Format) (x : Float) → T (fits f x) → T (fits f (abs_of x))
unfolding abs_of
abs_fits f nan p = p
abs_fits f (inf s) p = inf-fits f false
abs_fits f (fin s m e) p = fits_either f s false m e p

pub abs_low : (x : Float) → T (fits binary64 x) → is_nan x ≡ false → to_bits binary64 (abs_of x) ≤ 0x7ff0_0000_0000_0000
unfolding abs_of is_nan
abs_low nan p h = absurd (true≢false h)
abs_low (inf s) p h = unfold to_bits in omega arith
abs_low (fin s m e) p h = omega (arith, to_bits_fin false m e, fin_below m e (fits_either binary64 s false m e p))
