-- `single::single_value` meets its contract. Assumes nothing.
use native.Mathlib.Omega.{arith}
use mathlib.Core.Path.{sym, subst, ◌∙◌}
use mathlib.Core.Bool.{Bool, not}
use lib.Dec.{T}
use lib.Ieee.{binary32, binary64, div, fits, is_nan, of_bits}
use lib.Ieee.Bits.{nan_bits_above, of_bits-fits}
use lib.Ieee.Fits.{and_i, fits_widens}
use borrow.Author.Tests.{le-ltb}
use Rattle.single.proofs.Values.{nan_is, number_is}
use Rattle.single.proofs.single_value.Goals as goal

pub returns-then-bits-gt2139095040 : goal.returns-then-bits-gt2139095040
unfolding div of_bits
returns-then-bits-gt2139095040 c = nan_is _ c.if-bits-gt2139095040.true

pub float_from_bits-result : goal.float_from_bits-result
float_from_bits-result c = subst (λ (b : Bool). T (not b)) (sym (nan_bits_above binary32 _ ∙ le-ltb _ _ c.if-bits-gt2139095040.false)) tt

pub float_to_float-result : goal.float_to_float-result
float_to_float-result c =
    let x = of_bits binary32 c.args.bits in
    and_i (fits binary64 x) (not (is_nan x)) (fits_widens x (of_bits-fits binary32 c.args.bits)) (number_is c.args.bits (omega arith))
