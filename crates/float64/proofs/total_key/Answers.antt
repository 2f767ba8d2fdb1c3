-- `float64::total_key` meets its contract. Assumes nothing.
use mathlib.Core.Path.{subst, sym}
use native.Mathlib.Omega.{arith}
use lib.Dec.{T}
use lib.Ieee.{binary64}
use lib.Ieee.Compare.{differs_from_itself}
use lib.Ieee.Bits.{to_bits-lt}
use Rattle.float64.specs.TotalOrder.{total_key}
use Rattle.root_spec.proofs.Floats.{no_nan}
use Rattle.float64.proofs.TotalOrder.{turned_low, turned_high, key_none}
use Rattle.float64.proofs.total_key.Goals as goal

pub returns-then-x : goal.returns-then-x
returns-then-x c = rw (differs_from_itself c.args.x (subst T (sym c.if-x.true) tt)) (sym key_none)

pub float_to_bits-b : goal.float_to_bits-b
float_to_bits-b c = no_nan _ c.if-x.false

pub returns-then-b-lt9223372036854775808 : goal.returns-then-b-lt9223372036854775808
unfolding total_key
returns-then-b-lt9223372036854775808 c = turned_low _ c.if-b-lt9223372036854775808.true

pub overflow_sub-result : goal.overflow_sub-result
overflow_sub-result c = omega (arith, to_bits-lt binary64 c.args.x (subst T (sym c.well_formed.0.1) tt))

pub returns : goal.returns
unfolding total_key
returns c = turned_high _ c.if-b-lt9223372036854775808.false
