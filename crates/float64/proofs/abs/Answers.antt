-- `float64::abs` meets its contract. Assumes nothing.
use mathlib.Core.Path.{sym, ap, ◌∙◌, subst}
use lib.Dec.{T}
use lib.Ieee.{binary64, fits, of_bits}
use lib.Ieee.Compare.{differs_from_itself}
use lib.Ieee.Bits.{of_bits-to_bits}
use Rattle.float64.specs.Scalar.{abs_of}
use Rattle.root_spec.proofs.Floats.{no_nan, inf_bits}
use Rattle.float64.proofs.Scalar.{number_of, abs_bits, abs_low, abs_fits}
use Rattle.float64.proofs.abs.Goals as goal

pub returns-then-x : goal.returns-then-x
unfolding abs_of
returns-then-x c = rw (differs_from_itself c.args.x (subst T (sym c.if-x.true) tt))

pub float_to_bits-result : goal.float_to_bits-result
float_to_bits-result c = no_nan _ c.if-x.false

pub float_from_bits-result : goal.float_from_bits-result
float_from_bits-result c = inf_bits _ (rw (abs_bits c.args.x (subst T (sym c.well_formed.0.1) tt) (number_of _ c.if-x.false)) (abs_low c.args.x (subst T (sym c.well_formed.0.1) tt) (number_of _ c.if-x.false)))

pub returns : goal.returns
returns c = ap (of_bits binary64) (abs_bits c.args.x (subst T (sym c.well_formed.0.1) tt) (number_of _ c.if-x.false)) ∙ of_bits-to_bits binary64 (abs_of c.args.x) (abs_fits binary64 c.args.x (subst T (sym c.well_formed.0.1) tt))
