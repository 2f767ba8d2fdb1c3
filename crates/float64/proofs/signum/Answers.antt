-- `float64::signum` meets its contract. Assumes nothing.
use mathlib.Core.Path.{sym, ◌∙◌, subst}
use lib.Dec.{T}
use borrow.Author.Tests.{not-true, not-false, lt-ltb, le-ltb}
use Rattle.float64.specs.Scalar.{signum_of, negative}
use Rattle.root_spec.proofs.Floats.{no_nan}
use Rattle.float64.proofs.Scalar.{nan_of, number_of, sign_bit}
use Rattle.float64.proofs.signum.Goals as goal

pub returns-then-x : goal.returns-then-x
unfolding signum_of
returns-then-x c = rw (nan_of _ c.if-x.true)

pub float_to_bits-x : goal.float_to_bits-x
float_to_bits-x c = no_nan _ c.if-x.false

pub returns-then-x-lt9223372036854775808 : goal.returns-then-x-lt9223372036854775808
unfolding signum_of
returns-then-x-lt9223372036854775808 c =
    let x = c.args.x in
    let n = number_of _ c.if-x.false in
    rw (n, not-true (negative x) (sym (sign_bit x (subst T (sym c.well_formed.0.1) tt) n) ∙ lt-ltb _ _ c.if-x-lt9223372036854775808.true))

pub returns : goal.returns
unfolding signum_of
returns c =
    let x = c.args.x in
    let n = number_of _ c.if-x.false in
    rw (n, not-false (negative x) (sym (sign_bit x (subst T (sym c.well_formed.0.1) tt) n) ∙ le-ltb _ _ c.if-x-lt9223372036854775808.false))
