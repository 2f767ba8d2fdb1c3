-- `advance_c::is_double` meets its contract. Assumes nothing.
use native.Mathlib.Omega.{arith}
use Rattle.advance_c.proofs.Turning.{is_double_true, is_double_false}
use Rattle.advance_c.proofs.is_double.Goals as goal

pub returns-then-two-one : goal.returns-then-two-one
returns-then-two-one c = is_double_true c.args.one c.args.two (omega (arith, c.if-one-two.true, c.if-two-one.true))

pub returns-then-one-two : goal.returns-then-one-two
returns-then-one-two c = is_double_false c.args.one c.args.two (λ e. c.if-two-one.false (omega (arith, c.if-one-two.true, e)))

pub returns : goal.returns
returns c = is_double_false c.args.one c.args.two (λ e. omega (arith, c.if-one-two.false, e))
