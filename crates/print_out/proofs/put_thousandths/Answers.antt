-- `print_out::put_thousandths` meets its contract. Assumes nothing.
use Rattle.print_out.proofs.Distance.{small_text, large_text}
use native.Mathlib.Omega.{arith}
use Rattle.print_out.proofs.put_thousandths.Goals as goal

pub returns-then-b-ge4841369599423283200 : goal.returns-then-b-ge4841369599423283200
returns-then-b-ge4841369599423283200 c =
    let a = c.args in
    let sign = c.put_sign-j.ensures in
    let digits = c.put_large.ensures in
    (large_text a.minus a.b c.if-b-ge4841369599423283200.true (omega arith) sign.0 digits.0, omega (arith, sign.1, digits.1))

pub returns : goal.returns
returns c =
    let a = c.args in
    let sign = c.put_sign-j-2.ensures in
    let digits = c.put_decimal.ensures in (
      small_text a.minus a.b _ _ c.thousandths-t.ensures c.is_below_zero.ensures sign.0 digits.0,
      omega (arith, sign.1, digits.1),
    )
