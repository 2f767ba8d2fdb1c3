-- `advance_c::turns_fit` meets its contract. Assumes nothing.
use native.Mathlib.Omega.{arith}
use Rattle.advance_c.proofs.Turning.{windows_lack, out_unlike, keep_unlike, next_told}
use Rattle.advance_c.proofs.turns_fit.Goals as goal

pub returns-then-is_double-2 : goal.returns-then-is_double-2
returns-then-is_double-2 c =
    next_told _ _ _ _ _ _ _ c.count.ensures c.if-made-count.true c.is_double.ensures c.if-is_double.true c.is_double-then-is_double.ensures c.if-is_double-2.true c.is_double-then-is_double-2.ensures

pub returns-then-is_double : goal.returns-then-is_double
returns-then-is_double c =
    keep_unlike _ _ _ _ _ _ _ c.count.ensures c.if-made-count.true c.is_double.ensures c.if-is_double.true c.is_double-then-is_double.ensures c.if-is_double-2.false

pub returns-then-made-count : goal.returns-then-made-count
returns-then-made-count c =
    out_unlike _ _ _ _ _ _ _ c.count.ensures c.if-made-count.true c.is_double.ensures c.if-is_double.false

pub returns : goal.returns
returns c = windows_lack _ _ _ _ _ _ _ c.count.ensures (omega (arith, c.if-made-count.false))
