-- `stored_bytes::expected` meets its contract. Assumes nothing.
use native.Mathlib.Omega.{arith}
use mathlib.Core.Path.{◌∙◌}
use Rattle.stored_bytes.proofs.Places.{seven_behind, none_stored, stored_byte}
use Rattle.stored_bytes.proofs.expected.Goals as goal

pub returns-then-i-n : goal.returns-then-i-n
returns-then-i-n c = seven_behind _ _ _ _ c.if-i-n.true

pub returns-then-s-from : goal.returns-then-s-from
returns-then-s-from c = none_stored _ _ _ _ c.if-i-n.false (omega (arith, c.if-s-from.true))

pub returns-then-s-from-2 : goal.returns-then-s-from-2
returns-then-s-from-2 c = none_stored _ _ _ _ c.if-i-n.false (omega (arith, c.if-s-from-2.true))

pub returns : goal.returns
returns c =
    c.u32_of_byte.ensures.0 ∙ stored_byte _ _ _ _ c.if-i-n.false (omega (arith, c.if-s-from-2.false, c.if-s-from.false))
