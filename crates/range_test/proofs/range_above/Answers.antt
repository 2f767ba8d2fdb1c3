-- `range_test::range_above` meets its contract. Assumes nothing.
use Rattle.range_test.proofs.Ranges.{above_of}
use Rattle.range_test.proofs.range_above.Goals as goal

pub returns-then-most-least : goal.returns-then-most-least
returns-then-most-least c =
    let a = c.args in
    λ t. above_of a.p a.q a.lo a.hi _ _ c.from_minus_one.result c.in-Some.ensures c.in-Some-lower.ensures c.if-most-least.true c.from_minus_one.ensures t
