-- `range_test::range_below` meets its contract. Assumes nothing.
use Rattle.range_test.proofs.Ranges.{below_of}
use Rattle.range_test.proofs.range_below.Goals as goal

pub returns : goal.returns
returns c =
    let a = c.args in
    λ t. below_of a.p a.q a.lo a.hi _ _ _ c.is_below.result c.in-Some.ensures c.in-Some-lower.ensures c.in-Some-upper.ensures c.is_below.ensures t
