-- `source::lowest_end` meets its contract. Assumes nothing.
use Rattle.source.proofs.Nearer.{left_least, right_least}
use Rattle.source.proofs.lowest_end.Goals as goal

pub returns-then-is_finite : goal.returns-then-is_finite
returns-then-is_finite c =
    let a = c.args in
    rw c.edge-d.ensures
    (left_least a.x a.y a.s a.b0 a.b1 c.if-x-b0.true c.if-b0-b1.true (rw (← c.edge-d.ensures, ← c.is_finite.ensures) c.if-is_finite.true))

pub returns-then-is_finite-2 : goal.returns-then-is_finite-2
returns-then-is_finite-2 c =
    let a = c.args in
    rw c.edge-d-then-b1-x.ensures
    (right_least a.x a.y a.s a.b0 a.b1 c.if-b1-x.true c.if-b0-b1.true (rw (← c.edge-d-then-b1-x.ensures) c.if-d.true)
    (rw (← c.edge-d-then-b1-x.ensures, ← c.is_finite-then-d.ensures) c.if-is_finite-2.true))

pub returns : goal.returns
returns c = rw (c.min.ensures, c.edge-2.ensures, c.edge.ensures)
