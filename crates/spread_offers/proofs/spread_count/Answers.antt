-- `spread_offers::spread_count` meets its contract. Assumes nothing.
use native.Mathlib.Omega.{arith}
use Rattle.spread_offers.specs.Spreading.{spread_count_at}
use Rattle.spread_offers.proofs.spread_count.Goals as goal

pub returns-then-n-le1431655765 : goal.returns-then-n-le1431655765
unfolding spread_count_at
returns-then-n-le1431655765 c =
    rw c.in-Vertex.is (omega (arith, c.if-n-le1431655765.true, c.vertex_degree-n.ensures))

pub returns-in-Window : goal.returns-in-Window
unfolding spread_count_at
returns-in-Window c = rw c.in-Window.is

pub returns-else-n-le1431655765 : goal.returns-else-n-le1431655765
unfolding spread_count_at
returns-else-n-le1431655765 c =
    rw c.in-Vertex.is (omega (arith, c.if-n-le1431655765.false, c.vertex_degree-n.ensures))
