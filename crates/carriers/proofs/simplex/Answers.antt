-- `carriers::simplex` meets its contract. Assumes nothing.
use Rattle.carriers.specs.Carrier.{filtered, simplex_of}
use Rattle.carriers.proofs.simplex.Goals as goal

pub returns-then-b : goal.returns-then-b
unfolding filtered simplex_of
returns-then-b c = rw (c.if-b.true, c.if-a.true) c.at_vertex.ensures

pub returns-then-c : goal.returns-then-c
unfolding filtered simplex_of
returns-then-c c = rw (c.if-c.true, c.if-b.false, c.if-a.true) c.at_vertex-then-c.ensures

pub returns-then-a : goal.returns-then-a
unfolding filtered simplex_of
returns-then-a c = rw (c.if-c.false, c.if-b.false, c.if-a.true) c.at_edge.ensures

pub returns-then-c-2 : goal.returns-then-c-2
unfolding filtered simplex_of
returns-then-c-2 c = rw (c.if-c-2.true, c.if-b-2.true, c.if-a.false) c.at_vertex-then-c-2.ensures

pub returns-then-b-2 : goal.returns-then-b-2
unfolding filtered simplex_of
returns-then-b-2 c = rw (c.if-c-2.false, c.if-b-2.true, c.if-a.false) c.at_edge-then-b-2.ensures

pub returns-then-c-3 : goal.returns-then-c-3
unfolding filtered simplex_of
returns-then-c-3 c = rw (c.if-c-3.true, c.if-b-2.false, c.if-a.false) c.at_edge-then-c-3.ensures

pub returns : goal.returns
unfolding filtered simplex_of
returns c = rw (c.if-c-3.false, c.if-b-2.false, c.if-a.false)
