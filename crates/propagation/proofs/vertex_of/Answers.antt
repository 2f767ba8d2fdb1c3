-- `propagation::vertex_of` meets its contract. Assumes nothing.
use Rattle.propagation.specs.Plane.{vertex_of}
use borrow.Author.Tests.{eq-eqb, ne_eqb}
use Rattle.propagation.proofs.vertex_of.Goals as goal

pub returns-then-k-a : goal.returns-then-k-a
unfolding vertex_of
returns-then-k-a c = rw (eq-eqb _ _ c.if-k-a.true)

pub returns-then-k-b : goal.returns-then-k-b
unfolding vertex_of
returns-then-k-b c = rw (ne_eqb _ _ c.if-k-a.false, eq-eqb _ _ c.if-k-b.true)

pub returns : goal.returns
unfolding vertex_of
returns c = rw (ne_eqb _ _ c.if-k-a.false, ne_eqb _ _ c.if-k-b.false)
