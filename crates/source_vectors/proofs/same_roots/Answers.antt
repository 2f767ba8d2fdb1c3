-- `source_vectors::same_roots` meets its contract. Assumes nothing.
use borrow.Author.Tests.{eq-eqb, ne_eqb}
use Rattle.source_vectors.specs.Replay.{same_roots}
use Rattle.source_vectors.proofs.same_roots.Goals as goal

pub returns-then-n-eq2 : goal.returns-then-n-eq2
unfolding same_roots
returns-then-n-eq2 c = rw (c.in-Two.is, ← c.same_value-in-Two.ensures, c.if-same_value.true, eq-eqb _ _ c.if-n-eq2.true, c.same_value-then-n-eq2.ensures)

pub returns-else-n-eq2 : goal.returns-else-n-eq2
unfolding same_roots
returns-else-n-eq2 c = rw (c.in-Two.is, ← c.same_value-in-Two.ensures, c.if-same_value.true, ne_eqb _ _ c.if-n-eq2.false)

pub returns-in-None : goal.returns-in-None
unfolding same_roots
returns-in-None c = rw c.in-None.is

pub returns-then-n-eq1 : goal.returns-then-n-eq1
unfolding same_roots
returns-then-n-eq1 c = rw (c.in-One.is, eq-eqb _ _ c.if-n-eq1.true, c.same_value.ensures)

pub returns-else-n-eq1 : goal.returns-else-n-eq1
unfolding same_roots
returns-else-n-eq1 c = rw (c.in-One.is, ne_eqb _ _ c.if-n-eq1.false)

pub returns-else-same_value : goal.returns-else-same_value
unfolding same_roots
returns-else-same_value c = rw (c.in-Two.is, ← c.same_value-in-Two.ensures, c.if-same_value.false)
