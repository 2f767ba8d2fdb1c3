-- `stl::has_wrong_sizes` meets its contract. Assumes nothing.
use borrow.Author.Tests.{eq-eqb, ne_eqb, lt-ltb, le-ltb}
use Rattle.stl_format.specs.Answers.{wrong_sizes}
use Rattle.stl.proofs.has_wrong_sizes.Goals as goal

pub returns-then-vertices-ne0 : goal.returns-then-vertices-ne0
unfolding wrong_sizes
returns-then-vertices-ne0 c = rw (ne_eqb _ _ c.if-vertices-ne0.true)

pub returns-then-triangles-ne0 : goal.returns-then-triangles-ne0
unfolding wrong_sizes
returns-then-triangles-ne0 c = rw (eq-eqb _ _ c.if-vertices-ne0.false, ne_eqb _ _ c.if-triangles-ne0.true)

pub returns-then-vertices-gt65535 : goal.returns-then-vertices-gt65535
unfolding wrong_sizes
returns-then-vertices-gt65535 c = rw (eq-eqb _ _ c.if-vertices-ne0.false, eq-eqb _ _ c.if-triangles-ne0.false, lt-ltb _ _ c.if-vertices-gt65535.true)

pub returns-then-triangles-gt131070 : goal.returns-then-triangles-gt131070
unfolding wrong_sizes
returns-then-triangles-gt131070 c = rw (eq-eqb _ _ c.if-vertices-ne0.false, eq-eqb _ _ c.if-triangles-ne0.false, le-ltb _ _ c.if-vertices-gt65535.false, lt-ltb _ _ c.if-triangles-gt131070.true)

pub returns : goal.returns
unfolding wrong_sizes
returns c = rw (eq-eqb _ _ c.if-vertices-ne0.false, eq-eqb _ _ c.if-triangles-ne0.false, le-ltb _ _ c.if-vertices-gt65535.false, le-ltb _ _ c.if-triangles-gt131070.false)
