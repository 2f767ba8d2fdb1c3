use mathlib.Core.Path.{refl}
use borrow.Author.Tests.{eq-eqb, ne_eqb}
use Rattle.edge_query.specs.Resume.{cursor_for}
use Rattle.edge_query.proofs.cursor_for.Goals as goal

pub returns-then-cursor-x : goal.returns-then-cursor-x
unfolding cursor_for
returns-then-cursor-x c = rw (eq-eqb _ _ c.if-cursor-e.true, c.if-cursor-x.true) refl

pub returns-then-cursor-e : goal.returns-then-cursor-e
unfolding cursor_for
returns-then-cursor-e c = rw (eq-eqb _ _ c.if-cursor-e.true, c.if-cursor-x.false) c.head_cursor.ensures

pub returns : goal.returns
unfolding cursor_for
returns c = rw (ne_eqb _ _ c.if-cursor-e.false) c.head_cursor-2.ensures
