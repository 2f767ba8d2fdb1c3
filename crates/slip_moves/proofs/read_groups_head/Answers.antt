-- `slip_moves::read_groups_head` meets its contract. Assumes nothing.
use Rattle.slip_moves.specs.Moves.{form_head_at}
use Rattle.slip_moves.proofs.Heads.{refused_small}
use lib.ListN.{length, get_or}
use borrow.Author.Tests.{lt-ltb, le-ltb, eq-eqb, ne_eqb}
use native.Mathlib.Omega.{arith}
use Rattle.slip_moves.proofs.read_groups_head.Goals as goal

pub returns-then-s-eq0 : goal.returns-then-s-eq0
unfolding form_head_at
returns-then-s-eq0 c = (rw (le-ltb 0 (length c.args.s.now) (omega (arith, c.if-s-eq0.true))), refused_small _ _)

pub returns-then-s-ne2 : goal.returns-then-s-ne2
unfolding form_head_at
returns-then-s-ne2 c = (rw (lt-ltb 0 (length c.args.s.now) (omega (arith, c.if-s-eq0.false)), ne_eqb (get_or c.args.s.now 0 0) 2 c.if-s-ne2.true), refused_small _ _)

pub returns : goal.returns
unfolding form_head_at
returns c = (rw (lt-ltb 0 (length c.args.s.now) (omega (arith, c.if-s-eq0.false)), eq-eqb (get_or c.args.s.now 0 0) 2 c.if-s-ne2.false) c.read_counts.ensures.0, c.read_counts.ensures.1)
