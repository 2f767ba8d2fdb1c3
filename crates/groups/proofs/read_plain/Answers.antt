-- `groups::read_plain` meets its contract. Assumes nothing.
use Rattle.groups.proofs.Small.{short_found, plain_found}
use native.Mathlib.Omega.{arith}
use Rattle.groups.proofs.read_plain.Goals as goal

pub returns-then-s-i : goal.returns-then-s-i
returns-then-s-i c = short_found c.args.s.now c.args.i c.if-s-i.true

pub returns : goal.returns
returns c = plain_found c.args.s.now c.args.i c.number_at.result c.if-s-i.false c.number_at.ensures (omega arith)
