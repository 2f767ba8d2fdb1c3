-- `spread_offers::side_number` meets its contract. Assumes nothing.
use borrow.Author.Tests.{eq-eqb, ne_eqb}
use Rattle.spread_offers.specs.Offering.{side_number}
use Rattle.spread_offers.proofs.side_number.Goals as goal

pub returns-then-k-eq0 : goal.returns-then-k-eq0
unfolding side_number
returns-then-k-eq0 c = rw (eq-eqb c.args.k 0 c.if-k-eq0.true)

pub returns : goal.returns
unfolding side_number
returns c = rw (ne_eqb c.args.k 0 c.if-k-eq0.false)
