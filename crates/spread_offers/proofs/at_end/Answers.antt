-- `spread_offers::at_end` meets its contract. Assumes nothing.
use Rattle.spread_offers.proofs.Steps.{at_first, at_second, at_neither}
use Rattle.spread_offers.proofs.at_end.Goals as goal

pub returns-then-both-k : goal.returns-then-both-k
returns-then-both-k c =
    let a = c.args in
    at_first a.edge_words.now a.e.0 c.ends-both.result c.ends-both.ensures a.k.0 c.if-both-k.true

pub returns-then-both-k-2 : goal.returns-then-both-k-2
returns-then-both-k-2 c =
    let a = c.args in
    at_second a.edge_words.now a.e.0 c.ends-both.result c.ends-both.ensures a.k.0 c.if-both-k.false c.if-both-k-2.true

pub returns : goal.returns
returns c =
    let a = c.args in
    at_neither a.edge_words.now a.e.0 c.ends-both.result c.ends-both.ensures a.k.0 c.if-both-k.false c.if-both-k-2.false
