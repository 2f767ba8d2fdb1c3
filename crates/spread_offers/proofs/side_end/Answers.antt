-- `spread_offers::side_end` meets its contract. Assumes nothing.
use Rattle.spread_offers.proofs.Steps.{end_first, end_second}
use Rattle.spread_offers.proofs.side_end.Goals as goal

pub returns-in-First : goal.returns-in-First
returns-in-First c =
    let a = c.args in
    rw c.in-First.is (end_first a.edge_words.now a.e.0 c.ends-both.result c.ends-both.ensures)

pub returns-in-Second : goal.returns-in-Second
returns-in-Second c =
    let a = c.args in
    rw c.in-Second.is (end_second a.edge_words.now a.e.0 c.ends-both.result c.ends-both.ensures)
