-- `carriers::nearer` meets its contract. Assumes nothing.
use Rattle.carriers.proofs.Steps.{nearer_second, nearer_first}
use Rattle.carriers.proofs.nearer.Goals as goal

pub returns-then-total_less : goal.returns-then-total_less
returns-then-total_less c = let y = c in let x = y in nearer_second _ _ _ _ _ _ _ _ _ _ _ x.vertex.ensures x.sub.ensures x.norm-first.ensures y.vertex-2.ensures y.sub-2.ensures y.norm-second.ensures c.total_less.ensures c.if-total_less.true

pub returns : goal.returns
returns c = let y = c in let x = y in nearer_first _ _ _ _ _ _ _ _ _ _ _ x.vertex.ensures x.sub.ensures x.norm-first.ensures y.vertex-2.ensures y.sub-2.ensures y.norm-second.ensures c.total_less.ensures c.if-total_less.false
