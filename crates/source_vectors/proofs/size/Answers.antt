-- `source_vectors::size` meets its contract. Assumes nothing.
use Rattle.source_vectors.proofs.size.Goals as goal

pub returns-in-Roots : goal.returns-in-Roots
returns-in-Roots c = rw c.in-Roots.is

pub returns-in-Ties : goal.returns-in-Ties
returns-in-Ties c = rw c.in-Ties.is

pub returns-in-Edge : goal.returns-in-Edge
returns-in-Edge c = rw c.in-Edge.is

pub returns-in-Free : goal.returns-in-Free
returns-in-Free c = rw c.in-Free.is

pub returns-in-Foot : goal.returns-in-Foot
returns-in-Foot c = rw c.in-Foot.is

pub returns-in-Lowest : goal.returns-in-Lowest
returns-in-Lowest c = rw c.in-Lowest.is

pub returns-in-Eval : goal.returns-in-Eval
returns-in-Eval c = rw c.in-Eval.is
