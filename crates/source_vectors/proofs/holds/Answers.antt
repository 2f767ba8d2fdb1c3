-- `source_vectors::holds` meets its contract. Assumes nothing.
use Rattle.source_vectors.proofs.holds.Goals as goal

pub roots_hold-requires : goal.roots_hold-requires
roots_hold-requires c = rw c.in-Roots.is at c.requires

pub ties_hold-requires : goal.ties_hold-requires
ties_hold-requires c = rw c.in-Ties.is at c.requires

pub edge_hold-requires : goal.edge_hold-requires
edge_hold-requires c = rw c.in-Edge.is at c.requires

pub free_hold-requires : goal.free_hold-requires
free_hold-requires c = rw c.in-Free.is at c.requires

pub foot_hold-requires : goal.foot_hold-requires
foot_hold-requires c = rw c.in-Foot.is at c.requires

pub lowest_hold-requires : goal.lowest_hold-requires
lowest_hold-requires c = rw c.in-Lowest.is at c.requires

pub eval_hold-requires : goal.eval_hold-requires
eval_hold-requires c = rw c.in-Eval.is at c.requires

pub returns-in-Roots : goal.returns-in-Roots
returns-in-Roots c = rw c.in-Roots.is c.roots_hold.ensures

pub returns-in-Ties : goal.returns-in-Ties
returns-in-Ties c = rw c.in-Ties.is c.ties_hold.ensures

pub returns-in-Edge : goal.returns-in-Edge
returns-in-Edge c = rw c.in-Edge.is c.edge_hold.ensures

pub returns-in-Free : goal.returns-in-Free
returns-in-Free c = rw c.in-Free.is c.free_hold.ensures

pub returns-in-Foot : goal.returns-in-Foot
returns-in-Foot c = rw c.in-Foot.is c.foot_hold.ensures

pub returns-in-Lowest : goal.returns-in-Lowest
returns-in-Lowest c = rw c.in-Lowest.is c.lowest_hold.ensures

pub returns-in-Eval : goal.returns-in-Eval
returns-in-Eval c = rw c.in-Eval.is c.eval_hold.ensures
