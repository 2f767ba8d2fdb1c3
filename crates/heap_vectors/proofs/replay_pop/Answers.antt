use Rattle.heap_vectors.proofs.Outcomes.{pop_empty, pop_first}
use Rattle.heap_vectors.proofs.replay_pop.Goals as goal

pub returns-in-None : goal.returns-in-None
returns-in-None c =
    let a = c.args in
    pop_empty a.found a.e a.n c.pop.ensures c.in-None.is c.one_if.ensures

pub returns-in-Some : goal.returns-in-Some
returns-in-Some c =
    let a = c.args in
    pop_first a.found a.e a.n c.pop.ensures c.in-Some.is c.pop_differs.ensures
