use Rattle.heap_vectors.proofs.Outcomes.{push_full, push_queued}
use Rattle.heap_vectors.proofs.replay_push.Goals as goal

pub returns-in-Err : goal.returns-in-Err
returns-in-Err c =
    let a = c.args in
    push_full a.found a.n c.push.ensures.events_value c.in-Err.is c.one_if.ensures

pub returns-in-Ok : goal.returns-in-Ok
returns-in-Ok c =
    let a = c.args in
    push_queued a.found a.n c.push.ensures.events_value c.in-Ok.is c.one_if-in-Ok.ensures
