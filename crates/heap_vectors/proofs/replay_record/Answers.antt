use Rattle.heap_vectors.proofs.Outcomes.{record_push, record_pop}
use Rattle.heap.specs.Queue.{queue}
use Rattle.heap_vectors.proofs.replay_record.Goals as goal

pub returns-then-what-lt2 : goal.returns-then-what-lt2
returns-then-what-lt2 c =
    let a = c.args in
    record_push a.s.now a.k a.n (queue a.keys.now a.events.now) c.word-what.ensures c.event-e.ensures c.if-what-lt2.true c.replay_push.ensures

pub returns : goal.returns
returns c =
    let a = c.args in
    record_pop a.s.now a.k a.n (queue a.keys.now a.events.now) c.word-what.ensures c.event-e.ensures c.if-what-lt2.false c.replay_pop.ensures
