use Rattle.heap.specs.Queue.{queue}
use Rattle.actions.proofs.Queueing.{touch_longer, touch_unflagged, touch_beyond, touch_queued}
use Rattle.actions.proofs.touch.Goals as goal

pub returns-then-d-limit : goal.returns-then-d-limit
returns-then-d-limit c = λ cuts windows made.
    let vertex-event = c.vertex_event in
    let flagged = c.flagged in
    let distance = c.distance in
    let a = c.args in
    touch_queued cuts windows a.limit a.vertex_words.now made a.n (queue a.keys.now a.events.now) a.vertex.now a.v.0 a.d distance.result distance.ensures
    c.if-d-distance.true _ c.write_f64.ensures flagged.result flagged.ensures c.if-flagged.true c.if-d-limit.true vertex-event.result vertex-event.ensures _
    c.push.ensures.events_value

pub returns-else-d-limit : goal.returns-else-d-limit
returns-else-d-limit c = λ cuts windows made.
    let flagged = c.flagged in
    let distance = c.distance in
    let a = c.args in
    touch_beyond cuts windows a.limit a.vertex_words.now made a.n (queue a.keys.now a.events.now) a.vertex.now a.v.0 a.d distance.result distance.ensures
    c.if-d-distance.true _ c.write_f64.ensures flagged.result flagged.ensures c.if-flagged.true c.if-d-limit.false

pub returns-else-flagged : goal.returns-else-flagged
returns-else-flagged c = λ cuts windows made.
    let flagged = c.flagged in
    let distance = c.distance in
    let a = c.args in
    touch_unflagged cuts windows a.limit a.vertex_words.now made a.n (queue a.keys.now a.events.now) a.vertex.now a.v.0 a.d distance.result
    distance.ensures c.if-d-distance.true _ c.write_f64.ensures flagged.result flagged.ensures c.if-flagged.false

pub returns-else-d-distance : goal.returns-else-d-distance
returns-else-d-distance c = λ cuts windows made.
    let a = c.args in
    touch_longer cuts windows a.limit a.vertex_words.now made a.n (queue a.keys.now a.events.now) a.vertex.now a.v.0 a.d c.distance.result c.distance.ensures c.if-d-distance.false
