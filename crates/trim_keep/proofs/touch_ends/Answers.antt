-- `trim_keep::touch_ends` meets its contract. Assumes nothing.
use Rattle.std.proofs.lemmas.Result.{err_from_is_err_and}
use Rattle.heap.specs.Queue.{queue}
use Rattle.actions.specs.Actions.{queueing}
use Rattle.trim_keep.proofs.Touching.{touching_full, touching_on}
use Rattle.trim_keep.proofs.touch_ends.Goals as goal

pub returns-in_err-m : goal.returns-in_err-m
returns-in_err-m c = λ cuts windows made k j.
    let a = c.args in
    let t = c.touch_reached in
    let p = err_from_is_err_and c.from_residual.result c.from_residual.ensures.1 in
    rw (p.1, p.2) (touching_full cuts windows a.limit a.vertex_words.now a.e a.x a.b0 a.b1 k j made a.n (queue a.keys.now a.events.now) a.vertex.now
    c.in_err-m.field-0.0 t.new.vertex (queue t.new.keys t.new.events) (c.in_err-m.ensures cuts windows made))

pub returns : goal.returns
returns c = λ cuts windows made k j.
    let a = c.args in
    let t = c.touch_reached in
    let u = c.touch_reached-2 in
    touching_on cuts windows a.limit a.vertex_words.now a.e a.x a.b0 a.b1 k j made a.n (queue a.keys.now a.events.now) a.vertex.now
    c.in_ok-m.m t.new.vertex (queue t.new.keys t.new.events) (c.in_ok-m.ensures cuts windows made)
    (queueing made u.new.vertex (u.result, queue u.new.keys u.new.events)) (u.ensures cuts windows made)
