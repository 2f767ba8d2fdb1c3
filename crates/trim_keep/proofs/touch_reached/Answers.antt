-- `trim_keep::touch_reached` meets its contract. Assumes nothing.
use mathlib.Core.Path.{sym, ap, ◌∙◌}
use Rattle.float64.specs.Scalar.{zero64, min_of}
use Rattle.source.specs.Distance.{eval_of}
use Rattle.heap.specs.Queue.{queue}
use Rattle.actions.specs.Actions.{stock}
use Rattle.trim_keep.proofs.Touching.{nearer_touches, touched_yes, touched_no}
use Rattle.trim_keep.proofs.touch_reached.Goals as goal

pub returns-then-reached : goal.returns-then-reached
returns-then-reached c = λ cuts windows made.
    let a = c.args in
    let t = c.touch in
    touched_yes cuts windows a.limit a.vertex_words.now a.reached c.if-reached.true a.v.0 (eval_of a.win a.x zero64)
    (stock made a.n (queue a.keys.now a.events.now) a.vertex.now) made t.new.vertex (t.result, queue t.new.keys t.new.events)
    (sym (nearer_touches cuts windows a.limit a.vertex_words.now a.v.0 (stock made a.n (queue a.keys.now a.events.now) a.vertex.now) (eval_of a.win a.x zero64))
    ∙ (rw (c.nearer-d.ensures ∙ ap (λ z. min_of z (eval_of a.win a.x zero64)) c.distance-known.ensures) at (t.ensures cuts windows made)))

pub returns : goal.returns
returns c = λ cuts windows made.
    let a = c.args in
    touched_no cuts windows a.limit a.vertex_words.now a.reached c.if-reached.false a.v.0 (eval_of a.win a.x zero64) made a.n (queue a.keys.now a.events.now) a.vertex.now
