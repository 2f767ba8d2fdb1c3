use Rattle.std.proofs.lemmas.Result.{err_from_is_err_and}
use native.Mathlib.Omega.{arith}
use Rattle.run_operations.proofs.Steps.{touch_missing, touch_full, touch_queued}
use Rattle.run_operations.proofs.touch.Goals as goal

pub returns-then-slots-v : goal.returns-then-slots-v
returns-then-slots-v c = let a = c.args in touch_missing a.v.0 a.d a.limit a.vertex_words.now a.counts.made a.counts.queued a.keys.now a.events.now a.vertex.now (omega (arith, c.if-slots-v.true, c.slots.ensures))

pub returns-in_err-queued : goal.returns-in_err-queued
returns-in_err-queued c =
    let a = c.args in
    let p = err_from_is_err_and c.from_residual.result c.from_residual.ensures.1 in
    rw (p.1, p.2) (touch_full a.v.0 a.d a.limit a.vertex_words.now a.counts.made a.counts.queued a.keys.now a.events.now a.vertex.now
    (omega (arith, c.if-slots-v.false, c.slots.ensures)) c.touch.new.keys c.touch.new.events c.touch.new.vertex
    c.in_err-queued.field-0.0 c.in_err-queued.ensures)

pub returns : goal.returns
returns c =
    let a = c.args in
    touch_queued a.v.0 a.d a.limit a.vertex_words.now a.counts.made a.counts.queued a.keys.now a.events.now a.vertex.now
    (omega (arith, c.if-slots-v.false, c.slots.ensures)) c.touch.new.keys c.touch.new.events c.touch.new.vertex c.in_ok-queued.queued
    c.in_ok-queued.ensures
