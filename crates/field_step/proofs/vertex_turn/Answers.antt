use native.Mathlib.Omega.{arith}
use Rattle.field_step.proofs.Leaves.{vertex_far, vertex_emits, vertex_rests}
use Rattle.field_step.proofs.vertex_turn.Goals as goal

pub returns-then-n-k : goal.returns-then-n-k
returns-then-n-k c = let a = c.args in vertex_far a.n a.vertex.now a.k a.key c.if-n-k.true

pub returns-then-emits : goal.returns-then-emits
returns-then-emits c =
    let a = c.args in
    vertex_emits a.n a.vertex.now a.k a.key (omega (arith, c.if-n-k.false)) c.distance-d.result c.distance-d.ensures c.emitted-emitted.result c.emitted-emitted.ensures c.emits.result c.emits.ensures c.if-emits.true

pub returns : goal.returns
returns c =
    let a = c.args in
    vertex_rests a.n a.vertex.now a.k a.key (omega (arith, c.if-n-k.false)) c.distance-d.result c.distance-d.ensures c.emitted-emitted.result c.emitted-emitted.ensures c.emits.result c.emits.ensures c.if-emits.false
