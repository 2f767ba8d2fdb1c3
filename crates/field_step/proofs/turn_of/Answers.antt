use lib.ListN.{length}
use Rattle.windows.specs.Windows.{capacity_of}
use Rattle.field_step.proofs.Leaves.{slot_window, turn_pending, turn_past, turn_vertex}
use Rattle.field_step.proofs.turn_of.Goals as goal

pub window_turn-requires : goal.window_turn-requires
window_turn-requires c =
    let a = c.args in
    slot_window a.limit a.n a.words.now a.reals.now a.vertex.now a.x.item a.x.key a.pending c.in-Window.id c.in-Window.is (capacity_of (length a.words.now) (length a.reals.now)) c.requires c.if-pending.true

pub returns-then-pending : goal.returns-then-pending
returns-then-pending c =
    let a = c.args in
    turn_pending a.limit a.n a.words.now a.reals.now a.vertex.now a.x.item a.x.key a.pending c.in-Window.id c.in-Window.is c.if-pending.true c.window_turn.result c.window_turn.ensures

pub returns-else-pending : goal.returns-else-pending
returns-else-pending c =
    let a = c.args in
    turn_past a.limit a.n a.words.now a.reals.now a.vertex.now a.x.item a.x.key a.pending c.in-Window.id c.in-Window.is c.if-pending.false

pub returns-in-Vertex : goal.returns-in-Vertex
returns-in-Vertex c =
    let a = c.args in
    turn_vertex a.limit a.n a.words.now a.reals.now a.vertex.now a.x.item a.x.key a.pending c.in-Vertex.k c.in-Vertex.is c.vertex_turn.result c.vertex_turn.ensures
