-- `spread_offers::round_offer` meets its contract. Assumes nothing.
use Prim.Native.Nat.{◌/◌}
use native.Mathlib.Omega.{arith}
use Rattle.spread_offers.proofs.Steps.{round_none, round_is, round_fits}
use Rattle.spread_offers.proofs.round_offer.Goals as goal

pub returns-then-vertex_degree-fi : goal.returns-then-vertex_degree-fi
returns-then-vertex_degree-fi c =
    let a = c.args in
    round_none a.vertices.now a.edge_words.now a.edge_reals.now a.triangle_words.now a.triangle_reals.now a.vertex_words.now a.round.now a.vx.0 a.d a.i c.vertex_degree.result c.vertex_degree.ensures c.if-vertex_degree-fi.true

pub overflow_add-range : goal.overflow_add-range
overflow_add-range c =
    let a = c.args in
    record { fits = omega (arith, round_fits a.vertex_words.now a.vx.0 (a.i / 3) c.vertex_degree.result c.faces_round-range.result c.vertex_degree.ensures c.faces_round-range.ensures (omega (arith, c.if-vertex_degree-fi.false)), c.struct_known-1.given) }

pub returns : goal.returns
returns c =
    let a = c.args in
    round_is a.vertices.now a.edge_words.now a.edge_reals.now a.triangle_words.now a.triangle_reals.now a.vertex_words.now a.round.now a.vx.0 a.d a.i c.vertex_degree.result c.vertex_degree.ensures (omega (arith, c.if-vertex_degree-fi.false))
    c.faces_round-range.result c.faces_round-range.ensures c.face_round-g.result c.face_round-g.ensures c.emit_offer.result c.emit_offer.ensures
