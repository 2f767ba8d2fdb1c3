-- `source_inserts::end_source` meets its contract. Assumes nothing.
use mathlib.Core.Path.{sym, ◌∙◌}
use borrow.Author.Tests.{not-true, not-false}
use Rattle.source_inserts.proofs.Steps.{no_point, point_is}
use Rattle.source_inserts.proofs.end_source.Goals as goal

pub returns-then-not-is_first : goal.returns-then-not-is_first
returns-then-not-is_first c =
    let a = c.args in
    no_point a.vertices.now a.edge_words.now a.edge_reals.now a.triangle_words.now a.triangle_reals.now a.kinds.now a.faces.now a.coords.now a.piece_words.now a.pieces a.e a.part
    (sym c.is_first.ensures ∙ not-true _ c.if-not-is_first.true-raw)

pub returns : goal.returns
returns c =
    let a = c.args in
    point_is a.vertices.now a.edge_words.now a.edge_reals.now a.triangle_words.now a.triangle_reals.now a.kinds.now a.faces.now a.coords.now a.piece_words.now a.pieces a.e a.part
    (sym c.is_first.ensures ∙ not-false _ c.if-not-is_first.false-raw) c.face_of-face.result c.end_point-p.result c.carrier-on.result c.face_of-face.ensures c.end_point-p.ensures c.carrier-on.ensures
