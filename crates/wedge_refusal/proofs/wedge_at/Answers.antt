-- `wedge_refusal::wedge_at` meets its contract. Assumes nothing.
use mathlib.Core.Path.{sym, ◌∙◌}
use borrow.Author.Tests.{not-true, not-false}
use Rattle.wedge_refusal.proofs.Answers.{met_before, few_carriers, many_carriers}
use Rattle.wedge_refusal.proofs.wedge_at.Goals as goal

pub returns-then-not-is_first : goal.returns-then-not-is_first
returns-then-not-is_first c =
    let a = c.args in
    met_before a.vertices.now a.edge_words.now a.edge_reals.now a.triangle_words.now a.triangle_reals.now a.vertex_words.now a.triangles.now a.kinds.now a.faces.now a.coords.now a.words.now a.pieces a.e (sym c.is_first.ensures ∙ not-true _ c.if-not-is_first.true-raw)

pub returns-then-not-over_two : goal.returns-then-not-over_two
returns-then-not-over_two c =
    let a = c.args in
    few_carriers a.vertices.now a.edge_words.now a.edge_reals.now a.triangle_words.now a.triangle_reals.now a.vertex_words.now a.triangles.now a.kinds.now a.faces.now a.coords.now a.words.now a.pieces a.e (sym c.is_first.ensures ∙ not-false _ c.if-not-is_first.false-raw) _ _ _ c.face_of-f.ensures c.end_point-p.ensures c.over_two.ensures (not-true _ c.if-not-over_two.true-raw)

pub returns : goal.returns
returns c =
    let a = c.args in
    many_carriers a.vertices.now a.edge_words.now a.edge_reals.now a.triangle_words.now a.triangle_reals.now a.vertex_words.now a.triangles.now a.kinds.now a.faces.now a.coords.now a.words.now a.pieces a.e (sym c.is_first.ensures ∙ not-false _ c.if-not-is_first.false-raw) _ _ _ c.face_of-f.ensures c.end_point-p.ensures c.over_two.ensures _ _ (not-false _ c.if-not-over_two.false-raw) c.nearest_vertex-k.ensures c.any_round.ensures
