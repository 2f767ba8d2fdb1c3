-- `wedge_refusal::over_two` meets its contract. Assumes nothing.
use Rattle.wedge_refusal.proofs.Answers.{over_two, at_most_two}
use Rattle.wedge_refusal.proofs.over_two.Goals as goal

pub returns-then-count-gt2 : goal.returns-then-count-gt2
returns-then-count-gt2 c =
    let a = c.args in
    over_two a.vertices.now a.edge_words.now a.edge_reals.now a.triangle_words.now a.triangle_reals.now a.vertex_words.now a.f.0 a.p _ _ c.carrier-c.ensures c.carrier_count-count.ensures c.if-count-gt2.true

pub returns : goal.returns
returns c =
    let a = c.args in
    at_most_two a.vertices.now a.edge_words.now a.edge_reals.now a.triangle_words.now a.triangle_reals.now a.vertex_words.now a.f.0 a.p _ _ c.carrier-c.ensures c.carrier_count-count.ensures c.if-count-gt2.false
