use mathlib.Core.Path.{ap, ◌∙◌}
use Rattle.face_query.specs.FaceDistance.{through_side, through_sides}
use Rattle.face_query.proofs.Lows.{low_of_side}
use Rattle.face_query.proofs.through_sides.Goals as goal

pub through_side-a-requires : goal.through_side-a-requires
through_side-a-requires c =
    let a = c.args in
    (c.requires, low_of_side a.edge_words.now a.triangle_words.now a.words.now a.reals.now a.made a.f.0 0 c.side-e0.result c.side-e0.ensures c.side_lows-lows.result.first c.side_lows-lows.ensures.0)

pub through_side-b-requires : goal.through_side-b-requires
through_side-b-requires c =
    let a = c.args in
    (c.requires, low_of_side a.edge_words.now a.triangle_words.now a.words.now a.reals.now a.made a.f.0 1 c.side-e1.result c.side-e1.ensures c.side_lows-lows.result.second c.side_lows-lows.ensures.1.0)

pub through_side-requires : goal.through_side-requires
through_side-requires c =
    let a = c.args in
    (c.requires, low_of_side a.edge_words.now a.triangle_words.now a.words.now a.reals.now a.made a.f.0 2 c.side-e2.result c.side-e2.ensures c.side_lows-lows.result.third c.side_lows-lows.ensures.1.1)

pub returns : goal.returns
unfolding through_sides
returns c =
    let a = c.args in
    let through = through_side a.vertices.now a.edge_words.now a.edge_reals.now a.triangle_words.now a.triangle_reals.now a.words.now a.reals.now a.made a.f.0 a.p in
    c.through_side.ensures ∙ ap (through 2) (c.through_side-b.ensures ∙ ap (through 1) c.through_side-a.ensures)
