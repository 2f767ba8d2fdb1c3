use Rattle.query_c.proofs.Told.{vertices_told}
use Rattle.query_c.proofs.sirmolaat_vertices_at.Goals as goal

pub returns : goal.returns
returns c =
    vertices_told _ _ _ _ c.row_number.ensures c.told_answer-computed.ensures _ c.vertices_at-answer.ensures
