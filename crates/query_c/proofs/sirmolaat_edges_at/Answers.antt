use Rattle.query_c.proofs.Told.{edges_told_lem}
use Rattle.query_c.proofs.sirmolaat_edges_at.Goals as goal

pub returns : goal.returns
returns c =
    edges_told_lem _ _ _ _ c.row_number.ensures c.told_answer-computed.ensures _ _ c.edges_at-answer.ensures
