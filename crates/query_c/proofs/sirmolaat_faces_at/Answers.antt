use Rattle.query_c.proofs.Told.{faces_told}
use Rattle.query_c.proofs.sirmolaat_faces_at.Goals as goal

pub returns : goal.returns
returns c =
    faces_told _ _ _ _ c.row_number.ensures c.told_answer-computed.ensures _ _ c.faces_at-answer.ensures
