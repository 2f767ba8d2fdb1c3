use Rattle.query_c.proofs.Told.{windows_told_lem}
use Rattle.query_c.proofs.sirmolaat_windows_at.Goals as goal

pub returns : goal.returns
returns c =
    windows_told_lem _ _ _ _ _ _ c.row_number.ensures c.told_answer-computed.ensures _ _ c.windows_at-answer.ensures
