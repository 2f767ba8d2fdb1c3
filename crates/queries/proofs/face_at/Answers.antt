use mathlib.Core.Path.{sym, ◌∙◌}
use Rattle.queries.specs.Queries.{face_query}
use Rattle.queries.proofs.Checked.{enough, taken, left}
use Rattle.queries.proofs.face_at.Goals as goal

pub face_answer-requires : goal.face_answer-requires
face_answer-requires c = enough _ _ _ (sym c.is_unsound.ensures ∙ c.if-is_unsound.false)

pub returns-in_default : goal.returns-in_default
unfolding face_query
returns-in_default c = rw c.in_default.is

pub returns-then-is_unsound : goal.returns-then-is_unsound
unfolding face_query
returns-then-is_unsound c = rw c.in-Field.is (taken _ _ _ (sym c.is_unsound.ensures ∙ c.if-is_unsound.true))

pub returns : goal.returns
unfolding face_query
returns c =
    rw c.in-Field.is (left _ _ _ _ (sym c.is_unsound.ensures ∙ c.if-is_unsound.false) c.face_answer.ensures)
