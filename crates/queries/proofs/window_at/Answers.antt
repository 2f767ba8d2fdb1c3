use mathlib.Core.Path.{sym, ◌∙◌}
use Rattle.queries.specs.Queries.{window_query}
use Rattle.queries.proofs.Checked.{enough, taken, left}
use Rattle.queries.proofs.window_at.Goals as goal

pub window_answer-requires : goal.window_answer-requires
window_answer-requires c = enough _ _ _ (sym c.is_unsound.ensures ∙ c.if-is_unsound.false)

pub returns-in_default : goal.returns-in_default
unfolding window_query
returns-in_default c = rw c.in_default.is

pub returns-then-is_unsound : goal.returns-then-is_unsound
unfolding window_query
returns-then-is_unsound c = rw c.in-Field.is (taken _ _ _ (sym c.is_unsound.ensures ∙ c.if-is_unsound.true))

pub returns : goal.returns
unfolding window_query
returns c =
    rw c.in-Field.is (left _ _ _ _ (sym c.is_unsound.ensures ∙ c.if-is_unsound.false) c.window_answer.ensures)
