use mathlib.Core.Path.{sym, ◌∙◌}
use Rattle.queries.specs.Queries.{vertex_query}
use Rattle.queries.proofs.Checked.{taken, left}
use Rattle.queries.proofs.vertex_at.Goals as goal

pub returns-in_default : goal.returns-in_default
unfolding vertex_query
returns-in_default c = rw c.in_default.is

pub returns-then-is_unsound : goal.returns-then-is_unsound
unfolding vertex_query
returns-then-is_unsound c = rw c.in-Field.is (taken _ _ _ (sym c.is_unsound.ensures ∙ c.if-is_unsound.true))

pub returns : goal.returns
unfolding vertex_query
returns c =
    rw c.in-Field.is (left _ _ _ _ (sym c.is_unsound.ensures ∙ c.if-is_unsound.false) c.vertex_answer.ensures)
