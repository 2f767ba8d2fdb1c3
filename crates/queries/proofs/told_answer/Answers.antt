-- `queries::told_answer` meets its contract. Assumes nothing.
use Rattle.queries.proofs.Told.{answer_field, answer_refused}
use Rattle.queries.proofs.told_answer.Goals as goal

pub returns-then-refusal-eq0 : goal.returns-then-refusal-eq0
returns-then-refusal-eq0 c = answer_field _ _ c.if-refusal-eq0.true c.told_field-field.ensures

pub returns : goal.returns
returns c = answer_refused _ _ c.if-refusal-eq0.false
