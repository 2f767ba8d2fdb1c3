use mathlib.Core.Path.{sym}
use borrow.Author.Tests.{lt-ltb, le-ltb}
use Rattle.face_rows.proofs.laws_of_field_check.Tests.{holds, passes}
use Rattle.query_rows.specs.Rows.{short_for}
use Rattle.query_rows.proofs.short_for.Goals as goal

pub returns-then-others-questions : goal.returns-then-others-questions
unfolding short_for
returns-then-others-questions c = holds _ _ (lt-ltb _ _ c.if-others-questions.true)

pub returns-then-numbers-questions : goal.returns-then-numbers-questions
unfolding short_for
returns-then-numbers-questions c = passes _ _ _ (le-ltb _ _ c.if-others-questions.false) (holds _ _ (lt-ltb _ _ c.if-numbers-questions.true))

pub returns-then-distances-questions : goal.returns-then-distances-questions
unfolding short_for
returns-then-distances-questions c = passes _ _ _ (le-ltb _ _ c.if-others-questions.false) (passes _ _ _ (le-ltb _ _ c.if-numbers-questions.false) (sym (lt-ltb _ _ c.if-distances-questions.true)))

pub returns : goal.returns
unfolding short_for
returns c = passes _ _ _ (le-ltb _ _ c.if-others-questions.false) (passes _ _ _ (le-ltb _ _ c.if-numbers-questions.false) (sym (le-ltb _ _ c.if-distances-questions.false)))
