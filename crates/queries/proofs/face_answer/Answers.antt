use mathlib.Core.Path.{sym, ap, ◌∙◌}
use borrow.Author.Tests.{le-leb, lt-leb}
use Rattle.queries.specs.Queries.{face_answer}
use Rattle.std.specs.declared.result.Result.TheVariants.{Ok}
use Rattle.queries.proofs.Checked.{taken, left}
use Rattle.queries.proofs.face_answer.Goals as goal

pub returns-then-n-f : goal.returns-then-n-f
unfolding face_answer
returns-then-n-f c = taken _ _ _ (le-leb _ _ c.if-n-f.true)

pub returns-then-point_outside : goal.returns-then-point_outside
unfolding face_answer
returns-then-point_outside c = left _ _ _ _ (lt-leb _ _ c.if-n-f.false) (taken _ _ _ (sym c.point_outside.ensures ∙ c.if-point_outside.true))

pub returns : goal.returns
unfolding face_answer
returns c =
    left _ _ _ _ (lt-leb _ _ c.if-n-f.false) (left _ _ _ _ (sym c.point_outside.ensures ∙ c.if-point_outside.false) (ap Ok c.distance_in_face-d.ensures))
