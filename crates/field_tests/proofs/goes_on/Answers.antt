use mathlib.Core.Logic.{◌≢◌}
use mathlib.Core.Path.{sym, ap, ◌∙◌}
use borrow.Author.Tests.{eq-eqb, ne_eqb}
use Rattle.buffers.specs.declared.FaceId.{FaceId}
use Rattle.topology.specs.Edges.{no_face}
use Rattle.field_tests.specs.Tests.{goes_on_of}
use Rattle.field_tests.proofs.goes_on.Goals.{Else-into-none}
use Rattle.field_tests.proofs.goes_on.Goals as goal

-- there is a face ahead
ahead : (c : Else-into-none) → c.args.into.0 ≢ no_face
ahead c h = c.if-into-none.false (h ∙ sym (ap (λ (f : FaceId). f.0) c.no_face-none.ensures))

pub returns-then-into-none : goal.returns-then-into-none
unfolding goes_on_of
returns-then-into-none c = rw (eq-eqb _ _ (c.if-into-none.true ∙ ap (λ (f : FaceId). f.0) c.no_face-none.ensures))

pub returns-then-reaches : goal.returns-then-reaches
unfolding goes_on_of
returns-then-reaches c = rw (ne_eqb _ _ (ahead (goal.at.returns-then-reaches c).Else-into-none), ← c.reaches.ensures, c.if-reaches.true)

pub returns : goal.returns
unfolding goes_on_of
returns c = rw (ne_eqb _ _ (ahead (goal.at.returns c).Else-into-none), ← c.reaches.ensures, c.if-reaches.false)
