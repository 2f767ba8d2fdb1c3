use mathlib.Core.Path.{sym}
use Rattle.field_check.proofs.Tests.{face_inside, face_none, face_outside_lem}
use Rattle.field_check.proofs.face_outside.Goals as goal

pub returns-then-g-triangles : goal.returns-then-g-triangles
returns-then-g-triangles c = sym (face_inside _ _ c.if-g-triangles.true)

pub returns-then-g-eq4294967295 : goal.returns-then-g-eq4294967295
returns-then-g-eq4294967295 c = sym (face_none _ _ c.if-g-triangles.false c.if-g-eq4294967295.true)

pub returns : goal.returns
returns c = sym (face_outside_lem _ _ c.if-g-triangles.false c.if-g-eq4294967295.false)
