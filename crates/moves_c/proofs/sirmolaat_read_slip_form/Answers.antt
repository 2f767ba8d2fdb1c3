-- `moves_c::sirmolaat_read_slip_form` meets its contract. Assumes nothing.
use Rattle.moves_c.specs.Exports.{exported_read}
use borrow.Author.Tests.{eq-eqb, ne_eqb}
use Rattle.moves_c.proofs.sirmolaat_read_slip_form.Goals as goal

pub shape_of-vertices-then-form-eq1 : goal.shape_of-vertices-then-form-eq1
shape_of-vertices-then-form-eq1 c =
    c.read_told.auto.vertices

pub shape_of-triangles-then-form-eq1 : goal.shape_of-triangles-then-form-eq1
shape_of-triangles-then-form-eq1 c =
    c.read_told.auto.triangles

pub shape_of-flags-then-form-eq1 : goal.shape_of-flags-then-form-eq1
shape_of-flags-then-form-eq1 c =
    c.read_told.auto.flags

pub shape_of-kinds-then-form-eq1 : goal.shape_of-kinds-then-form-eq1
shape_of-kinds-then-form-eq1 c =
    c.read_told.auto.kinds

pub shape_of-faces-then-form-eq1 : goal.shape_of-faces-then-form-eq1
shape_of-faces-then-form-eq1 c =
    c.read_told.auto.faces

pub shape_of-coords-then-form-eq1 : goal.shape_of-coords-then-form-eq1
shape_of-coords-then-form-eq1 c =
    c.read_told.auto.coords

pub shape_of-told-then-form-eq1 : goal.shape_of-told-then-form-eq1
shape_of-told-then-form-eq1 c =
    c.read_told.auto.told

pub shape_of-limit-then-form-eq1 : goal.shape_of-limit-then-form-eq1
shape_of-limit-then-form-eq1 c =
    c.read_told.auto.limit

pub returns-then-form-eq1 : goal.returns-then-form-eq1
unfolding exported_read
returns-then-form-eq1 c = rw (eq-eqb _ _ c.if-form-eq1.true) c.read_told.ensures

pub shape_of-vertices-then-form-eq2 : goal.shape_of-vertices-then-form-eq2
shape_of-vertices-then-form-eq2 c =
    c.read_told-then-form-eq2.auto.vertices

pub shape_of-triangles-then-form-eq2 : goal.shape_of-triangles-then-form-eq2
shape_of-triangles-then-form-eq2 c =
    c.read_told-then-form-eq2.auto.triangles

pub shape_of-flags-then-form-eq2 : goal.shape_of-flags-then-form-eq2
shape_of-flags-then-form-eq2 c =
    c.read_told-then-form-eq2.auto.flags

pub shape_of-kinds-then-form-eq2 : goal.shape_of-kinds-then-form-eq2
shape_of-kinds-then-form-eq2 c =
    c.read_told-then-form-eq2.auto.kinds

pub shape_of-faces-then-form-eq2 : goal.shape_of-faces-then-form-eq2
shape_of-faces-then-form-eq2 c =
    c.read_told-then-form-eq2.auto.faces

pub shape_of-coords-then-form-eq2 : goal.shape_of-coords-then-form-eq2
shape_of-coords-then-form-eq2 c =
    c.read_told-then-form-eq2.auto.coords

pub shape_of-told-then-form-eq2 : goal.shape_of-told-then-form-eq2
shape_of-told-then-form-eq2 c =
    c.read_told-then-form-eq2.auto.told

pub shape_of-limit-then-form-eq2 : goal.shape_of-limit-then-form-eq2
shape_of-limit-then-form-eq2 c =
    c.read_told-then-form-eq2.auto.limit

pub returns-then-form-eq2 : goal.returns-then-form-eq2
unfolding exported_read
returns-then-form-eq2 c =
    rw (ne_eqb _ _ c.if-form-eq1.false, eq-eqb _ _ c.if-form-eq2.true) c.read_told-then-form-eq2.ensures

pub returns : goal.returns
unfolding exported_read
returns c = rw (ne_eqb _ _ c.if-form-eq1.false, ne_eqb _ _ c.if-form-eq2.false)
