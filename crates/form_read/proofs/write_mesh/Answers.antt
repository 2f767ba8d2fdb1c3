-- `form_read::write_mesh` meets its contract. Assumes nothing.
use Rattle.form_read.specs.Places.{flags_place, first_piece}
use Rattle.form_read.proofs.Parts.{mesh_there}
use Prim.Native.Nat.{◌+◌}
use mathlib.Core.Path.{ap}
use native.Mathlib.Omega.{arith}
use Rattle.form_read.proofs.write_mesh.Goals as goal

pub read_doubles-requires : goal.read_doubles-requires
read_doubles-requires c =
    let a = c.args in
    (omega (arith, (mesh_there a.s.now a.v a.t a.i c.requires.stands).0), c.requires.vertices_fit)

pub read_bytes-requires : goal.read_bytes-requires
unfolding flags_place
read_bytes-requires c =
    let a = c.args in
    (omega (arith, (mesh_there a.s.now a.v a.t a.i c.requires.stands).1, c.write_numbers-from.ensures.1), c.requires.flags_fit)

pub overflow_add-result : goal.overflow_add-result
unfolding flags_place
overflow_add-result c =
    let a = c.args in
    omega (arith, (mesh_there a.s.now a.v a.t a.i c.requires.stands).1, c.write_numbers-from.ensures.1)

pub shape_of-vertices : goal.shape_of-vertices
shape_of-vertices c =
    c.read_doubles.auto.to

pub shape_of-triangles : goal.shape_of-triangles
shape_of-triangles c = c.write_numbers-from.auto.to

pub shape_of-flags : goal.shape_of-flags
shape_of-flags c = c.read_bytes.auto.to

pub returns : goal.returns
unfolding flags_place first_piece
returns c =
    let place = c.write_numbers-from.ensures.1 in
    (c.read_doubles.ensures, (c.write_numbers-from.ensures.0, (rw place at c.read_bytes.ensures, ap (λ k. k + c.args.v) place)))
