-- `stl::read_mesh` meets its contract. Assumes nothing.
use Prim.Native.Nat.{◌/◌}
use native.Mathlib.Omega.{arith}
use lib.ListN.{length}
use Rattle.std.specs.Prelude.{Err}
use Rattle.stl_format.specs.declared.StlRefusal.TheVariants.{TooMany, ShortBuffer}
use Rattle.stl_format.specs.Answers.{after_reading, mesh_lists}
use Rattle.stl.proofs.Same.{Bytes}
use Rattle.stl.proofs.Meshes.{answered, over_many, no_vertices, no_triangles, firsts_fit, there, findable, read_done}
use Rattle.stl.proofs.read_mesh.Goals as goal

pub returns-then-count-gt65535 : goal.returns-then-count-gt65535
unfolding after_reading
returns-then-count-gt65535 c =
    let a = c.args in
    -- the elements of the file are bytes
    let bytes : Bytes a.s.now = λ i. omega (arith, c.type_inv.s i) in
    let f = c.requires in
    answered a.s.now (mesh_lists a.vertices.now a.triangles.now) (Err TooMany) (over_many a.s.now bytes a.n f c.build-count.result _ _ _ c.build-count.ensures (length a.vertices.now / 3) (length a.triangles.now / 3) c.if-count-gt65535.true)

pub returns-then-vertices-count : goal.returns-then-vertices-count
unfolding after_reading
returns-then-vertices-count c =
    let a = c.args in
    -- the elements of the file are bytes
    let bytes : Bytes a.s.now = λ i. omega (arith, c.type_inv.s i) in
    let f = c.requires in
    answered a.s.now (mesh_lists a.vertices.now a.triangles.now) (Err ShortBuffer) (no_vertices a.s.now bytes a.n f c.build-count.result _ _ _ c.build-count.ensures c.if-count-gt65535.false (length a.vertices.now / 3) (length a.triangles.now / 3) c.if-vertices-count.true)

pub returns-then-triangles-n : goal.returns-then-triangles-n
unfolding after_reading
returns-then-triangles-n c =
    let a = c.args in
    -- the elements of the file are bytes
    let bytes : Bytes a.s.now = λ i. omega (arith, c.type_inv.s i) in
    let f = c.requires in
    answered a.s.now (mesh_lists a.vertices.now a.triangles.now) (Err ShortBuffer) (no_triangles a.s.now bytes a.n f c.build-count.result _ _ _ c.build-count.ensures c.if-count-gt65535.false (length a.vertices.now / 3) (length a.triangles.now / 3) c.if-vertices-count.false c.if-triangles-n.true)

pub write_vertices-requires : goal.write_vertices-requires
write_vertices-requires c =
    let a = c.args in
    -- the elements of the file are bytes
    let bytes : Bytes a.s.now = λ i. omega (arith, c.type_inv.s i) in
    let f = c.requires in
    let l = c.if-count-gt65535.false in
    (firsts_fit a.s.now bytes a.n f c.build-count.result _ _ _ c.build-count.ensures l, (omega (arith, c.if-vertices-count.false), there a.s.now bytes a.n f c.build-count.result _ _ _ c.build-count.ensures l))

pub overflow_mul-n-2 : goal.overflow_mul-n-2
overflow_mul-n-2 c = omega (arith, c.requires.few)

pub write_triangles-requires : goal.write_triangles-requires
write_triangles-requires c =
    let a = c.args in
    -- the elements of the file are bytes
    let bytes : Bytes a.s.now = λ i. omega (arith, c.type_inv.s i) in
    let f = c.requires in
    (omega (arith, c.if-triangles-n.false), findable a.s.now bytes a.n f c.build-count.result _ _ _ c.build-count.ensures c.if-count-gt65535.false)

pub returns : goal.returns
returns c =
    let a = c.args in
    -- the elements of the file are bytes
    let bytes : Bytes a.s.now = λ i. omega (arith, c.type_inv.s i) in
    read_done a.s.now bytes a.n c.requires c.build-count.result _ _ _ c.build-count.ensures c.if-count-gt65535.false
    (mesh_lists a.vertices.now a.triangles.now) _ _ c.if-vertices-count.false c.if-triangles-n.false c.write_vertices.ensures c.write_triangles.ensures
