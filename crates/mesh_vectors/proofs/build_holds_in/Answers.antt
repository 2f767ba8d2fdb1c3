-- `mesh_vectors::build_holds_in` is safe and ends. A slice's front has as many elements as it is cut to. Paths are written out: a search tries all fourteen slices. Assumes nothing.
use native.Mathlib.Omega.{arith}
use Rattle.mesh_vectors.proofs.build_holds_in.Goals as goal

pub overflow_add-k : goal.overflow_add-k
overflow_add-k c = omega (arith, c.requires)

pub count-edges-requires : goal.count-edges-requires
count-edges-requires c = omega (arith, c.requires)

pub overflow_add-k-2 : goal.overflow_add-k-2
overflow_add-k-2 c = omega (arith, c.requires)

pub count-triangles_there-requires : goal.count-triangles_there-requires
count-triangles_there-requires c = omega (arith, c.requires)

pub overflow_add-k-3 : goal.overflow_add-k-3
overflow_add-k-3 c = omega (arith, c.requires)

pub count-requires : goal.count-requires
count-requires c = omega (arith, c.requires)

pub overflow_mul-count : goal.overflow_mul-count
overflow_mul-count c = omega (arith, c.count.ensures)

pub at_most-nv-requires : goal.at_most-nv-requires
at_most-nv-requires c = tt

pub overflow_mul-edges : goal.overflow_mul-edges
overflow_mul-edges c = omega (arith, c.count-edges.ensures)

pub at_most-ne-requires : goal.at_most-ne-requires
at_most-ne-requires c = tt

pub overflow_mul-edges-2 : goal.overflow_mul-edges-2
overflow_mul-edges-2 c = omega (arith, c.count-edges.ensures)

pub at_most-nr-requires : goal.at_most-nr-requires
at_most-nr-requires c = tt

pub overflow_add-k-4 : goal.overflow_add-k-4
overflow_add-k-4 c = omega (arith, c.requires)

pub count-nf-requires : goal.count-nf-requires
count-nf-requires c = omega (arith, c.requires)

pub overflow_mul-triangles_there : goal.overflow_mul-triangles_there
overflow_mul-triangles_there c = omega (arith, c.count-triangles_there.ensures)

pub at_most-nt-requires : goal.at_most-nt-requires
at_most-nt-requires c = tt

pub overflow_mul-triangles_there-2 : goal.overflow_mul-triangles_there-2
overflow_mul-triangles_there-2 c = omega (arith, c.count-triangles_there.ensures)

pub at_most-nn-requires : goal.at_most-nn-requires
at_most-nn-requires c = tt

pub build_holds-requires : goal.build_holds-requires
build_holds-requires c = omega (arith, c.requires)
