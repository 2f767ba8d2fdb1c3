-- `mesh_vectors::build_record` is safe and ends. A slice's front has as many elements as it is cut to. Paths are written out: a search tries all fourteen slices. Assumes nothing.
use native.Mathlib.Omega.{arith}
use mathlib.Core.Path.{sym}
use lib.Seq.{length-take-le}
use Rattle.mesh_vectors.proofs.build_record.Goals as goal

pub overflow_add-k : goal.overflow_add-k
overflow_add-k c = omega (arith, c.requires)

pub double-limit-requires : goal.double-limit-requires
double-limit-requires c = omega (arith, c.requires)

pub other_counts-others-requires : goal.other_counts-others-requires
other_counts-others-requires c = c.requires

pub overflow_add-k-2 : goal.overflow_add-k-2
overflow_add-k-2 c = omega (arith, c.requires)

pub count-nv-requires : goal.count-nv-requires
count-nv-requires c = omega (arith, c.requires)

pub slice_bounds-v-end : goal.slice_bounds-v-end
slice_bounds-v-end c = sym (length-take-le _ _ (omega (arith, c.count-nv.ensures)))

pub overflow_add-k-3 : goal.overflow_add-k-3
overflow_add-k-3 c = omega (arith, c.requires)

pub count-nt-requires : goal.count-nt-requires
count-nt-requires c = omega (arith, c.requires)

pub slice_bounds-t-end : goal.slice_bounds-t-end
slice_bounds-t-end c = sym (length-take-le _ _ (omega (arith, c.count-nt.ensures)))

pub overflow_add-k-4 : goal.overflow_add-k-4
overflow_add-k-4 c = omega (arith, c.requires)

pub count-nf-requires : goal.count-nf-requires
count-nf-requires c = omega (arith, c.requires)

pub slice_bounds-f-end : goal.slice_bounds-f-end
slice_bounds-f-end c = sym (length-take-le _ _ (omega (arith, c.count-nf.ensures)))

pub overflow_add-k-5 : goal.overflow_add-k-5
overflow_add-k-5 c = omega (arith, c.requires)

pub count-nk-requires : goal.count-nk-requires
count-nk-requires c = omega (arith, c.requires)

pub slice_bounds-i-end : goal.slice_bounds-i-end
slice_bounds-i-end c = sym (length-take-le _ _ (omega (arith, c.count-nk.ensures)))

pub overflow_add-k-6 : goal.overflow_add-k-6
overflow_add-k-6 c = omega (arith, c.requires)

pub count-nn-requires : goal.count-nn-requires
count-nn-requires c = omega (arith, c.requires)

pub slice_bounds-n-end : goal.slice_bounds-n-end
slice_bounds-n-end c = sym (length-take-le _ _ (omega (arith, c.count-nn.ensures)))

pub overflow_add-k-7 : goal.overflow_add-k-7
overflow_add-k-7 c = omega (arith, c.requires)

pub count-nc-requires : goal.count-nc-requires
count-nc-requires c = omega (arith, c.requires)

pub slice_bounds-c-end : goal.slice_bounds-c-end
slice_bounds-c-end c = sym (length-take-le _ _ (omega (arith, c.count-nc.ensures)))

pub build-requires : goal.build-requires
build-requires c = tt

pub shape_of-vertex_words : goal.shape_of-vertex_words
shape_of-vertex_words c = c.build.auto.vertex_words

pub shape_of-edge_words : goal.shape_of-edge_words
shape_of-edge_words c = c.build.auto.edge_words

pub shape_of-edge_reals : goal.shape_of-edge_reals
shape_of-edge_reals c = c.build.auto.edge_reals

pub shape_of-round : goal.shape_of-round
shape_of-round c = c.build.auto.round

pub shape_of-triangle_words : goal.shape_of-triangle_words
shape_of-triangle_words c = c.build.auto.triangle_words

pub shape_of-triangle_reals : goal.shape_of-triangle_reals
shape_of-triangle_reals c = c.build.auto.triangle_reals
