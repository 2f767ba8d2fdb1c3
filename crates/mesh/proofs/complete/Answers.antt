-- `mesh::complete` meets its contract. Assumes nothing.
use mathlib.Core.Path.{◌∙◌}
use native.Mathlib.Omega.{arith}
use Rattle.mesh.proofs.Making.{in_range, completed}
use Rattle.mesh.proofs.complete.Goals as goal

pub build-requires : goal.build-requires
build-requires c =
    (in_range _ _ c.requires.0.mesh, (omega (arith, c.requires.0.vertices_fit, c.store_flags.auto.vertex_words, c.zero_u32.auto.s), c.requires.0.round_fits))

pub lengths-requires : goal.lengths-requires
lengths-requires c =
    omega (arith, c.requires.0.edge_reals_fit, c.requires.1)

pub normals-requires : goal.normals-requires
normals-requires c =
    (omega (arith, c.requires.0.mesh.whole, c.requires.0.mesh.few_triangles), (omega (arith, c.requires.0.mesh.whole), c.requires.0.triangle_reals_fit))

pub shape_of-vertex_words : goal.shape_of-vertex_words
shape_of-vertex_words c =
    c.build.auto.vertex_words ∙ c.store_flags.auto.vertex_words ∙ c.zero_u32.auto.s

pub shape_of-edge_reals : goal.shape_of-edge_reals
shape_of-edge_reals c = c.lengths.auto.edge_reals

pub shape_of-round : goal.shape_of-round
shape_of-round c =
    c.build.auto.round

pub shape_of-triangle_reals : goal.shape_of-triangle_reals
shape_of-triangle_reals c = c.normals.auto.triangle_reals

pub returns : goal.returns
returns c =
    completed _ _ _ _ _ _ _ _ _ _ _ _ _ _ _ _ c.zero_u32.ensures c.store_flags.ensures c.build.ensures.0 c.build.ensures.1 c.lengths.ensures c.normals.ensures
