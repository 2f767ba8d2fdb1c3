-- `mesh::topology` meets its contract. Assumes nothing.
use mathlib.Core.Path.{◌∙◌}
use native.Mathlib.Omega.{arith}
use Rattle.edge_table.proofs.Reading.{mesh_most}
use Rattle.mesh.proofs.Making.{few_edges, made_third, made_filled}
use Rattle.mesh.proofs.topology.Goals as goal

pub build-requires : goal.build-requires
build-requires c =
    let fits = c.requires in
    (mesh_most _ _ fits.mesh, record { heads_fit = fits.round_fits; edges_fit = fits.edges_fit; triangles_fit = fits.triangles_fit })

pub complete-requires : goal.complete-requires
complete-requires c =
    let fits = c.requires in
    let build = c.build in (
      record {
        mesh = fits.mesh;
        vertices_fit = fits.vertices_fit;
        edges_fit = omega (arith, fits.edges_fit, build.auto.edge_words);
        edge_reals_fit = fits.edge_reals_fit;
        round_fits = omega (arith, fits.round_fits, build.auto.heads);
        triangles_fit = omega (arith, fits.triangles_fit, build.auto.triangle_words);
        triangle_reals_fit = fits.triangle_reals_fit;
      },
      few_edges _ _ build.ensures.answer _ c.in-Ok.is,
    )

pub shape_of-vertex_words-in-Err : goal.shape_of-vertex_words-in-Err
shape_of-vertex_words-in-Err c =
    c.zero_u32.auto.s

pub shape_of-edge_words-in-Err : goal.shape_of-edge_words-in-Err
shape_of-edge_words-in-Err c =
    c.build.auto.edge_words

pub shape_of-edge_reals-in-Err : goal.shape_of-edge_reals-in-Err
shape_of-edge_reals-in-Err c = c.zero_f64.auto.s

pub shape_of-round-in-Err : goal.shape_of-round-in-Err
shape_of-round-in-Err c =
    c.build.auto.heads

pub shape_of-triangle_words-in-Err : goal.shape_of-triangle_words-in-Err
shape_of-triangle_words-in-Err c =
    c.build.auto.triangle_words

pub shape_of-triangle_reals-in-Err : goal.shape_of-triangle_reals-in-Err
shape_of-triangle_reals-in-Err c = c.zero_f64-in-Err.auto.s

pub returns-in-Err : goal.returns-in-Err
returns-in-Err c =
    made_third _ _ _ _ _ _ _ _ _ _ _ _ _ _ _ _ c.build.ensures _ c.in-Err.is c.zero_u32.ensures c.zero_f64.ensures
    c.zero_f64-in-Err.ensures

pub shape_of-vertex_words-in-Ok : goal.shape_of-vertex_words-in-Ok
shape_of-vertex_words-in-Ok c = c.complete.auto.vertex_words

pub shape_of-edge_words-in-Ok : goal.shape_of-edge_words-in-Ok
shape_of-edge_words-in-Ok c =
    c.build.auto.edge_words

pub shape_of-edge_reals-in-Ok : goal.shape_of-edge_reals-in-Ok
shape_of-edge_reals-in-Ok c = c.complete.auto.edge_reals

pub shape_of-round-in-Ok : goal.shape_of-round-in-Ok
shape_of-round-in-Ok c =
    c.complete.auto.round ∙ c.build.auto.heads

pub shape_of-triangle_words-in-Ok : goal.shape_of-triangle_words-in-Ok
shape_of-triangle_words-in-Ok c =
    c.build.auto.triangle_words

pub shape_of-triangle_reals-in-Ok : goal.shape_of-triangle_reals-in-Ok
shape_of-triangle_reals-in-Ok c = c.complete.auto.triangle_reals

pub returns-in-Ok : goal.returns-in-Ok
returns-in-Ok c =
    let build = c.build in
    made_filled _ _ _ _ _ _ _ _ _ _ _ _ _ _ _ _ _ _ build.ensures c.in-Ok.is build.auto.heads c.complete.ensures
