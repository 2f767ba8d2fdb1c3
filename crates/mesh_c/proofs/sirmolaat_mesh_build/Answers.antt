-- `mesh_c::sirmolaat_mesh_build` meets its contract. Assumes nothing.
use Rattle.mesh_c.proofs.Answers.{packed_edges, packed_refused}
use Rattle.mesh_c.proofs.sirmolaat_mesh_build.Goals as goal

pub shape_of-vertex_words-in-Ok : goal.shape_of-vertex_words-in-Ok
shape_of-vertex_words-in-Ok c =
    c.build-meshed.auto.vertex_words

pub shape_of-edge_words-in-Ok : goal.shape_of-edge_words-in-Ok
shape_of-edge_words-in-Ok c =
    c.build-meshed.auto.edge_words

pub shape_of-edge_reals-in-Ok : goal.shape_of-edge_reals-in-Ok
shape_of-edge_reals-in-Ok c =
    c.build-meshed.auto.edge_reals

pub shape_of-round-in-Ok : goal.shape_of-round-in-Ok
shape_of-round-in-Ok c =
    c.build-meshed.auto.round

pub shape_of-triangle_words-in-Ok : goal.shape_of-triangle_words-in-Ok
shape_of-triangle_words-in-Ok c =
    c.build-meshed.auto.triangle_words

pub shape_of-triangle_reals-in-Ok : goal.shape_of-triangle_reals-in-Ok
shape_of-triangle_reals-in-Ok c =
    c.build-meshed.auto.triangle_reals

pub returns-in-Ok : goal.returns-in-Ok
returns-in-Ok c = packed_edges _ _ _ _ c.build-meshed.ensures _ c.in-Ok.is

pub shape_of-vertex_words-in-Err : goal.shape_of-vertex_words-in-Err
shape_of-vertex_words-in-Err c =
    c.build-meshed.auto.vertex_words

pub shape_of-edge_words-in-Err : goal.shape_of-edge_words-in-Err
shape_of-edge_words-in-Err c =
    c.build-meshed.auto.edge_words

pub shape_of-edge_reals-in-Err : goal.shape_of-edge_reals-in-Err
shape_of-edge_reals-in-Err c =
    c.build-meshed.auto.edge_reals

pub shape_of-round-in-Err : goal.shape_of-round-in-Err
shape_of-round-in-Err c =
    c.build-meshed.auto.round

pub shape_of-triangle_words-in-Err : goal.shape_of-triangle_words-in-Err
shape_of-triangle_words-in-Err c =
    c.build-meshed.auto.triangle_words

pub shape_of-triangle_reals-in-Err : goal.shape_of-triangle_reals-in-Err
shape_of-triangle_reals-in-Err c =
    c.build-meshed.auto.triangle_reals

pub returns-in-Err : goal.returns-in-Err
returns-in-Err c = packed_refused _ _ _ _ c.build-meshed.ensures _ _ c.in-Err.is c.refusal_number.ensures
