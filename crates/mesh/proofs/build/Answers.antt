-- `mesh::build` meets its contract. Assumes nothing.
use Rattle.job_checks.specs.Job.{job}
use Rattle.mesh.specs.Topology.{mesh_buffers}
use Rattle.mesh.proofs.Answering.{handed_on, counted, passed_of, fits, answer_refused, answer_edges, answer_third}
use Rattle.mesh.proofs.build.Goals as goal

pub returns-in_err-check : goal.returns-in_err-check
returns-in_err-check c =
    let a = c.args in
    let j = job a.vertices.now a.triangles.now a.flags.now a.kinds.now a.faces.now a.coords.now a.limit in
    let m = mesh_buffers a.vertex_words.now a.edge_words.now a.edge_reals.now a.round.now a.triangle_words.now a.triangle_reals.now in
    handed_on _ _ _ _ _ _ c.from_residual.ensures.1 (answer_refused j a.others m _ (counted _ _ _ _ c.in_err-check.ensures c.buffer_counts-counts.ensures))

pub topology-requires : goal.topology-requires
topology-requires c =
    let a = c.args in
    let j = job a.vertices.now a.triangles.now a.flags.now a.kinds.now a.faces.now a.coords.now a.limit in
    let m = mesh_buffers a.vertex_words.now a.edge_words.now a.edge_reals.now a.round.now a.triangle_words.now a.triangle_reals.now in
    fits j a.others m (passed_of _ _ _ c.in_ok-check.ensures c.buffer_counts-counts.ensures)

pub shape_of-vertex_words : goal.shape_of-vertex_words
shape_of-vertex_words c =
    c.topology.auto.vertex_words

pub shape_of-edge_words : goal.shape_of-edge_words
shape_of-edge_words c =
    c.topology.auto.edge_words

pub shape_of-edge_reals : goal.shape_of-edge_reals
shape_of-edge_reals c =
    c.topology.auto.edge_reals

pub shape_of-round : goal.shape_of-round
shape_of-round c =
    c.topology.auto.round

pub shape_of-triangle_words : goal.shape_of-triangle_words
shape_of-triangle_words c =
    c.topology.auto.triangle_words

pub shape_of-triangle_reals : goal.shape_of-triangle_reals
shape_of-triangle_reals c =
    c.topology.auto.triangle_reals

pub returns : goal.returns
returns c =
    let a = c.args in
    let j = job a.vertices.now a.triangles.now a.flags.now a.kinds.now a.faces.now a.coords.now a.limit in
    let m = mesh_buffers a.vertex_words.now a.edge_words.now a.edge_reals.now a.round.now a.triangle_words.now a.triangle_reals.now in
    answer_edges j a.others m (passed_of _ _ _ c.in_ok-check.ensures c.buffer_counts-counts.ensures)
    _ _ c.topology.ensures _ c.in_ok-edges.was

pub shape_of-vertex_words-in_err-edges : goal.shape_of-vertex_words-in_err-edges
shape_of-vertex_words-in_err-edges c =
    c.topology.auto.vertex_words

pub shape_of-edge_words-in_err-edges : goal.shape_of-edge_words-in_err-edges
shape_of-edge_words-in_err-edges c =
    c.topology.auto.edge_words

pub shape_of-edge_reals-in_err-edges : goal.shape_of-edge_reals-in_err-edges
shape_of-edge_reals-in_err-edges c =
    c.topology.auto.edge_reals

pub shape_of-round-in_err-edges : goal.shape_of-round-in_err-edges
shape_of-round-in_err-edges c =
    c.topology.auto.round

pub shape_of-triangle_words-in_err-edges : goal.shape_of-triangle_words-in_err-edges
shape_of-triangle_words-in_err-edges c =
    c.topology.auto.triangle_words

pub shape_of-triangle_reals-in_err-edges : goal.shape_of-triangle_reals-in_err-edges
shape_of-triangle_reals-in_err-edges c =
    c.topology.auto.triangle_reals

pub returns-in_err-edges : goal.returns-in_err-edges
returns-in_err-edges c =
    let a = c.args in
    let j = job a.vertices.now a.triangles.now a.flags.now a.kinds.now a.faces.now a.coords.now a.limit in
    let m = mesh_buffers a.vertex_words.now a.edge_words.now a.edge_reals.now a.round.now a.triangle_words.now a.triangle_reals.now in
    handed_on _ _ _ _ _ _ c.from_residual-in_err-edges.ensures.1 (answer_third j a.others m (passed_of _ _ _ c.in_ok-check.ensures c.buffer_counts-counts.ensures)
    _ _ c.topology.ensures _ c.in_err-edges.was)
