-- `form_read::write_job` meets its contract. Assumes nothing.
use Rattle.form_read.proofs.Checks.{mesh_ready, pieces_ready, none_written, job_filled}
use Rattle.slip.specs.Reading.{job_rows}
use mathlib.Core.Path.{sym, ◌∙◌}
use Rattle.form_read.proofs.write_job.Goals as goal

pub write_mesh-at-requires : goal.write_mesh-at-requires
write_mesh-at-requires c =
    let small = c.read_head.ensures.1.small _ c.in-Ok.is in
    mesh_ready c.args.s.now (job_rows c.args.vertices.now c.args.triangles.now c.args.flags.now c.args.kinds.now c.args.faces.now c.args.coords.now) c.requires (sym c.read_head.ensures.0 ∙ c.in-Ok.is) small.0 small.1.0 small.1.1.0 small.1.1.1

pub write_pieces-requires : goal.write_pieces-requires
write_pieces-requires c =
    let small = c.read_head.ensures.1.small _ c.in-Ok.is in
    rw c.write_mesh-at.ensures.1.1.1 (pieces_ready c.args.s.now (job_rows c.args.vertices.now c.args.triangles.now c.args.flags.now c.args.kinds.now c.args.faces.now c.args.coords.now) c.requires (sym c.read_head.ensures.0 ∙ c.in-Ok.is) small.0 small.1.0 small.1.1.0 small.1.1.1)

pub shape_of-vertices : goal.shape_of-vertices
shape_of-vertices c =
    c.write_mesh-at.auto.vertices

pub shape_of-triangles : goal.shape_of-triangles
shape_of-triangles c =
    c.write_mesh-at.auto.triangles

pub shape_of-flags : goal.shape_of-flags
shape_of-flags c =
    c.write_mesh-at.auto.flags

pub shape_of-kinds : goal.shape_of-kinds
shape_of-kinds c = c.write_pieces.auto.kinds

pub shape_of-faces : goal.shape_of-faces
shape_of-faces c = c.write_pieces.auto.faces

pub shape_of-coords : goal.shape_of-coords
shape_of-coords c = c.write_pieces.auto.coords

pub returns-in-Ok : goal.returns-in-Ok
returns-in-Ok c =
    let mesh = c.write_mesh-at.ensures in
    let pieces = c.write_pieces.ensures in
    job_filled c.args.s.now (job_rows c.args.vertices.now c.args.triangles.now c.args.flags.now c.args.kinds.now c.args.faces.now c.args.coords.now) (sym c.read_head.ensures.0 ∙ c.in-Ok.is) mesh.1.1.1 mesh.0 mesh.1.0 mesh.1.1.0 pieces.0 pieces.1.0 pieces.1.1

pub returns-in_default : goal.returns-in_default
returns-in_default c =
    none_written c.args.s.now _ (sym c.read_head.ensures.0 ∙ c.in_default.is)
