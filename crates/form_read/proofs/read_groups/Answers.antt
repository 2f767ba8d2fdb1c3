-- `form_read::read_groups` meets its contract. Assumes nothing.
use Rattle.std.specs.Prelude.{Ok, Err}
use Rattle.std.proofs.lemmas.Result.{err_from_is_err_and}
use Rattle.form_read.proofs.Checks.{did_read, did_refuse}
use Rattle.form_read.specs.FormReading.{is_read, groups_answer}
use Rattle.slip.specs.Reading.{Rows, job_rows, vertex_slots, triangle_slots, piece_slots}
use mathlib.Core.Path.{◌≡◌, sym, ap}
use Rattle.form_read.proofs.read_groups.Goals as goal

pub returns-in_err-job : goal.returns-in_err-job
unfolding vertex_slots triangle_slots piece_slots
returns-in_err-job c =
    let s = c.args.s.now in
    let b : Rows = job_rows c.args.vertices.now c.args.triangles.now c.args.flags.now c.args.kinds.now c.args.faces.now c.args.coords.now in
    let p = err_from_is_err_and c.from_residual.result c.from_residual.ensures.1 in
    let told : Err c.in_err-job.field-0.0 ≡ groups_answer s (vertex_slots b) (triangle_slots b) (piece_slots b) = rw (c.least-vertex_room.ensures, c.least-piece_room.ensures, c.least.ensures) at c.in_err-job.ensures in
    rw (p.1, p.2) (did_refuse s b _ told)

pub write_job-requires : goal.write_job-requires
unfolding vertex_slots triangle_slots piece_slots
write_job-requires c =
    let s = c.args.s.now in
    let b : Rows = job_rows c.args.vertices.now c.args.triangles.now c.args.flags.now c.args.kinds.now c.args.faces.now c.args.coords.now in
    let told : Ok c.in_ok-job.job ≡ groups_answer s (vertex_slots b) (triangle_slots b) (piece_slots b) = rw (c.least-vertex_room.ensures, c.least-piece_room.ensures, c.least.ensures) at c.in_ok-job.ensures in
    sym (ap is_read told)

pub shape_of-vertices : goal.shape_of-vertices
shape_of-vertices c =
    c.write_job.auto.vertices

pub shape_of-triangles : goal.shape_of-triangles
shape_of-triangles c =
    c.write_job.auto.triangles

pub shape_of-flags : goal.shape_of-flags
shape_of-flags c =
    c.write_job.auto.flags

pub shape_of-kinds : goal.shape_of-kinds
shape_of-kinds c =
    c.write_job.auto.kinds

pub shape_of-faces : goal.shape_of-faces
shape_of-faces c =
    c.write_job.auto.faces

pub shape_of-coords : goal.shape_of-coords
shape_of-coords c =
    c.write_job.auto.coords

pub returns : goal.returns
unfolding vertex_slots triangle_slots piece_slots
returns c =
    let s = c.args.s.now in
    let b : Rows = job_rows c.args.vertices.now c.args.triangles.now c.args.flags.now c.args.kinds.now c.args.faces.now c.args.coords.now in
    let told : Ok c.in_ok-job.job ≡ groups_answer s (vertex_slots b) (triangle_slots b) (piece_slots b) = rw (c.least-vertex_room.ensures, c.least-piece_room.ensures, c.least.ensures) at c.in_ok-job.ensures in
    did_read s b _ told _ c.write_job.ensures
