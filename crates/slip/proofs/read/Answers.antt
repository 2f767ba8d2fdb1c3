-- `slip::read` meets its contract. Assumes nothing.
use Rattle.slip.proofs.Room.{ready, did_read, did_refuse}
use Rattle.slip.specs.Reading.{job_rows, vertex_slots, triangle_slots, piece_slots, filled, slip_answer}
use mathlib.Core.Path.{◌≡◌, sym, ap}
use Rattle.std.specs.Prelude.{Ok, Err}
use Rattle.std.proofs.lemmas.Result.{err_from_is_err_and}
use Rattle.slip.specs.Format.{is_job}
use Rattle.slip.proofs.read.Goals as goal

pub returns-in_err-job : goal.returns-in_err-job
unfolding vertex_slots triangle_slots piece_slots slip_answer
returns-in_err-job c =
    let a = c.args in
    let rows = job_rows a.vertices.now a.triangles.now a.flags.now a.kinds.now a.faces.now a.coords.now in
    let p = err_from_is_err_and c.from_residual.result c.from_residual.ensures.1 in
    let answered : Err c.in_err-job.field-0.0 ≡ slip_answer a.s.now rows = rw (c.least-vertex_room.ensures, c.least-piece_room.ensures, c.least.ensures) at c.in_err-job.ensures in
    rw (p.1, p.2) (did_refuse a.s.now rows _ answered)

pub write_mesh-requires : goal.write_mesh-requires
unfolding vertex_slots triangle_slots piece_slots slip_answer
write_mesh-requires c =
    let a = c.args in
    let rows = job_rows a.vertices.now a.triangles.now a.flags.now a.kinds.now a.faces.now a.coords.now in
    let answered : Ok c.in_ok-job.job ≡ slip_answer a.s.now rows = rw (c.least-vertex_room.ensures, c.least-piece_room.ensures, c.least.ensures) at c.in_ok-job.ensures in
    let r = ready a.s.now rows (ap is_job (sym answered)) in
    (r.counts, (r.mesh, (r.vertices, (r.triangles, r.flags))))

pub write_pieces-requires : goal.write_pieces-requires
unfolding vertex_slots triangle_slots piece_slots slip_answer
write_pieces-requires c =
    let a = c.args in
    let rows = job_rows a.vertices.now a.triangles.now a.flags.now a.kinds.now a.faces.now a.coords.now in
    let answered : Ok c.in_ok-job.job ≡ slip_answer a.s.now rows = rw (c.least-vertex_room.ensures, c.least-piece_room.ensures, c.least.ensures) at c.in_ok-job.ensures in
    let r = ready a.s.now rows (ap is_job (sym answered)) in
    (r.counts, (r.rest, (r.kinds, (r.faces, r.coords))))

pub returns : goal.returns
unfolding vertex_slots triangle_slots piece_slots slip_answer filled
returns c =
    let a = c.args in
    let rows = job_rows a.vertices.now a.triangles.now a.flags.now a.kinds.now a.faces.now a.coords.now in
    let answered : Ok c.in_ok-job.job ≡ slip_answer a.s.now rows = rw (c.least-vertex_room.ensures, c.least-piece_room.ensures, c.least.ensures) at c.in_ok-job.ensures in
    let mesh = c.write_mesh.ensures in
    let pieces = c.write_pieces.ensures in
    did_read a.s.now rows _ answered _ (λ i. job_rows (mesh.0 i) (mesh.1.0 i) (mesh.1.1 i) (pieces.0 i) (pieces.1.0 i) (pieces.1.1 i))
