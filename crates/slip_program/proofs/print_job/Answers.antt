-- `slip_program::print_job` meets its contract. Assumes nothing.
use Rattle.job_checks.specs.Job.{job}
use Rattle.compute.specs.of_cut_lists.Buffers.{cut_buffers}
use Rattle.compute.specs.of_begin.Begin.{work_slices}
use Rattle.compute.specs.of_mesh.Topology.{mesh_buffers}
use Rattle.compute.specs.of_compute_spec.Compute.{field_buffers}
use Rattle.slip_program.proofs.Texts.{puts_same, job_printed}
use Rattle.slip_program.proofs.print_job.Goals as goal

pub returns : goal.returns
returns c =
    let made = c.compute-computed in
    let a = c.args in
    puts_same
    (job_printed (job a.vertices.now a.triangles.now a.flags.now a.kinds.now a.faces.now a.coords.now a.limit)
    (field_buffers
    (mesh_buffers made.new.vertex_words
    made.new.edge_words
    made.new.edge_reals
    made.new.round
    made.new.triangle_words
    made.new.triangle_reals)
    (work_slices made.new.piece_words
    made.new.piece_reals
    made.new.vertex
    made.new.words
    made.new.reals
    made.new.keys
    made.new.events
    made.new.entry_words)
    (cut_buffers made.new.pts
    made.new.out
    made.new.keep
    made.new.next)
    made.new.scratch made.new.other_scratch)
    made.result made.ensures)
    c.print_answer.ensures
