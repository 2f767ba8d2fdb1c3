-- `field_work::work` meets its contract. Assumes nothing.
use mathlib.Core.Path.{◌∙◌}
use lib.ListN.{length}
use Rattle.run_steps.specs.of_cut_lists.Buffers.{cut_buffers}
use Rattle.run_steps.specs.of_trim.Buffers.{slices}
use Rattle.run_steps.specs.of_mesh.Topology.{mesh_buffers}
use Rattle.run_steps.specs.of_face_entries.Buffers.{entry_buffers}
use Rattle.run_steps.specs.of_begin.Begin.{work_slices}
use Rattle.field_work.proofs.Working.{sizes_kept, within_kept, works_to}
use Rattle.field_work.proofs.work.Goals as goal

pub run_steps-requires : goal.run_steps-requires
run_steps-requires c =
    let a = c.args in
    let i = c.insert_job-inserted in (
      within_kept a.words.now i.new.words a.reals.now i.new.reals i.auto.words i.auto.reals i.result i.ensures.bounded,
      sizes_kept (length a.pts.now) (length i.new.pts) a.out.now a.keep.now a.next.now i.new.out i.new.keep i.new.next
          i.auto.pts i.auto.out i.auto.keep i.auto.next c.requires.1.1.1,
    )

pub shape_of-edge_words : goal.shape_of-edge_words
shape_of-edge_words c =
    c.run_steps.auto.edge_words ∙ c.insert_job-inserted.auto.edge_words

pub shape_of-triangle_words : goal.shape_of-triangle_words
shape_of-triangle_words c = c.insert_job-inserted.auto.triangle_words

pub shape_of-piece_words : goal.shape_of-piece_words
shape_of-piece_words c = c.insert_job-inserted.auto.piece_words

pub shape_of-piece_reals : goal.shape_of-piece_reals
shape_of-piece_reals c = c.insert_job-inserted.auto.piece_reals

pub shape_of-vertex : goal.shape_of-vertex
shape_of-vertex c =
    c.run_steps.auto.vertex ∙ c.insert_job-inserted.auto.vertex

pub shape_of-words : goal.shape_of-words
shape_of-words c =
    c.run_steps.auto.words ∙ c.insert_job-inserted.auto.words

pub shape_of-reals : goal.shape_of-reals
shape_of-reals c =
    c.run_steps.auto.reals ∙ c.insert_job-inserted.auto.reals

pub shape_of-keys : goal.shape_of-keys
shape_of-keys c =
    c.run_steps.auto.keys ∙ c.insert_job-inserted.auto.keys

pub shape_of-events : goal.shape_of-events
shape_of-events c =
    c.run_steps.auto.events ∙ c.insert_job-inserted.auto.events

pub shape_of-entry_words : goal.shape_of-entry_words
shape_of-entry_words c = c.insert_job-inserted.auto.entry_words

pub shape_of-pts : goal.shape_of-pts
shape_of-pts c =
    c.run_steps.auto.pts ∙ c.insert_job-inserted.auto.pts

pub shape_of-out : goal.shape_of-out
shape_of-out c =
    c.run_steps.auto.out ∙ c.insert_job-inserted.auto.out

pub shape_of-keep : goal.shape_of-keep
shape_of-keep c =
    c.run_steps.auto.keep ∙ c.insert_job-inserted.auto.keep

pub shape_of-next : goal.shape_of-next
shape_of-next c =
    c.run_steps.auto.next ∙ c.insert_job-inserted.auto.next

pub returns : goal.returns
returns c =
    let ran = c.run_steps in
    let a = c.args in
    let i = c.insert_job-inserted in
    works_to a.vertices.now a.triangles.now a.kinds.now a.faces.now a.coords.now a.limit
    (mesh_buffers a.vertex_words.now a.edge_words.now a.edge_reals.now a.round.now a.triangle_words.now a.triangle_reals.now)
    (work_slices a.piece_words.now a.piece_reals.now a.vertex.now a.words.now a.reals.now a.keys.now a.events.now a.entry_words.now)
    (cut_buffers a.pts.now a.out.now a.keep.now a.next.now) a.max_steps
    (slices i.new.edge_words i.new.words i.new.reals i.new.keys i.new.events i.new.vertex)
    (entry_buffers i.new.triangle_words i.new.entry_words)
    (cut_buffers i.new.pts i.new.out i.new.keep i.new.next)
    i.auto.edge_words i.auto.words i.auto.reals i.auto.pts
    i.new.piece_words i.new.piece_reals i.result ran.result
    (slices ran.new.edge_words ran.new.words ran.new.reals ran.new.keys ran.new.events ran.new.vertex)
    i.ensures ran.ensures
