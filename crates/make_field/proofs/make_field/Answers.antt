-- `make_field::make_field` meets its contract. Assumes nothing.
use native.Mathlib.Omega.{arith}
use mathlib.Core.Path.{◌∙◌}
use Rattle.compute_spec.specs.of_mesh.Topology.{mesh_buffers}
use Rattle.compute_spec.specs.of_cut_lists.Buffers.{cut_buffers}
use Rattle.finish_work.specs.of_trim.Buffers.{slices}
use Rattle.compute_spec.specs.of_face_entries.Buffers.{entry_buffers}
use Rattle.compute_spec.specs.of_begin.Begin.{work_slices}
use Rattle.make_field.proofs.Making.{makes_field, passes_field, within_left, edges_left}
use Rattle.make_field.proofs.make_field.Goals as goal

pub returns-then-number-gt0 : goal.returns-then-number-gt0
returns-then-number-gt0 c =
    let a = c.args in
    passes_field a.edges a.vertices.now a.triangles.now a.kinds.now a.faces.now a.coords.now a.limit
    (mesh_buffers a.vertex_words.now a.edge_words.now a.edge_reals.now a.round.now a.triangle_words.now a.triangle_reals.now)
    (work_slices a.piece_words.now a.piece_reals.now a.vertex.now a.words.now a.reals.now a.keys.now a.events.now a.entry_words.now)
    (cut_buffers a.pts.now a.out.now a.keep.now a.next.now) a.max_steps a.number c.if-number-gt0.true

pub work_parts-worked-requires : goal.work_parts-worked-requires
work_parts-worked-requires c =
    let none = c.if-number-gt0.false in
    let fits = c.requires (omega (arith, none)) in
    (fits.0, (fits.1.0, (fits.1.1.0, c.cut_count-x.ensures)))

pub finish_work-requires : goal.finish_work-requires
finish_work-requires c =
    let a = c.args in
    let none = c.if-number-gt0.false in
    let fits = c.requires (omega (arith, none)) in
    let worked = c.work_parts-worked in (
      within_left worked.result a.words.now a.reals.now worked.new.words worked.new.reals worked.auto.words worked.auto.reals worked.ensures.bounded,
      edges_left a.edges a.edge_words.now worked.new.edge_words worked.auto.edge_words fits.1.1.1,
    )

pub shape_of-edge_words : goal.shape_of-edge_words
shape_of-edge_words c =
    c.finish_work.auto.edge_words
    ∙ c.work_parts-worked.auto.edge_words

pub shape_of-triangle_words : goal.shape_of-triangle_words
shape_of-triangle_words c = c.work_parts-worked.auto.triangle_words

pub shape_of-piece_words : goal.shape_of-piece_words
shape_of-piece_words c = c.work_parts-worked.auto.piece_words

pub shape_of-piece_reals : goal.shape_of-piece_reals
shape_of-piece_reals c = c.work_parts-worked.auto.piece_reals

pub shape_of-vertex : goal.shape_of-vertex
shape_of-vertex c =
    c.finish_work.auto.vertex
    ∙ c.work_parts-worked.auto.vertex

pub shape_of-words : goal.shape_of-words
shape_of-words c = c.work_parts-worked.auto.words

pub shape_of-reals : goal.shape_of-reals
shape_of-reals c = c.work_parts-worked.auto.reals

pub shape_of-keys : goal.shape_of-keys
shape_of-keys c =
    c.finish_work.auto.keys
    ∙ c.work_parts-worked.auto.keys

pub shape_of-events : goal.shape_of-events
shape_of-events c =
    c.finish_work.auto.events
    ∙ c.work_parts-worked.auto.events

pub shape_of-entry_words : goal.shape_of-entry_words
shape_of-entry_words c = c.work_parts-worked.auto.entry_words

pub shape_of-pts : goal.shape_of-pts
shape_of-pts c =
    c.finish_work.auto.pts
    ∙ c.work_parts-worked.auto.pts

pub shape_of-out : goal.shape_of-out
shape_of-out c =
    c.finish_work.auto.out
    ∙ c.work_parts-worked.auto.out

pub shape_of-keep : goal.shape_of-keep
shape_of-keep c =
    c.finish_work.auto.keep
    ∙ c.work_parts-worked.auto.keep

pub shape_of-next : goal.shape_of-next
shape_of-next c =
    c.finish_work.auto.next
    ∙ c.work_parts-worked.auto.next

pub returns : goal.returns
returns c =
    let a = c.args in
    let none = c.if-number-gt0.false in
    let cut = c.cut_count-x in
    let worked = c.work_parts-worked in
    let ended = c.finish_work in
    makes_field a.edges a.vertices.now a.triangles.now a.kinds.now a.faces.now a.coords.now a.limit
    (mesh_buffers a.vertex_words.now a.edge_words.now a.edge_reals.now a.round.now a.triangle_words.now a.triangle_reals.now)
    (work_slices a.piece_words.now a.piece_reals.now a.vertex.now a.words.now a.reals.now a.keys.now a.events.now a.entry_words.now)
    (cut_buffers a.pts.now a.out.now a.keep.now a.next.now) a.max_steps a.number none cut.result cut.ensures worked.result
    worked.new.piece_words worked.new.piece_reals
    (slices worked.new.edge_words worked.new.words worked.new.reals worked.new.keys worked.new.events worked.new.vertex)
    (entry_buffers worked.new.triangle_words worked.new.entry_words)
    (cut_buffers worked.new.pts worked.new.out worked.new.keep worked.new.next)
    (slices ended.new.edge_words worked.new.words worked.new.reals ended.new.keys ended.new.events ended.new.vertex)
    (cut_buffers ended.new.pts ended.new.out ended.new.keep ended.new.next)
    worked.ensures
    (record {
      words = worked.auto.words;
      reals = worked.auto.reals;
      keys = worked.auto.keys;
      events = worked.auto.events;
      pts = worked.auto.pts;
      out = worked.auto.out;
      keep = worked.auto.keep;
      next = worked.auto.next;
      entry_words_held = worked.auto.entry_words;
    })
    worked.auto.edge_words ended.ensures
