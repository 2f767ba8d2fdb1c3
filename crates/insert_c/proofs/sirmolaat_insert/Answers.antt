-- `insert_c::sirmolaat_insert` meets its contract. Assumes nothing.
use mathlib.Core.Path.{refl, ◌∙◌}
use Rattle.cut_slots.specs.of_cut_lists.Buffers.{cut_buffers}
use Rattle.insert_job.specs.of_mesh.Topology.{mesh_buffers}
use Rattle.insert_job.specs.of_begin.Begin.{work_slices}
use Rattle.insert_c.proofs.Answers.{parts_fit, says_refused, says_inserted}
use Rattle.insert_c.proofs.sirmolaat_insert.Goals as goal

pub returns-then-number-gt0 : goal.returns-then-number-gt0
returns-then-number-gt0 c =
    let number = c.refusal_number-number in
    let made = c.build-meshed in
    let lent = c.lent_counts-others in
    let a = c.args in
    says_refused a.vertices.now a.triangles.now a.flags.now a.kinds.now a.faces.now a.coords.now a.limit
    (mesh_buffers a.vertex_words.now a.edge_words.now a.edge_reals.now a.round.now a.triangle_words.now a.triangle_reals.now)
    (work_slices a.piece_words.now a.piece_reals.now a.vertex.now a.words.now a.reals.now a.keys.now a.events.now a.entry_words.now)
    lent.result made.result
    (mesh_buffers made.new.vertex_words made.new.edge_words made.new.edge_reals made.new.round made.new.triangle_words made.new.triangle_reals)
    lent.ensures made.ensures number.result number.ensures c.if-number-gt0.true
    (cut_buffers a.pts.now a.out.now a.keep.now a.next.now) a.told.now

pub insert_parts-inserted-requires : goal.insert_parts-inserted-requires
insert_parts-inserted-requires c =
    let number = c.refusal_number-number in
    let made = c.build-meshed in
    let lent = c.lent_counts-others in
    let a = c.args in
    let fits = parts_fit a.vertices.now a.triangles.now a.flags.now a.kinds.now a.faces.now a.coords.now a.limit
    (mesh_buffers a.vertex_words.now a.edge_words.now a.edge_reals.now a.round.now a.triangle_words.now a.triangle_reals.now)
    (work_slices a.piece_words.now a.piece_reals.now a.vertex.now a.words.now a.reals.now a.keys.now a.events.now a.entry_words.now)
    lent.result made.result
    (mesh_buffers made.new.vertex_words made.new.edge_words made.new.edge_reals made.new.round made.new.triangle_words made.new.triangle_reals)
    lent.ensures made.ensures number.result number.ensures c.if-number-gt0.false in
    (fits.0, (fits.1.0, (fits.1.1, c.cut_count-x.ensures)))

pub shape_of-vertex_words : goal.shape_of-vertex_words
shape_of-vertex_words c =
    c.build-meshed.auto.vertex_words

pub shape_of-edge_words : goal.shape_of-edge_words
shape_of-edge_words c =
    c.insert_parts-inserted.auto.edge_words ∙ c.build-meshed.auto.edge_words

pub shape_of-edge_reals : goal.shape_of-edge_reals
shape_of-edge_reals c =
    c.build-meshed.auto.edge_reals

pub shape_of-round : goal.shape_of-round
shape_of-round c =
    c.build-meshed.auto.round

pub shape_of-triangle_words : goal.shape_of-triangle_words
shape_of-triangle_words c =
    c.insert_parts-inserted.auto.triangle_words ∙ c.build-meshed.auto.triangle_words

pub shape_of-triangle_reals : goal.shape_of-triangle_reals
shape_of-triangle_reals c =
    c.build-meshed.auto.triangle_reals

pub shape_of-piece_words : goal.shape_of-piece_words
shape_of-piece_words c = c.insert_parts-inserted.auto.piece_words

pub shape_of-piece_reals : goal.shape_of-piece_reals
shape_of-piece_reals c = c.insert_parts-inserted.auto.piece_reals

pub shape_of-vertex : goal.shape_of-vertex
shape_of-vertex c = c.insert_parts-inserted.auto.vertex

pub shape_of-words : goal.shape_of-words
shape_of-words c = c.insert_parts-inserted.auto.words

pub shape_of-reals : goal.shape_of-reals
shape_of-reals c = c.insert_parts-inserted.auto.reals

pub shape_of-keys : goal.shape_of-keys
shape_of-keys c = c.insert_parts-inserted.auto.keys

pub shape_of-events : goal.shape_of-events
shape_of-events c = c.insert_parts-inserted.auto.events

pub shape_of-entry_words : goal.shape_of-entry_words
shape_of-entry_words c = c.insert_parts-inserted.auto.entry_words

pub shape_of-pts : goal.shape_of-pts
shape_of-pts c = c.insert_parts-inserted.auto.pts

pub shape_of-out : goal.shape_of-out
shape_of-out c = c.insert_parts-inserted.auto.out

pub shape_of-keep : goal.shape_of-keep
shape_of-keep c = c.insert_parts-inserted.auto.keep

pub shape_of-next : goal.shape_of-next
shape_of-next c = c.insert_parts-inserted.auto.next

pub returns : goal.returns
returns c =
    let cut = c.cut_count-x in
    let edges = c.edges_told-edges in
    let parts = c.insert_parts-inserted in
    let number = c.refusal_number-number in
    let made = c.build-meshed in
    let lent = c.lent_counts-others in
    let a = c.args in
    says_inserted a.vertices.now a.triangles.now a.flags.now a.kinds.now a.faces.now a.coords.now a.limit
    (mesh_buffers a.vertex_words.now a.edge_words.now a.edge_reals.now a.round.now a.triangle_words.now a.triangle_reals.now)
    (work_slices a.piece_words.now a.piece_reals.now a.vertex.now a.words.now a.reals.now a.keys.now a.events.now a.entry_words.now)
    lent.result made.result
    (mesh_buffers made.new.vertex_words made.new.edge_words made.new.edge_reals made.new.round made.new.triangle_words made.new.triangle_reals)
    lent.ensures made.ensures number.result number.ensures c.if-number-gt0.false
    (cut_buffers a.pts.now a.out.now a.keep.now a.next.now) cut.result cut.ensures a.told.now parts.result
    (mesh_buffers made.new.vertex_words parts.new.edge_words made.new.edge_reals made.new.round parts.new.triangle_words made.new.triangle_reals)
    (work_slices parts.new.piece_words parts.new.piece_reals parts.new.vertex parts.new.words parts.new.reals parts.new.keys parts.new.events parts.new.entry_words)
    parts.ensures refl edges.result c.tell.result c.tell.new.told edges.ensures c.tell.ensures
