-- `compute::compute` meets its contract. Assumes nothing.
use mathlib.Core.Path.{refl, ◌∙◌}
use Rattle.field_model.specs.of_mesh.Topology.{mesh_buffers}
use Rattle.field_model.specs.of_cut_lists.Buffers.{cut_buffers}
use Rattle.make_field.specs.of_begin.Begin.{work_slices}
use Rattle.field_model.specs.of_compute_spec.Compute.{field_buffers}
use Rattle.compute.proofs.Computing.{zeroed_is, work_fits, computes}
use Rattle.compute.proofs.compute.Goals as goal

pub make_field-work-requires : goal.make_field-work-requires
make_field-work-requires c =
    let a = c.args in
    let counts = c.other_counts-others in
    let made = c.build-meshed in
    let edges = c.edge_count-edges in
    let number = c.refusal_number in
    work_fits a.vertices.now a.triangles.now a.flags.now a.kinds.now a.faces.now a.coords.now a.limit
    (field_buffers
    (mesh_buffers a.vertex_words.now a.edge_words.now a.edge_reals.now a.round.now a.triangle_words.now a.triangle_reals.now)
    (work_slices a.piece_words.now a.piece_reals.now a.vertex.now a.words.now a.reals.now a.keys.now a.events.now a.entry_words.now)
    (cut_buffers a.pts.now a.out.now a.keep.now a.next.now)
    a.scratch.now a.other_scratch.now)
    a.max_steps counts.result counts.ensures made.result
    (mesh_buffers made.new.vertex_words made.new.edge_words made.new.edge_reals made.new.round made.new.triangle_words made.new.triangle_reals)
    made.ensures number.result edges.result number.ensures edges.ensures

pub shape_of-vertex_words : goal.shape_of-vertex_words
shape_of-vertex_words c =
    c.zero_mesh_if.auto.vertex_words
    ∙ c.build-meshed.auto.vertex_words

pub shape_of-edge_words : goal.shape_of-edge_words
shape_of-edge_words c =
    c.zero_mesh_if.auto.edge_words
    ∙ c.make_field-work.auto.edge_words
    ∙ c.build-meshed.auto.edge_words

pub shape_of-edge_reals : goal.shape_of-edge_reals
shape_of-edge_reals c =
    c.zero_mesh_if.auto.edge_reals
    ∙ c.build-meshed.auto.edge_reals

pub shape_of-round : goal.shape_of-round
shape_of-round c =
    c.zero_mesh_if.auto.round
    ∙ c.build-meshed.auto.round

pub shape_of-triangle_words : goal.shape_of-triangle_words
shape_of-triangle_words c =
    c.zero_mesh_if.auto.triangle_words
    ∙ c.make_field-work.auto.triangle_words
    ∙ c.build-meshed.auto.triangle_words

pub shape_of-triangle_reals : goal.shape_of-triangle_reals
shape_of-triangle_reals c =
    c.zero_mesh_if.auto.triangle_reals
    ∙ c.build-meshed.auto.triangle_reals

pub shape_of-piece_words : goal.shape_of-piece_words
shape_of-piece_words c =
    c.zero_pieces_if.auto.piece_words
    ∙ c.make_field-work.auto.piece_words

pub shape_of-piece_reals : goal.shape_of-piece_reals
shape_of-piece_reals c =
    c.zero_pieces_if.auto.piece_reals
    ∙ c.make_field-work.auto.piece_reals

pub shape_of-vertex : goal.shape_of-vertex
shape_of-vertex c =
    c.zero_pieces_if.auto.vertex
    ∙ c.make_field-work.auto.vertex

pub shape_of-words : goal.shape_of-words
shape_of-words c =
    c.zero_windows_if.auto.words
    ∙ c.make_field-work.auto.words

pub shape_of-reals : goal.shape_of-reals
shape_of-reals c =
    c.zero_windows_if.auto.reals
    ∙ c.make_field-work.auto.reals

pub shape_of-keys : goal.shape_of-keys
shape_of-keys c =
    c.zero_windows_if.auto.keys
    ∙ c.make_field-work.auto.keys

pub shape_of-events : goal.shape_of-events
shape_of-events c =
    c.zero_windows_if.auto.events
    ∙ c.make_field-work.auto.events

pub shape_of-entry_words : goal.shape_of-entry_words
shape_of-entry_words c =
    c.zero_words_if.auto.s
    ∙ c.make_field-work.auto.entry_words

pub shape_of-pts : goal.shape_of-pts
shape_of-pts c =
    c.zero_cuts_if.auto.pts
    ∙ c.make_field-work.auto.pts

pub shape_of-out : goal.shape_of-out
shape_of-out c =
    c.zero_cuts_if.auto.out
    ∙ c.make_field-work.auto.out

pub shape_of-keep : goal.shape_of-keep
shape_of-keep c =
    c.zero_cuts_if.auto.keep
    ∙ c.make_field-work.auto.keep

pub shape_of-next : goal.shape_of-next
shape_of-next c =
    c.zero_cuts_if.auto.next
    ∙ c.make_field-work.auto.next

pub shape_of-scratch : goal.shape_of-scratch
shape_of-scratch c =
    c.zero_words_if-2.auto.s

pub shape_of-other_scratch : goal.shape_of-other_scratch
shape_of-other_scratch c =
    c.zero_words_if-3.auto.s

pub returns : goal.returns
returns c =
    let a = c.args in
    let counts = c.other_counts-others in
    let made = c.build-meshed in
    let edges = c.edge_count-edges in
    let number = c.refusal_number in
    let work = c.make_field-work in
    let zero = c.is_zeroed-zero in
    let meshes = c.zero_mesh_if in
    let pieces = c.zero_pieces_if in
    let windows = c.zero_windows_if in
    let entries = c.zero_words_if in
    let cuts = c.zero_cuts_if in
    let clear = c.is_cleared-clear in
    let row = c.zero_words_if-2 in
    let other = c.zero_words_if-3 in
    computes a.vertices.now a.triangles.now a.flags.now a.kinds.now a.faces.now a.coords.now a.limit
    (field_buffers
    (mesh_buffers a.vertex_words.now a.edge_words.now a.edge_reals.now a.round.now a.triangle_words.now a.triangle_reals.now)
    (work_slices a.piece_words.now a.piece_reals.now a.vertex.now a.words.now a.reals.now a.keys.now a.events.now a.entry_words.now)
    (cut_buffers a.pts.now a.out.now a.keep.now a.next.now)
    a.scratch.now a.other_scratch.now)
    a.max_steps counts.result counts.ensures made.result
    (mesh_buffers made.new.vertex_words made.new.edge_words made.new.edge_reals made.new.round made.new.triangle_words made.new.triangle_reals)
    made.ensures number.result edges.result number.ensures edges.ensures
    work.result
    (mesh_buffers made.new.vertex_words work.new.edge_words made.new.edge_reals made.new.round work.new.triangle_words made.new.triangle_reals)
    (work_slices work.new.piece_words
    work.new.piece_reals
    work.new.vertex
    work.new.words
    work.new.reals
    work.new.keys
    work.new.events
    work.new.entry_words)
    (cut_buffers work.new.pts work.new.out work.new.keep work.new.next)
    work.ensures
    (record {
      same = record {
        words = work.auto.words;
        reals = work.auto.reals;
        keys = work.auto.keys;
        events = work.auto.events;
        pts = work.auto.pts;
        out = work.auto.out;
        keep = work.auto.keep;
        next = work.auto.next;
        entry_words_held = work.auto.entry_words;
      };
      vertex_words_held = made.auto.vertex_words;
      edge_words_held = work.auto.edge_words ∙ made.auto.edge_words;
      edge_reals_held = made.auto.edge_reals;
      round = made.auto.round;
      triangle_words_held = work.auto.triangle_words ∙ made.auto.triangle_words;
      triangle_reals = made.auto.triangle_reals;
      vertex = work.auto.vertex;
      piece_words = work.auto.piece_words;
      piece_reals = work.auto.piece_reals;
      scratch = refl;
      other_scratch = refl;
    })
    (field_buffers
    (mesh_buffers meshes.new.vertex_words meshes.new.edge_words meshes.new.edge_reals meshes.new.round meshes.new.triangle_words meshes.new.triangle_reals)
    (work_slices pieces.new.piece_words pieces.new.piece_reals pieces.new.vertex windows.new.words windows.new.reals windows.new.keys windows.new.events entries.new.s)
    (cut_buffers cuts.new.pts cuts.new.out cuts.new.keep cuts.new.next)
    row.new.s other.new.s)
    (zeroed_is work.result
    (field_buffers
    (mesh_buffers made.new.vertex_words work.new.edge_words made.new.edge_reals made.new.round work.new.triangle_words made.new.triangle_reals)
    (work_slices work.new.piece_words
    work.new.piece_reals
    work.new.vertex
    work.new.words
    work.new.reals
    work.new.keys
    work.new.events
    work.new.entry_words)
    (cut_buffers work.new.pts work.new.out work.new.keep work.new.next)
    a.scratch.now a.other_scratch.now)
    zero.result clear.result zero.ensures clear.ensures meshes.ensures
    pieces.ensures.piece_words_value pieces.ensures.piece_reals_value pieces.ensures.vertex_value
    windows.ensures.words_value windows.ensures.reals_value windows.ensures.keys_value windows.ensures.events_value
    entries.ensures cuts.ensures row.ensures other.ensures)
    c.answer.result c.answer.ensures
