-- `insert_sources::insert_source` meets its contract. Assumes nothing.
use native.Mathlib.Omega.{arith}
use mathlib.Core.Path.{◌∙◌}
use Rattle.std.proofs.lemmas.Result.{err_from_is_err_and}
use Rattle.insertion.specs.of_cut_lists.Buffers.{cut_buffers}
use Rattle.insertion.specs.of_trim.Buffers.{slices}
use Rattle.insertion.specs.of_face_entries.Buffers.{entry_buffers}
use Rattle.insert_sources.specs.Job.{insertion_slices}
use Rattle.insert_sources.proofs.Loop.{insert_start, insert_fits, insert_sizes}
use Rattle.insert_sources.proofs.Sources.{one_of, source_over, source_stopped, source_next}
use Rattle.insert_sources.proofs.insert_source.Goals as goal

pub loop-i-init : goal.loop-i-init
loop-i-init c =
    let a = c.args in
    let k = (insertion_slices a.vertices.now a.vertex_words.now a.edge_reals.now a.triangle_reals.now a.round.now a.kinds.now a.faces.now a.coords.now a.piece_words.now a.piece_reals.now) in
    insert_start a.limit k (one_of k a.j) a.counts (slices a.edge_words.now a.words.now a.reals.now a.keys.now a.events.now a.vertex.now) (entry_buffers a.triangle_words.now a.entry_words.now)
    (cut_buffers a.pts.now a.out.now a.keep.now a.next.now) c.insert_count-count.result c.requires.0

pub insert_number-requires : goal.insert_number-requires
insert_number-requires c =
    let a = c.args in
    let l = c.loop-i in
    let k = (insertion_slices a.vertices.now a.vertex_words.now a.edge_reals.now a.triangle_reals.now a.round.now a.kinds.now a.faces.now a.coords.now a.piece_words.now a.piece_reals.now) in
    let n = c.insert_count-count.result in (
      insert_fits a.limit k (one_of k a.j) a.counts (slices a.edge_words.now a.words.now a.reals.now a.keys.now a.events.now a.vertex.now) (entry_buffers a.triangle_words.now a.entry_words.now)
          (cut_buffers a.pts.now a.out.now a.keep.now a.next.now) n (slices l.edge_words l.words l.reals l.keys l.events l.vertex) (entry_buffers l.triangle_words l.entry_words) (cut_buffers l.pts l.out l.keep l.next) l.now l.i l.invariant c.loop-i-test.true,
      insert_sizes a.limit k (one_of k a.j) a.counts (slices a.edge_words.now a.words.now a.reals.now a.keys.now a.events.now a.vertex.now) (entry_buffers a.triangle_words.now a.entry_words.now)
          (cut_buffers a.pts.now a.out.now a.keep.now a.next.now) n (slices l.edge_words l.words l.reals l.keys l.events l.vertex) (entry_buffers l.triangle_words l.entry_words) (cut_buffers l.pts l.out l.keep l.next) l.now l.i l.invariant c.loop-i-test.true
          c.requires.1.0,
    )

pub shape_of-edge_words-in_err-now : goal.shape_of-edge_words-in_err-now
shape_of-edge_words-in_err-now c =
    c.insert_number.auto.edge_words ∙ c.loop-i.invariant.same.trim.edges

pub shape_of-words-in_err-now : goal.shape_of-words-in_err-now
shape_of-words-in_err-now c =
    c.insert_number.auto.words ∙ c.loop-i.invariant.same.trim.words

pub shape_of-reals-in_err-now : goal.shape_of-reals-in_err-now
shape_of-reals-in_err-now c =
    c.insert_number.auto.reals ∙ c.loop-i.invariant.same.trim.reals

pub shape_of-keys-in_err-now : goal.shape_of-keys-in_err-now
shape_of-keys-in_err-now c =
    c.insert_number.auto.keys ∙ c.loop-i.invariant.same.trim.keys

pub shape_of-events-in_err-now : goal.shape_of-events-in_err-now
shape_of-events-in_err-now c =
    c.insert_number.auto.events ∙ c.loop-i.invariant.same.trim.events

pub shape_of-vertex-in_err-now : goal.shape_of-vertex-in_err-now
shape_of-vertex-in_err-now c =
    c.insert_number.auto.vertex ∙ c.loop-i.invariant.same.trim.vertex

pub shape_of-pts-in_err-now : goal.shape_of-pts-in_err-now
shape_of-pts-in_err-now c =
    c.insert_number.auto.pts ∙ c.loop-i.invariant.same.trim.pts

pub shape_of-out-in_err-now : goal.shape_of-out-in_err-now
shape_of-out-in_err-now c =
    c.insert_number.auto.out ∙ c.loop-i.invariant.same.trim.out

pub shape_of-keep-in_err-now : goal.shape_of-keep-in_err-now
shape_of-keep-in_err-now c =
    c.insert_number.auto.keep ∙ c.loop-i.invariant.same.trim.keep

pub shape_of-next-in_err-now : goal.shape_of-next-in_err-now
shape_of-next-in_err-now c =
    c.insert_number.auto.next ∙ c.loop-i.invariant.same.trim.next

pub shape_of-triangle_words-in_err-now : goal.shape_of-triangle_words-in_err-now
shape_of-triangle_words-in_err-now c =
    c.insert_number.auto.triangle_words ∙ c.loop-i.invariant.same.triangles

pub shape_of-entry_words-in_err-now : goal.shape_of-entry_words-in_err-now
shape_of-entry_words-in_err-now c =
    c.insert_number.auto.entry_words ∙ c.loop-i.invariant.same.entries

pub returns-in_err-now : goal.returns-in_err-now
returns-in_err-now c =
    let a = c.args in
    let l = c.loop-i in
    let r = c.insert_number in
    let k = (insertion_slices a.vertices.now a.vertex_words.now a.edge_reals.now a.triangle_reals.now a.round.now a.kinds.now a.faces.now a.coords.now a.piece_words.now a.piece_reals.now) in
    let p = err_from_is_err_and c.from_residual.result c.from_residual.ensures.1 in
    rw (p.1, p.2) (source_stopped a.limit k a.pieces c.requires.1.1.0 a.j c.requires.1.1.1 a.counts (slices a.edge_words.now a.words.now a.reals.now a.keys.now a.events.now a.vertex.now) (entry_buffers a.triangle_words.now a.entry_words.now)
    (cut_buffers a.pts.now a.out.now a.keep.now a.next.now) c.job_source-s.result c.job_source-s.ensures c.insert_count-count.result c.insert_count-count.ensures
    (slices l.edge_words l.words l.reals l.keys l.events l.vertex) (entry_buffers l.triangle_words l.entry_words) (cut_buffers l.pts l.out l.keep l.next) l.now l.i l.invariant c.loop-i-test.true
    (slices r.new.edge_words r.new.words r.new.reals r.new.keys r.new.events r.new.vertex) (entry_buffers r.new.triangle_words r.new.entry_words) c.in_err-now.field-0.0 c.in_err-now.ensures)

pub loop-i-preserved : goal.loop-i-preserved
loop-i-preserved c =
    let a = c.args in
    let l = c.loop-i in
    let r = c.insert_number in
    let k = (insertion_slices a.vertices.now a.vertex_words.now a.edge_reals.now a.triangle_reals.now a.round.now a.kinds.now a.faces.now a.coords.now a.piece_words.now a.piece_reals.now) in
    source_next a.limit k a.pieces c.requires.1.1.0 a.j c.requires.1.1.1 a.counts (slices a.edge_words.now a.words.now a.reals.now a.keys.now a.events.now a.vertex.now) (entry_buffers a.triangle_words.now a.entry_words.now)
    (cut_buffers a.pts.now a.out.now a.keep.now a.next.now) c.job_source-s.result c.job_source-s.ensures c.insert_count-count.result c.insert_count-count.ensures
    (slices l.edge_words l.words l.reals l.keys l.events l.vertex) (entry_buffers l.triangle_words l.entry_words) (cut_buffers l.pts l.out l.keep l.next) l.now l.i l.invariant c.loop-i-test.true
    (slices r.new.edge_words r.new.words r.new.reals r.new.keys r.new.events r.new.vertex) (entry_buffers r.new.triangle_words r.new.entry_words) c.in_ok-now.now
    (cut_buffers r.new.pts r.new.out r.new.keep r.new.next)
    (record {
      trim = record {
        edges = r.auto.edge_words;
        words = r.auto.words;
        reals = r.auto.reals;
        keys = r.auto.keys;
        events = r.auto.events;
        vertex = r.auto.vertex;
        pts = r.auto.pts;
        out = r.auto.out;
        keep = r.auto.keep;
        next = r.auto.next;
      };
      triangles = r.auto.triangle_words;
      entries = r.auto.entry_words;
    }) c.in_ok-now.ensures

pub shape_of-edge_words : goal.shape_of-edge_words
shape_of-edge_words c = c.loop-i.invariant.same.trim.edges

pub shape_of-words : goal.shape_of-words
shape_of-words c = c.loop-i.invariant.same.trim.words

pub shape_of-reals : goal.shape_of-reals
shape_of-reals c = c.loop-i.invariant.same.trim.reals

pub shape_of-keys : goal.shape_of-keys
shape_of-keys c = c.loop-i.invariant.same.trim.keys

pub shape_of-events : goal.shape_of-events
shape_of-events c = c.loop-i.invariant.same.trim.events

pub shape_of-vertex : goal.shape_of-vertex
shape_of-vertex c = c.loop-i.invariant.same.trim.vertex

pub shape_of-pts : goal.shape_of-pts
shape_of-pts c = c.loop-i.invariant.same.trim.pts

pub shape_of-out : goal.shape_of-out
shape_of-out c = c.loop-i.invariant.same.trim.out

pub shape_of-keep : goal.shape_of-keep
shape_of-keep c = c.loop-i.invariant.same.trim.keep

pub shape_of-next : goal.shape_of-next
shape_of-next c = c.loop-i.invariant.same.trim.next

pub shape_of-triangle_words : goal.shape_of-triangle_words
shape_of-triangle_words c = c.loop-i.invariant.same.triangles

pub shape_of-entry_words : goal.shape_of-entry_words
shape_of-entry_words c = c.loop-i.invariant.same.entries

pub returns : goal.returns
returns c =
    let a = c.args in
    let l = c.loop-i in
    let k = (insertion_slices a.vertices.now a.vertex_words.now a.edge_reals.now a.triangle_reals.now a.round.now a.kinds.now a.faces.now a.coords.now a.piece_words.now a.piece_reals.now) in
    source_over a.limit k a.pieces c.requires.1.1.0 a.j c.requires.1.1.1 a.counts (slices a.edge_words.now a.words.now a.reals.now a.keys.now a.events.now a.vertex.now) (entry_buffers a.triangle_words.now a.entry_words.now)
    (cut_buffers a.pts.now a.out.now a.keep.now a.next.now) c.job_source-s.result c.job_source-s.ensures c.insert_count-count.result c.insert_count-count.ensures
    (slices l.edge_words l.words l.reals l.keys l.events l.vertex) (entry_buffers l.triangle_words l.entry_words) (cut_buffers l.pts l.out l.keep l.next) l.now l.i l.invariant (omega (arith, c.loop-i-test.false))
