-- `insert_sources::insert_all` meets its contract. Assumes nothing.
use Prim.Native.Nat.{◌*◌, ◌<◌}
use native.Mathlib.Omega.{arith}
use mathlib.Core.Path.{◌∙◌, refl}
use lib.ListN.{length}
use Rattle.std.proofs.lemmas.Result.{err_from_is_err_and}
use Rattle.insertion.specs.of_cut_lists.Buffers.{cut_buffers}
use Rattle.insertion.specs.of_trim.Buffers.{slices}
use Rattle.insertion.specs.of_face_entries.Buffers.{entry_buffers}
use Rattle.insert_sources.specs.Job.{insertion_slices}
use Rattle.insert_sources.proofs.Loop.{insert_start, insert_fits, insert_sizes}
use Rattle.insert_sources.proofs.Sources.{source_of, job_over, job_stopped, job_next}
use Rattle.insert_sources.proofs.insert_all.Goals as goal

pub overflow_cast-pieces : goal.overflow_cast-pieces
overflow_cast-pieces c = omega (arith, c.requires.1.1)

pub overflow_mul-sources : goal.overflow_mul-sources
overflow_mul-sources c = omega (arith, c.requires.1.1)

pub loop-j-init : goal.loop-j-init
loop-j-init c =
    let a = c.args in
    let k = (insertion_slices a.vertices.now a.vertex_words.now a.edge_reals.now a.triangle_reals.now a.round.now a.kinds.now a.faces.now a.coords.now a.piece_words.now a.piece_reals.now) in
    insert_start a.limit k
    (source_of a.limit k a.counts (slices a.edge_words.now a.words.now a.reals.now a.keys.now a.events.now a.vertex.now) (entry_buffers a.triangle_words.now a.entry_words.now) (cut_buffers a.pts.now a.out.now a.keep.now a.next.now))
    a.counts (slices a.edge_words.now a.words.now a.reals.now a.keys.now a.events.now a.vertex.now) (entry_buffers a.triangle_words.now a.entry_words.now)
    (cut_buffers a.pts.now a.out.now a.keep.now a.next.now) (3 * length a.kinds.now) c.requires.0

pub insert_source-requires : goal.insert_source-requires
insert_source-requires c =
    let a = c.args in
    let l = c.loop-j in
    let k = (insertion_slices a.vertices.now a.vertex_words.now a.edge_reals.now a.triangle_reals.now a.round.now a.kinds.now a.faces.now a.coords.now a.piece_words.now a.piece_reals.now) in
    let q : l.j < 3 * length a.kinds.now = omega (arith, c.loop-j-test.true) in (
      insert_fits a.limit k
          (source_of a.limit k a.counts (slices a.edge_words.now a.words.now a.reals.now a.keys.now a.events.now a.vertex.now) (entry_buffers a.triangle_words.now a.entry_words.now) (cut_buffers a.pts.now a.out.now a.keep.now a.next.now))
          a.counts (slices a.edge_words.now a.words.now a.reals.now a.keys.now a.events.now a.vertex.now) (entry_buffers a.triangle_words.now a.entry_words.now)
          (cut_buffers a.pts.now a.out.now a.keep.now a.next.now) (3 * length a.kinds.now) (slices l.edge_words l.words l.reals l.keys l.events l.vertex) (entry_buffers l.triangle_words l.entry_words) (cut_buffers l.pts l.out l.keep l.next) l.now l.j l.invariant q,
      (
        insert_sizes a.limit k
            (source_of a.limit k a.counts (slices a.edge_words.now a.words.now a.reals.now a.keys.now a.events.now a.vertex.now) (entry_buffers a.triangle_words.now a.entry_words.now) (cut_buffers a.pts.now a.out.now a.keep.now a.next.now))
            a.counts (slices a.edge_words.now a.words.now a.reals.now a.keys.now a.events.now a.vertex.now) (entry_buffers a.triangle_words.now a.entry_words.now)
            (cut_buffers a.pts.now a.out.now a.keep.now a.next.now) (3 * length a.kinds.now) (slices l.edge_words l.words l.reals l.keys l.events l.vertex) (entry_buffers l.triangle_words l.entry_words) (cut_buffers l.pts l.out l.keep l.next) l.now l.j l.invariant q
            c.requires.1.0,
        (refl, q),
      ),
    )

pub shape_of-edge_words-in_err-now : goal.shape_of-edge_words-in_err-now
shape_of-edge_words-in_err-now c =
    c.insert_source.auto.edge_words ∙ c.loop-j.invariant.same.trim.edges

pub shape_of-words-in_err-now : goal.shape_of-words-in_err-now
shape_of-words-in_err-now c =
    c.insert_source.auto.words ∙ c.loop-j.invariant.same.trim.words

pub shape_of-reals-in_err-now : goal.shape_of-reals-in_err-now
shape_of-reals-in_err-now c =
    c.insert_source.auto.reals ∙ c.loop-j.invariant.same.trim.reals

pub shape_of-keys-in_err-now : goal.shape_of-keys-in_err-now
shape_of-keys-in_err-now c =
    c.insert_source.auto.keys ∙ c.loop-j.invariant.same.trim.keys

pub shape_of-events-in_err-now : goal.shape_of-events-in_err-now
shape_of-events-in_err-now c =
    c.insert_source.auto.events ∙ c.loop-j.invariant.same.trim.events

pub shape_of-vertex-in_err-now : goal.shape_of-vertex-in_err-now
shape_of-vertex-in_err-now c =
    c.insert_source.auto.vertex ∙ c.loop-j.invariant.same.trim.vertex

pub shape_of-pts-in_err-now : goal.shape_of-pts-in_err-now
shape_of-pts-in_err-now c =
    c.insert_source.auto.pts ∙ c.loop-j.invariant.same.trim.pts

pub shape_of-out-in_err-now : goal.shape_of-out-in_err-now
shape_of-out-in_err-now c =
    c.insert_source.auto.out ∙ c.loop-j.invariant.same.trim.out

pub shape_of-keep-in_err-now : goal.shape_of-keep-in_err-now
shape_of-keep-in_err-now c =
    c.insert_source.auto.keep ∙ c.loop-j.invariant.same.trim.keep

pub shape_of-next-in_err-now : goal.shape_of-next-in_err-now
shape_of-next-in_err-now c =
    c.insert_source.auto.next ∙ c.loop-j.invariant.same.trim.next

pub shape_of-triangle_words-in_err-now : goal.shape_of-triangle_words-in_err-now
shape_of-triangle_words-in_err-now c =
    c.insert_source.auto.triangle_words ∙ c.loop-j.invariant.same.triangles

pub shape_of-entry_words-in_err-now : goal.shape_of-entry_words-in_err-now
shape_of-entry_words-in_err-now c =
    c.insert_source.auto.entry_words ∙ c.loop-j.invariant.same.entries

pub returns-in_err-now : goal.returns-in_err-now
returns-in_err-now c =
    let a = c.args in
    let l = c.loop-j in
    let r = c.insert_source in
    let k = (insertion_slices a.vertices.now a.vertex_words.now a.edge_reals.now a.triangle_reals.now a.round.now a.kinds.now a.faces.now a.coords.now a.piece_words.now a.piece_reals.now) in
    let q : l.j < 3 * length a.kinds.now = omega (arith, c.loop-j-test.true) in
    let p = err_from_is_err_and c.from_residual.result c.from_residual.ensures.1 in
    rw (p.1, p.2) (job_stopped a.limit k a.counts (slices a.edge_words.now a.words.now a.reals.now a.keys.now a.events.now a.vertex.now) (entry_buffers a.triangle_words.now a.entry_words.now)
    (cut_buffers a.pts.now a.out.now a.keep.now a.next.now)
    (slices l.edge_words l.words l.reals l.keys l.events l.vertex) (entry_buffers l.triangle_words l.entry_words) (cut_buffers l.pts l.out l.keep l.next) l.now l.j l.invariant q
    (slices r.new.edge_words r.new.words r.new.reals r.new.keys r.new.events r.new.vertex) (entry_buffers r.new.triangle_words r.new.entry_words) c.in_err-now.field-0.0 c.in_err-now.ensures)

pub loop-j-preserved : goal.loop-j-preserved
loop-j-preserved c =
    let a = c.args in
    let l = c.loop-j in
    let r = c.insert_source in
    let k = (insertion_slices a.vertices.now a.vertex_words.now a.edge_reals.now a.triangle_reals.now a.round.now a.kinds.now a.faces.now a.coords.now a.piece_words.now a.piece_reals.now) in
    let q : l.j < 3 * length a.kinds.now = omega (arith, c.loop-j-test.true) in
    job_next a.limit k a.counts (slices a.edge_words.now a.words.now a.reals.now a.keys.now a.events.now a.vertex.now) (entry_buffers a.triangle_words.now a.entry_words.now)
    (cut_buffers a.pts.now a.out.now a.keep.now a.next.now)
    (slices l.edge_words l.words l.reals l.keys l.events l.vertex) (entry_buffers l.triangle_words l.entry_words) (cut_buffers l.pts l.out l.keep l.next) l.now l.j l.invariant q
    (slices r.new.edge_words r.new.words r.new.reals r.new.keys r.new.events r.new.vertex) (entry_buffers r.new.triangle_words r.new.entry_words) c.in_ok-now.now
    (cut_buffers r.new.pts r.new.out r.new.keep r.new.next)
    (record {
      trim = record {
        edges = r.auto.edge_words;
        words = r.auto.words;
        reals = r.auto.reals;
        keys = r.auto.keys;
        events = r.auto.events;
        vertex = r.auto.vertex;
        pts = r.auto.pts;
        out = r.auto.out;
        keep = r.auto.keep;
        next = r.auto.next;
      };
      triangles = r.auto.triangle_words;
      entries = r.auto.entry_words;
    }) c.in_ok-now.ensures

pub shape_of-edge_words : goal.shape_of-edge_words
shape_of-edge_words c = c.loop-j.invariant.same.trim.edges

pub shape_of-words : goal.shape_of-words
shape_of-words c = c.loop-j.invariant.same.trim.words

pub shape_of-reals : goal.shape_of-reals
shape_of-reals c = c.loop-j.invariant.same.trim.reals

pub shape_of-keys : goal.shape_of-keys
shape_of-keys c = c.loop-j.invariant.same.trim.keys

pub shape_of-events : goal.shape_of-events
shape_of-events c = c.loop-j.invariant.same.trim.events

pub shape_of-vertex : goal.shape_of-vertex
shape_of-vertex c = c.loop-j.invariant.same.trim.vertex

pub shape_of-pts : goal.shape_of-pts
shape_of-pts c = c.loop-j.invariant.same.trim.pts

pub shape_of-out : goal.shape_of-out
shape_of-out c = c.loop-j.invariant.same.trim.out

pub shape_of-keep : goal.shape_of-keep
shape_of-keep c = c.loop-j.invariant.same.trim.keep

pub shape_of-next : goal.shape_of-next
shape_of-next c = c.loop-j.invariant.same.trim.next

pub shape_of-triangle_words : goal.shape_of-triangle_words
shape_of-triangle_words c = c.loop-j.invariant.same.triangles

pub shape_of-entry_words : goal.shape_of-entry_words
shape_of-entry_words c = c.loop-j.invariant.same.entries

pub returns : goal.returns
returns c =
    let a = c.args in
    let l = c.loop-j in
    let k = (insertion_slices a.vertices.now a.vertex_words.now a.edge_reals.now a.triangle_reals.now a.round.now a.kinds.now a.faces.now a.coords.now a.piece_words.now a.piece_reals.now) in
    job_over a.limit k a.counts (slices a.edge_words.now a.words.now a.reals.now a.keys.now a.events.now a.vertex.now) (entry_buffers a.triangle_words.now a.entry_words.now)
    (cut_buffers a.pts.now a.out.now a.keep.now a.next.now)
    (slices l.edge_words l.words l.reals l.keys l.events l.vertex) (entry_buffers l.triangle_words l.entry_words) (cut_buffers l.pts l.out l.keep l.next) l.now l.j l.invariant (omega (arith, c.loop-j-test.false))
