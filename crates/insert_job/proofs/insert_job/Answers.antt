-- `insert_job::insert_job` meets its contract. Assumes nothing.
use mathlib.Core.Path.{◌∙◌, refl, sym}
use native.Mathlib.Omega.{arith}
use Rattle.std.proofs.lemmas.Result.{err_from_is_err_and}
use Rattle.std.specs.declared.result.Result.TheVariants.{Ok, Err}
use Rattle.insert_sources.specs.of_cut_lists.Buffers.{cut_buffers}
use Rattle.insert_sources.specs.of_trim.Buffers.{slices}
use Rattle.insert_sources.specs.of_mesh.Topology.{mesh_buffers}
use Rattle.insert_sources.specs.of_face_entries.Buffers.{entry_buffers}
use Rattle.begin.specs.Begin.{work_slices}
use Rattle.insert_job.proofs.Answers.{says_wedge, says_answer}
use Rattle.insert_job.proofs.insert_job.Goals as goal

pub overflow_cast-n : goal.overflow_cast-n
overflow_cast-n c = omega (arith, c.requires.0)

pub begin_buffers-requires : goal.begin_buffers-requires
begin_buffers-requires c = let start = c in (start.requires.1.0, start.requires.1.1.0)

pub any_wedge-requires : goal.any_wedge-requires
any_wedge-requires c = c.requires.1.0

pub shape_of-piece_words-then-any_wedge : goal.shape_of-piece_words-then-any_wedge
shape_of-piece_words-then-any_wedge c = c.begin_buffers.auto.piece_words

pub shape_of-piece_reals-then-any_wedge : goal.shape_of-piece_reals-then-any_wedge
shape_of-piece_reals-then-any_wedge c = c.begin_buffers.auto.piece_reals

pub shape_of-vertex-then-any_wedge : goal.shape_of-vertex-then-any_wedge
shape_of-vertex-then-any_wedge c = c.begin_buffers.auto.vertex

pub shape_of-words-then-any_wedge : goal.shape_of-words-then-any_wedge
shape_of-words-then-any_wedge c = c.begin_buffers.auto.words

pub shape_of-reals-then-any_wedge : goal.shape_of-reals-then-any_wedge
shape_of-reals-then-any_wedge c = c.begin_buffers.auto.reals

pub shape_of-keys-then-any_wedge : goal.shape_of-keys-then-any_wedge
shape_of-keys-then-any_wedge c = c.begin_buffers.auto.keys

pub shape_of-events-then-any_wedge : goal.shape_of-events-then-any_wedge
shape_of-events-then-any_wedge c = c.begin_buffers.auto.events

pub shape_of-entry_words-then-any_wedge : goal.shape_of-entry_words-then-any_wedge
shape_of-entry_words-then-any_wedge c = c.begin_buffers.auto.entry_words

pub returns-then-any_wedge : goal.returns-then-any_wedge
returns-then-any_wedge c =
    let a = c.args in
    let first = c.begin_buffers in
    says_wedge a.vertices.now a.triangles.now a.kinds.now a.faces.now a.coords.now a.limit
    (mesh_buffers a.vertex_words.now a.edge_words.now a.edge_reals.now a.round.now a.triangle_words.now a.triangle_reals.now)
    (work_slices a.piece_words.now a.piece_reals.now a.vertex.now a.words.now a.reals.now a.keys.now a.events.now a.entry_words.now)
    (cut_buffers a.pts.now a.out.now a.keep.now a.next.now)
    (work_slices first.new.piece_words first.new.piece_reals first.new.vertex first.new.words first.new.reals first.new.keys
    first.new.events first.new.entry_words)
    first.ensures
    (slices a.edge_words.now first.new.words first.new.reals first.new.keys first.new.events first.new.vertex)
    (entry_buffers a.triangle_words.now first.new.entry_words) (sym c.any_wedge.ensures ∙ c.if-any_wedge.true)

pub insert_all-requires : goal.insert_all-requires
insert_all-requires c =
    (omega arith, (c.requires.1.1.1, c.requires.1.0))

pub shape_of-edge_words-in_err-inserted : goal.shape_of-edge_words-in_err-inserted
shape_of-edge_words-in_err-inserted c = c.insert_all.auto.edge_words

pub shape_of-triangle_words-in_err-inserted : goal.shape_of-triangle_words-in_err-inserted
shape_of-triangle_words-in_err-inserted c = c.insert_all.auto.triangle_words

pub shape_of-piece_words-in_err-inserted : goal.shape_of-piece_words-in_err-inserted
shape_of-piece_words-in_err-inserted c = c.begin_buffers.auto.piece_words

pub shape_of-piece_reals-in_err-inserted : goal.shape_of-piece_reals-in_err-inserted
shape_of-piece_reals-in_err-inserted c = c.begin_buffers.auto.piece_reals

pub shape_of-vertex-in_err-inserted : goal.shape_of-vertex-in_err-inserted
shape_of-vertex-in_err-inserted c =
    c.insert_all.auto.vertex ∙ c.begin_buffers.auto.vertex

pub shape_of-words-in_err-inserted : goal.shape_of-words-in_err-inserted
shape_of-words-in_err-inserted c =
    c.insert_all.auto.words ∙ c.begin_buffers.auto.words

pub shape_of-reals-in_err-inserted : goal.shape_of-reals-in_err-inserted
shape_of-reals-in_err-inserted c =
    c.insert_all.auto.reals ∙ c.begin_buffers.auto.reals

pub shape_of-keys-in_err-inserted : goal.shape_of-keys-in_err-inserted
shape_of-keys-in_err-inserted c =
    c.insert_all.auto.keys ∙ c.begin_buffers.auto.keys

pub shape_of-events-in_err-inserted : goal.shape_of-events-in_err-inserted
shape_of-events-in_err-inserted c =
    c.insert_all.auto.events ∙ c.begin_buffers.auto.events

pub shape_of-entry_words-in_err-inserted : goal.shape_of-entry_words-in_err-inserted
shape_of-entry_words-in_err-inserted c =
    c.insert_all.auto.entry_words ∙ c.begin_buffers.auto.entry_words

pub shape_of-pts-in_err-inserted : goal.shape_of-pts-in_err-inserted
shape_of-pts-in_err-inserted c = c.insert_all.auto.pts

pub shape_of-out-in_err-inserted : goal.shape_of-out-in_err-inserted
shape_of-out-in_err-inserted c = c.insert_all.auto.out

pub shape_of-keep-in_err-inserted : goal.shape_of-keep-in_err-inserted
shape_of-keep-in_err-inserted c = c.insert_all.auto.keep

pub shape_of-next-in_err-inserted : goal.shape_of-next-in_err-inserted
shape_of-next-in_err-inserted c = c.insert_all.auto.next

pub returns-in_err-inserted : goal.returns-in_err-inserted
returns-in_err-inserted c =
    let a = c.args in
    let first = c.begin_buffers in
    let all = c.insert_all in
    let p = err_from_is_err_and c.from_residual.result c.from_residual.ensures.1 in
    rw (p.1, p.2) (says_answer a.vertices.now a.triangles.now a.kinds.now a.faces.now a.coords.now a.limit
    (mesh_buffers a.vertex_words.now a.edge_words.now a.edge_reals.now a.round.now a.triangle_words.now a.triangle_reals.now)
    (work_slices a.piece_words.now a.piece_reals.now a.vertex.now a.words.now a.reals.now a.keys.now a.events.now a.entry_words.now)
    (cut_buffers a.pts.now a.out.now a.keep.now a.next.now)
    (work_slices first.new.piece_words first.new.piece_reals first.new.vertex first.new.words first.new.reals first.new.keys
    first.new.events first.new.entry_words)
    first.ensures
    (slices all.new.edge_words all.new.words all.new.reals all.new.keys all.new.events all.new.vertex)
    (entry_buffers all.new.triangle_words all.new.entry_words)
    (Err c.in_err-inserted.field-0.0) _ refl (sym c.any_wedge.ensures ∙ c.if-any_wedge.false) c.in_err-inserted.ensures)

pub shape_of-edge_words : goal.shape_of-edge_words
shape_of-edge_words c = c.insert_all.auto.edge_words

pub shape_of-triangle_words : goal.shape_of-triangle_words
shape_of-triangle_words c = c.insert_all.auto.triangle_words

pub shape_of-piece_words : goal.shape_of-piece_words
shape_of-piece_words c = c.begin_buffers.auto.piece_words

pub shape_of-piece_reals : goal.shape_of-piece_reals
shape_of-piece_reals c = c.begin_buffers.auto.piece_reals

pub shape_of-vertex : goal.shape_of-vertex
shape_of-vertex c =
    c.insert_all.auto.vertex ∙ c.begin_buffers.auto.vertex

pub shape_of-words : goal.shape_of-words
shape_of-words c =
    c.insert_all.auto.words ∙ c.begin_buffers.auto.words

pub shape_of-reals : goal.shape_of-reals
shape_of-reals c =
    c.insert_all.auto.reals ∙ c.begin_buffers.auto.reals

pub shape_of-keys : goal.shape_of-keys
shape_of-keys c =
    c.insert_all.auto.keys ∙ c.begin_buffers.auto.keys

pub shape_of-events : goal.shape_of-events
shape_of-events c =
    c.insert_all.auto.events ∙ c.begin_buffers.auto.events

pub shape_of-entry_words : goal.shape_of-entry_words
shape_of-entry_words c =
    c.insert_all.auto.entry_words ∙ c.begin_buffers.auto.entry_words

pub shape_of-pts : goal.shape_of-pts
shape_of-pts c = c.insert_all.auto.pts

pub shape_of-out : goal.shape_of-out
shape_of-out c = c.insert_all.auto.out

pub shape_of-keep : goal.shape_of-keep
shape_of-keep c = c.insert_all.auto.keep

pub shape_of-next : goal.shape_of-next
shape_of-next c = c.insert_all.auto.next

pub returns : goal.returns
returns c =
    let a = c.args in
    let first = c.begin_buffers in
    let all = c.insert_all in
    says_answer a.vertices.now a.triangles.now a.kinds.now a.faces.now a.coords.now a.limit
    (mesh_buffers a.vertex_words.now a.edge_words.now a.edge_reals.now a.round.now a.triangle_words.now a.triangle_reals.now)
    (work_slices a.piece_words.now a.piece_reals.now a.vertex.now a.words.now a.reals.now a.keys.now a.events.now a.entry_words.now)
    (cut_buffers a.pts.now a.out.now a.keep.now a.next.now)
    (work_slices first.new.piece_words first.new.piece_reals first.new.vertex first.new.words first.new.reals first.new.keys
    first.new.events first.new.entry_words)
    first.ensures
    (slices all.new.edge_words all.new.words all.new.reals all.new.keys all.new.events all.new.vertex)
    (entry_buffers all.new.triangle_words all.new.entry_words)
    (Ok c.in_ok-inserted.inserted) _ refl (sym c.any_wedge.ensures ∙ c.if-any_wedge.false) c.in_ok-inserted.ensures
