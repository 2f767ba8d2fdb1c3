-- `insert_sources::insert_number` meets its contract. Assumes nothing.
use Rattle.insertion.specs.of_cut_lists.Buffers.{cut_buffers}
use Rattle.insertion.specs.of_trim.Buffers.{slices}
use Rattle.insertion.specs.of_face_entries.Buffers.{entry_buffers}
use Rattle.insertion.proofs.Calls.{inserts_read}
use Rattle.insert_sources.proofs.insert_number.Goals as goal

pub insert-requires : goal.insert-requires
insert-requires c = c.requires

pub shape_of-edge_words : goal.shape_of-edge_words
shape_of-edge_words c =
    c.insert.auto.edge_words

pub shape_of-words : goal.shape_of-words
shape_of-words c =
    c.insert.auto.words

pub shape_of-reals : goal.shape_of-reals
shape_of-reals c =
    c.insert.auto.reals

pub shape_of-keys : goal.shape_of-keys
shape_of-keys c =
    c.insert.auto.keys

pub shape_of-events : goal.shape_of-events
shape_of-events c =
    c.insert.auto.events

pub shape_of-vertex : goal.shape_of-vertex
shape_of-vertex c =
    c.insert.auto.vertex

pub shape_of-pts : goal.shape_of-pts
shape_of-pts c =
    c.insert.auto.pts

pub shape_of-out : goal.shape_of-out
shape_of-out c =
    c.insert.auto.out

pub shape_of-keep : goal.shape_of-keep
shape_of-keep c =
    c.insert.auto.keep

pub shape_of-next : goal.shape_of-next
shape_of-next c =
    c.insert.auto.next

pub shape_of-triangle_words : goal.shape_of-triangle_words
shape_of-triangle_words c =
    c.insert.auto.triangle_words

pub shape_of-entry_words : goal.shape_of-entry_words
shape_of-entry_words c =
    c.insert.auto.entry_words

pub returns : goal.returns
returns c =
    let read = c.insert_at-x in
    let a = c.args in
    let r = c.insert in
    inserts_read a.limit a.vertex_words.now a.edge_reals.now read.result _ read.ensures a.counts
    (slices a.edge_words.now a.words.now a.reals.now a.keys.now a.events.now a.vertex.now) (entry_buffers a.triangle_words.now a.entry_words.now)
    (cut_buffers a.pts.now a.out.now a.keep.now a.next.now) r.result
    (slices r.new.edge_words r.new.words r.new.reals r.new.keys r.new.events r.new.vertex) (entry_buffers r.new.triangle_words r.new.entry_words) r.ensures
