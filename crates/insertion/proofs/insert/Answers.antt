-- `insertion::insert` meets its contract. Assumes nothing.
use Rattle.source_inserts.specs.of_cut_lists.Buffers.{cut_buffers}
use Rattle.source_inserts.specs.of_trim.Buffers.{slices}
use Rattle.source_inserts.specs.of_face_entries.Buffers.{entry_buffers}
use Rattle.insertion.proofs.Calls.{insert_entered, insert_offered}
use Rattle.insertion.proofs.insert.Goals as goal

pub shape_of-triangle_words : goal.shape_of-triangle_words
shape_of-triangle_words c = c.enter.auto.triangle_words

pub shape_of-entry_words : goal.shape_of-entry_words
shape_of-entry_words c = c.enter.auto.entry_words

pub returns-in-Entry : goal.returns-in-Entry
returns-in-Entry c =
    let a = c.args in
    let r = c.enter in
    insert_entered a.limit a.vertex_words.now a.edge_reals.now a.x a.counts (slices a.edge_words.now a.words.now a.reals.now a.keys.now a.events.now a.vertex.now)
    (entry_buffers a.triangle_words.now a.entry_words.now) (cut_buffers a.pts.now a.out.now a.keep.now a.next.now)
    c.in-Entry.face c.in-Entry.part c.in-Entry.is c.requires.0 (entry_buffers r.new.triangle_words r.new.entry_words) r.result r.ensures

pub shape_of-edge_words : goal.shape_of-edge_words
shape_of-edge_words c =
    c.offer.auto.edge_words

pub shape_of-words : goal.shape_of-words
shape_of-words c =
    c.offer.auto.words

pub shape_of-reals : goal.shape_of-reals
shape_of-reals c =
    c.offer.auto.reals

pub shape_of-keys : goal.shape_of-keys
shape_of-keys c =
    c.offer.auto.keys

pub shape_of-events : goal.shape_of-events
shape_of-events c =
    c.offer.auto.events

pub shape_of-vertex : goal.shape_of-vertex
shape_of-vertex c =
    c.offer.auto.vertex

pub shape_of-pts : goal.shape_of-pts
shape_of-pts c =
    c.offer.auto.pts

pub shape_of-out : goal.shape_of-out
shape_of-out c =
    c.offer.auto.out

pub shape_of-keep : goal.shape_of-keep
shape_of-keep c =
    c.offer.auto.keep

pub shape_of-next : goal.shape_of-next
shape_of-next c =
    c.offer.auto.next

pub returns-in-Offer : goal.returns-in-Offer
returns-in-Offer c =
    let a = c.args in
    let r = c.offer in
    insert_offered a.limit a.vertex_words.now a.edge_reals.now a.x a.counts (slices a.edge_words.now a.words.now a.reals.now a.keys.now a.events.now a.vertex.now)
    (entry_buffers a.triangle_words.now a.entry_words.now) (cut_buffers a.pts.now a.out.now a.keep.now a.next.now)
    c.in-Offer.o c.in-Offer.is (slices r.new.edge_words r.new.words r.new.reals r.new.keys r.new.events r.new.vertex) (cut_buffers r.new.pts r.new.out r.new.keep r.new.next) r.result r.ensures
