-- `offers::add_to` meets its contract. Assumes nothing.
use Rattle.trim.specs.of_cut_lists.Buffers.{cut_buffers}
use Rattle.trim.specs.Buffers.{slices}
use Rattle.offers.proofs.Calls.{ready_read, adds_read}
use Rattle.offers.proofs.add_to.Goals as goal

pub add-requires : goal.add-requires
add-requires c =
    let a = c.args in
    (ready_read a.edge_words.now a.words.now a.reals.now a.edge_words.now a.edge_reals.now a.e.0 a.counts.made c.edge-edge.result c.edge-edge.ensures c.requires.0, c.requires.1)

pub shape_of-edge_words : goal.shape_of-edge_words
shape_of-edge_words c =
    c.add.auto.edges

pub shape_of-words : goal.shape_of-words
shape_of-words c =
    c.add.auto.words

pub shape_of-reals : goal.shape_of-reals
shape_of-reals c =
    c.add.auto.reals

pub shape_of-keys : goal.shape_of-keys
shape_of-keys c =
    c.add.auto.keys

pub shape_of-events : goal.shape_of-events
shape_of-events c =
    c.add.auto.events

pub shape_of-vertex : goal.shape_of-vertex
shape_of-vertex c =
    c.add.auto.vertex

pub shape_of-pts : goal.shape_of-pts
shape_of-pts c =
    c.add.auto.pts

pub shape_of-out : goal.shape_of-out
shape_of-out c =
    c.add.auto.out

pub shape_of-keep : goal.shape_of-keep
shape_of-keep c =
    c.add.auto.keep

pub shape_of-next : goal.shape_of-next
shape_of-next c =
    c.add.auto.next

pub returns : goal.returns
returns c =
    let a = c.args in
    let r = c.add in
    adds_read a.limit a.vertex_words.now a.edge_words.now a.edge_reals.now a.e.0 c.edge-edge.result c.edge-edge.ensures a.w a.counts
    (slices a.edge_words.now a.words.now a.reals.now a.keys.now a.events.now a.vertex.now) (cut_buffers a.pts.now a.out.now a.keep.now a.next.now) r.result
    (slices r.new.edges r.new.words r.new.reals r.new.keys r.new.events r.new.vertex)
    (cut_buffers r.new.pts r.new.out r.new.keep r.new.next) r.ensures
