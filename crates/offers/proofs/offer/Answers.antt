-- `offers::offer` meets its contract. Assumes nothing.
use native.Mathlib.Omega.{arith}
use Rattle.trim.specs.of_cut_lists.Buffers.{cut_buffers}
use Rattle.trim.specs.Buffers.{slices}
use Rattle.offers.proofs.Calls.{offer_nothing, offer_missing, offer_added}
use Rattle.offers.proofs.offer.Goals as goal

pub returns-then-slots-e : goal.returns-then-slots-e
returns-then-slots-e c =
    let a = c.args in
    offer_missing a.limit a.vertex_words.now a.edge_reals.now a.counts (slices a.edge_words.now a.words.now a.reals.now a.keys.now a.events.now a.vertex.now) (cut_buffers a.pts.now a.out.now a.keep.now a.next.now) a.o c.in-Some.offered c.in-Some.is
    (omega (arith, c.if-slots-e.true, c.slots.ensures)) c.requires.0

pub add_to-requires : goal.add_to-requires
add_to-requires c =
    (record { fits = c.requires.0; linked = omega arith; edge = omega (arith, c.if-slots-e.false, c.slots.ensures) }, c.requires.1)

pub returns-in-None : goal.returns-in-None
returns-in-None c =
    let a = c.args in
    offer_nothing a.limit a.vertex_words.now a.edge_reals.now a.counts (slices a.edge_words.now a.words.now a.reals.now a.keys.now a.events.now a.vertex.now) (cut_buffers a.pts.now a.out.now a.keep.now a.next.now) a.o c.in-None.is c.requires.0

pub shape_of-edge_words : goal.shape_of-edge_words
shape_of-edge_words c =
    c.add_to.auto.edge_words

pub shape_of-words : goal.shape_of-words
shape_of-words c =
    c.add_to.auto.words

pub shape_of-reals : goal.shape_of-reals
shape_of-reals c =
    c.add_to.auto.reals

pub shape_of-keys : goal.shape_of-keys
shape_of-keys c =
    c.add_to.auto.keys

pub shape_of-events : goal.shape_of-events
shape_of-events c =
    c.add_to.auto.events

pub shape_of-vertex : goal.shape_of-vertex
shape_of-vertex c =
    c.add_to.auto.vertex

pub shape_of-pts : goal.shape_of-pts
shape_of-pts c =
    c.add_to.auto.pts

pub shape_of-out : goal.shape_of-out
shape_of-out c =
    c.add_to.auto.out

pub shape_of-keep : goal.shape_of-keep
shape_of-keep c =
    c.add_to.auto.keep

pub shape_of-next : goal.shape_of-next
shape_of-next c =
    c.add_to.auto.next

pub returns-else-slots-e : goal.returns-else-slots-e
returns-else-slots-e c =
    let a = c.args in
    let r = c.add_to in
    offer_added a.limit a.vertex_words.now a.edge_reals.now a.counts (slices a.edge_words.now a.words.now a.reals.now a.keys.now a.events.now a.vertex.now) (cut_buffers a.pts.now a.out.now a.keep.now a.next.now) a.o c.in-Some.offered c.in-Some.is (omega (arith, c.if-slots-e.false, c.slots.ensures)) r.result
    (slices r.new.edge_words r.new.words r.new.reals r.new.keys r.new.events r.new.vertex)
    (cut_buffers r.new.pts r.new.out r.new.keep r.new.next) r.ensures
