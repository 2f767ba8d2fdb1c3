-- `field_c::sirmolaat_compute` meets its contract. Assumes nothing.
use Rattle.field_c.proofs.sirmolaat_compute.Goals as goal

pub shape_of-vertex_words : goal.shape_of-vertex_words
shape_of-vertex_words c = c.compute-computed.auto.vertex_words

pub shape_of-edge_words : goal.shape_of-edge_words
shape_of-edge_words c = c.compute-computed.auto.edge_words

pub shape_of-edge_reals : goal.shape_of-edge_reals
shape_of-edge_reals c = c.compute-computed.auto.edge_reals

pub shape_of-round : goal.shape_of-round
shape_of-round c = c.compute-computed.auto.round

pub shape_of-triangle_words : goal.shape_of-triangle_words
shape_of-triangle_words c = c.compute-computed.auto.triangle_words

pub shape_of-triangle_reals : goal.shape_of-triangle_reals
shape_of-triangle_reals c = c.compute-computed.auto.triangle_reals

pub shape_of-piece_words : goal.shape_of-piece_words
shape_of-piece_words c = c.compute-computed.auto.piece_words

pub shape_of-piece_reals : goal.shape_of-piece_reals
shape_of-piece_reals c = c.compute-computed.auto.piece_reals

pub shape_of-vertex : goal.shape_of-vertex
shape_of-vertex c = c.compute-computed.auto.vertex

pub shape_of-words : goal.shape_of-words
shape_of-words c = c.compute-computed.auto.words

pub shape_of-reals : goal.shape_of-reals
shape_of-reals c = c.compute-computed.auto.reals

pub shape_of-keys : goal.shape_of-keys
shape_of-keys c = c.compute-computed.auto.keys

pub shape_of-events : goal.shape_of-events
shape_of-events c = c.compute-computed.auto.events

pub shape_of-entry_words : goal.shape_of-entry_words
shape_of-entry_words c = c.compute-computed.auto.entry_words

pub shape_of-pts : goal.shape_of-pts
shape_of-pts c = c.compute-computed.auto.pts

pub shape_of-out : goal.shape_of-out
shape_of-out c = c.compute-computed.auto.out

pub shape_of-keep : goal.shape_of-keep
shape_of-keep c = c.compute-computed.auto.keep

pub shape_of-next : goal.shape_of-next
shape_of-next c = c.compute-computed.auto.next

pub shape_of-scratch : goal.shape_of-scratch
shape_of-scratch c = c.compute-computed.auto.scratch

pub shape_of-other_scratch : goal.shape_of-other_scratch
shape_of-other_scratch c = c.compute-computed.auto.other_scratch

pub returns : goal.returns
returns c = record {
  answer = c.compute-computed.result;
  computes = c.compute-computed.ensures;
  tells = c.tell.ensures;
}
