-- `insertion::offer` meets its contract. Assumes nothing.
use Rattle.std.proofs.lemmas.Result.{err_from_is_err_and}
use Rattle.source_inserts.specs.of_cut_lists.Buffers.{cut_buffers}
use Rattle.source_inserts.specs.of_trim.Buffers.{slices}
use Rattle.insertion.proofs.Calls.{offered_stopped, offered_went}
use Rattle.insertion.proofs.offer.Goals as goal

pub shape_of-edge_words-in_err-trim : goal.shape_of-edge_words-in_err-trim
shape_of-edge_words-in_err-trim c =
    c.offer.auto.edge_words

pub shape_of-words-in_err-trim : goal.shape_of-words-in_err-trim
shape_of-words-in_err-trim c =
    c.offer.auto.words

pub shape_of-reals-in_err-trim : goal.shape_of-reals-in_err-trim
shape_of-reals-in_err-trim c =
    c.offer.auto.reals

pub shape_of-keys-in_err-trim : goal.shape_of-keys-in_err-trim
shape_of-keys-in_err-trim c =
    c.offer.auto.keys

pub shape_of-events-in_err-trim : goal.shape_of-events-in_err-trim
shape_of-events-in_err-trim c =
    c.offer.auto.events

pub shape_of-vertex-in_err-trim : goal.shape_of-vertex-in_err-trim
shape_of-vertex-in_err-trim c =
    c.offer.auto.vertex

pub shape_of-pts-in_err-trim : goal.shape_of-pts-in_err-trim
shape_of-pts-in_err-trim c =
    c.offer.auto.pts

pub shape_of-out-in_err-trim : goal.shape_of-out-in_err-trim
shape_of-out-in_err-trim c =
    c.offer.auto.out

pub shape_of-keep-in_err-trim : goal.shape_of-keep-in_err-trim
shape_of-keep-in_err-trim c =
    c.offer.auto.keep

pub shape_of-next-in_err-trim : goal.shape_of-next-in_err-trim
shape_of-next-in_err-trim c =
    c.offer.auto.next

pub returns-in_err-trim : goal.returns-in_err-trim
returns-in_err-trim c =
    let a = c.args in
    let r = c.offer in
    let p = err_from_is_err_and c.from_residual.result c.from_residual.ensures.1 in
    rw (p.1, p.2) (offered_stopped a.limit a.vertex_words.now a.edge_reals.now a.o a.counts (slices a.edge_words.now a.words.now a.reals.now a.keys.now a.events.now a.vertex.now)
    (cut_buffers a.pts.now a.out.now a.keep.now a.next.now) r.result
    (slices r.new.edge_words r.new.words r.new.reals r.new.keys r.new.events r.new.vertex) (cut_buffers r.new.pts r.new.out r.new.keep r.new.next) r.ensures c.in_err-trim.field-0.0 c.in_err-trim.was)

pub shape_of-edge_words : goal.shape_of-edge_words
shape_of-edge_words c =
    c.offer.auto.edge_words

pub shape_of-words : goal.shape_of-words
shape_of-words c =
    c.offer.auto.words

pub shape_of-reals : goal.shape_of-reals
shape_of-reals c =
    c.offer.auto.reals

pub shape_of-keys : goal.shape_of-keys
shape_of-keys c =
    c.offer.auto.keys

pub shape_of-events : goal.shape_of-events
shape_of-events c =
    c.offer.auto.events

pub shape_of-vertex : goal.shape_of-vertex
shape_of-vertex c =
    c.offer.auto.vertex

pub shape_of-pts : goal.shape_of-pts
shape_of-pts c =
    c.offer.auto.pts

pub shape_of-out : goal.shape_of-out
shape_of-out c =
    c.offer.auto.out

pub shape_of-keep : goal.shape_of-keep
shape_of-keep c =
    c.offer.auto.keep

pub shape_of-next : goal.shape_of-next
shape_of-next c =
    c.offer.auto.next

pub returns : goal.returns
returns c =
    let a = c.args in
    let r = c.offer in
    offered_went a.limit a.vertex_words.now a.edge_reals.now a.o a.counts (slices a.edge_words.now a.words.now a.reals.now a.keys.now a.events.now a.vertex.now)
    (cut_buffers a.pts.now a.out.now a.keep.now a.next.now) r.result
    (slices r.new.edge_words r.new.words r.new.reals r.new.keys r.new.events r.new.vertex) (cut_buffers r.new.pts r.new.out r.new.keep r.new.next) r.ensures c.in_ok-trim.trim c.in_ok-trim.was
