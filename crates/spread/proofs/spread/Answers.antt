-- `spread::spread` meets its contract. Assumes nothing.
use native.Mathlib.Omega.{arith}
use mathlib.Core.Path.{refl, ◌∙◌}
use Rattle.std.proofs.lemmas.Result.{err_from_is_err_and}
use Rattle.spread_offers.specs.of_cut_lists.Buffers.{cut_buffers}
use Rattle.spread_offers.specs.of_trim.Buffers.{slices}
use Rattle.spread_offers.proofs.laws_of_offers.Walks.{sizes_same}
use Rattle.spread_offers.proofs.laws_of_offers.Loop.{loop_start, loop_fits, loop_next, loop_stopped, loop_over}
use Rattle.spread.proofs.Laws.{reads_spread, read_first}
use Rattle.spread.proofs.spread.Goals as goal

pub loop-i-init : goal.loop-i-init
loop-i-init c =
    let a = c.args in
    loop_start a.limit a.vertex_words.now (reads_spread a.vertices.now a.triangles.now a.edge_reals.now a.triangle_words.now a.triangle_reals.now a.vertex_words.now a.round.now a.s a.edge_words.now c.find_opposite-o.result) a.counts
    (slices a.edge_words.now a.words.now a.reals.now a.keys.now a.events.now a.vertex.now) (cut_buffers a.pts.now a.out.now a.keep.now a.next.now)
    c.requires.0

pub offer-requires : goal.offer-requires
offer-requires c =
    let a = c.args in
    let l = c.loop-i in (
      loop_fits a.limit a.vertex_words.now (reads_spread a.vertices.now a.triangles.now a.edge_reals.now a.triangle_words.now a.triangle_reals.now a.vertex_words.now a.round.now a.s a.edge_words.now c.find_opposite-o.result) a.counts
          (slices a.edge_words.now a.words.now a.reals.now a.keys.now a.events.now a.vertex.now) (cut_buffers a.pts.now a.out.now a.keep.now a.next.now)
          (slices l.edge_words l.words l.reals l.keys l.events l.vertex) (cut_buffers l.pts l.out l.keep l.next) l.now l.i l.invariant
          (omega (arith, c.loop-i-test.true, c.spread_count-n.ensures)),
      sizes_same (slices a.edge_words.now a.words.now a.reals.now a.keys.now a.events.now a.vertex.now) (slices l.edge_words l.words l.reals l.keys l.events l.vertex) (cut_buffers a.pts.now a.out.now a.keep.now a.next.now) (cut_buffers l.pts l.out l.keep l.next)
          l.invariant.same c.requires.1,
    )

pub shape_of-edge_words-in_err-now : goal.shape_of-edge_words-in_err-now
shape_of-edge_words-in_err-now c = let offered = c in offered.offer.auto.edge_words ∙ offered.loop-i.invariant.same.edges

pub shape_of-words-in_err-now : goal.shape_of-words-in_err-now
shape_of-words-in_err-now c = let offered = c in offered.offer.auto.words ∙ offered.loop-i.invariant.same.words

pub shape_of-reals-in_err-now : goal.shape_of-reals-in_err-now
shape_of-reals-in_err-now c = let offered = c in offered.offer.auto.reals ∙ offered.loop-i.invariant.same.reals

pub shape_of-keys-in_err-now : goal.shape_of-keys-in_err-now
shape_of-keys-in_err-now c = let offered = c in offered.offer.auto.keys ∙ offered.loop-i.invariant.same.keys

pub shape_of-events-in_err-now : goal.shape_of-events-in_err-now
shape_of-events-in_err-now c = let offered = c in offered.offer.auto.events ∙ offered.loop-i.invariant.same.events

pub shape_of-vertex-in_err-now : goal.shape_of-vertex-in_err-now
shape_of-vertex-in_err-now c = let offered = c in offered.offer.auto.vertex ∙ offered.loop-i.invariant.same.vertex

pub shape_of-pts-in_err-now : goal.shape_of-pts-in_err-now
shape_of-pts-in_err-now c = let offered = c in offered.offer.auto.pts ∙ offered.loop-i.invariant.same.pts

pub shape_of-out-in_err-now : goal.shape_of-out-in_err-now
shape_of-out-in_err-now c = let offered = c in offered.offer.auto.out ∙ offered.loop-i.invariant.same.out

pub shape_of-keep-in_err-now : goal.shape_of-keep-in_err-now
shape_of-keep-in_err-now c = let offered = c in offered.offer.auto.keep ∙ offered.loop-i.invariant.same.keep

pub shape_of-next-in_err-now : goal.shape_of-next-in_err-now
shape_of-next-in_err-now c = let offered = c in offered.offer.auto.next ∙ offered.loop-i.invariant.same.next

pub returns-in_err-now : goal.returns-in_err-now
returns-in_err-now c =
    let a = c.args in
    let l = c.loop-i in
    let r = c.offer in
    let p = err_from_is_err_and c.from_residual.result c.from_residual.ensures.1 in
    rw (p.1, p.2) (read_first a.vertices.now a.triangles.now a.edge_reals.now a.triangle_words.now a.triangle_reals.now a.vertex_words.now a.round.now a.s a.edge_words.now c.find_opposite-o.result c.find_opposite-o.ensures a.limit a.counts
    (slices a.edge_words.now a.words.now a.reals.now a.keys.now a.events.now a.vertex.now) refl (cut_buffers a.pts.now a.out.now a.keep.now a.next.now) _ _
    (loop_stopped a.limit a.vertex_words.now (reads_spread a.vertices.now a.triangles.now a.edge_reals.now a.triangle_words.now a.triangle_reals.now a.vertex_words.now a.round.now a.s a.edge_words.now c.find_opposite-o.result) a.counts
    (slices a.edge_words.now a.words.now a.reals.now a.keys.now a.events.now a.vertex.now) (cut_buffers a.pts.now a.out.now a.keep.now a.next.now)
    (slices l.edge_words l.words l.reals l.keys l.events l.vertex) (cut_buffers l.pts l.out l.keep l.next) l.now l.i l.invariant
    (omega (arith, c.loop-i-test.true, c.spread_count-n.ensures)) c.spread_offer-x.result c.spread_offer-x.ensures c.in_err-now.field-0.0 (slices r.new.edge_words r.new.words r.new.reals r.new.keys r.new.events r.new.vertex)
    (cut_buffers r.new.pts r.new.out r.new.keep r.new.next)
    c.in_err-now.ensures))

pub loop-i-preserved : goal.loop-i-preserved
loop-i-preserved c =
    let a = c.args in
    let l = c.loop-i in
    let r = c.offer in
    loop_next a.limit a.vertex_words.now (reads_spread a.vertices.now a.triangles.now a.edge_reals.now a.triangle_words.now a.triangle_reals.now a.vertex_words.now a.round.now a.s a.edge_words.now c.find_opposite-o.result) a.counts
    (slices a.edge_words.now a.words.now a.reals.now a.keys.now a.events.now a.vertex.now) (cut_buffers a.pts.now a.out.now a.keep.now a.next.now)
    (slices l.edge_words l.words l.reals l.keys l.events l.vertex) (cut_buffers l.pts l.out l.keep l.next) l.now l.i l.invariant
    (omega (arith, c.loop-i-test.true, c.spread_count-n.ensures)) c.spread_offer-x.result c.spread_offer-x.ensures c.in_ok-now.now (slices r.new.edge_words r.new.words r.new.reals r.new.keys r.new.events r.new.vertex)
    (cut_buffers r.new.pts r.new.out r.new.keep r.new.next)
    (record { edges = r.auto.edge_words; words = r.auto.words; reals = r.auto.reals; keys = r.auto.keys; events = r.auto.events; vertex = r.auto.vertex; pts = r.auto.pts; out = r.auto.out; keep = r.auto.keep; next = r.auto.next })
    c.in_ok-now.ensures

pub shape_of-edge_words : goal.shape_of-edge_words
shape_of-edge_words c = c.loop-i.invariant.same.edges

pub shape_of-words : goal.shape_of-words
shape_of-words c = c.loop-i.invariant.same.words

pub shape_of-reals : goal.shape_of-reals
shape_of-reals c = c.loop-i.invariant.same.reals

pub shape_of-keys : goal.shape_of-keys
shape_of-keys c = c.loop-i.invariant.same.keys

pub shape_of-events : goal.shape_of-events
shape_of-events c = c.loop-i.invariant.same.events

pub shape_of-vertex : goal.shape_of-vertex
shape_of-vertex c = c.loop-i.invariant.same.vertex

pub shape_of-pts : goal.shape_of-pts
shape_of-pts c = c.loop-i.invariant.same.pts

pub shape_of-out : goal.shape_of-out
shape_of-out c = c.loop-i.invariant.same.out

pub shape_of-keep : goal.shape_of-keep
shape_of-keep c = c.loop-i.invariant.same.keep

pub shape_of-next : goal.shape_of-next
shape_of-next c = c.loop-i.invariant.same.next

pub returns : goal.returns
returns c =
    let a = c.args in
    let l = c.loop-i in
    read_first a.vertices.now a.triangles.now a.edge_reals.now a.triangle_words.now a.triangle_reals.now a.vertex_words.now a.round.now a.s a.edge_words.now c.find_opposite-o.result c.find_opposite-o.ensures a.limit a.counts
    (slices a.edge_words.now a.words.now a.reals.now a.keys.now a.events.now a.vertex.now) refl (cut_buffers a.pts.now a.out.now a.keep.now a.next.now) _ _
    (loop_over a.limit a.vertex_words.now (reads_spread a.vertices.now a.triangles.now a.edge_reals.now a.triangle_words.now a.triangle_reals.now a.vertex_words.now a.round.now a.s a.edge_words.now c.find_opposite-o.result) a.counts
    (slices a.edge_words.now a.words.now a.reals.now a.keys.now a.events.now a.vertex.now) (cut_buffers a.pts.now a.out.now a.keep.now a.next.now)
    (slices l.edge_words l.words l.reals l.keys l.events l.vertex) (cut_buffers l.pts l.out l.keep l.next) l.now l.i l.invariant
    (omega (arith, c.loop-i-test.false, c.spread_count-n.ensures)))
