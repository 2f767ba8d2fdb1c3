-- `advance::advance` meets its contract. Assumes nothing.
use mathlib.Core.Path.{◌∙◌}
use Rattle.std.proofs.lemmas.Result.{err_from_is_err_and}
use Rattle.insertion.specs.of_cut_lists.Buffers.{cut_buffers}
use Rattle.insertion.specs.of_trim.Buffers.{slices}
use Rattle.insertion.proofs.laws_of_offers.Walks.{sizes_same}
use Rattle.advance.proofs.Loop.{loop_start, loop_fits, loop_next, loop_stopped, loop_idle, loop_over}
use Rattle.advance.proofs.advance.Goals as goal

pub loop-steps-init : goal.loop-steps-init
loop-steps-init c =
    let a = c.args in
    loop_start a.limit a.n a.most a.vertices.now a.triangles.now a.vertex_words.now a.round.now a.edge_reals.now a.triangle_words.now a.triangle_reals.now a.counts
    (slices a.edge_words.now a.words.now a.reals.now a.keys.now a.events.now a.vertex.now) (cut_buffers a.pts.now a.out.now a.keep.now a.next.now) c.requires.0

pub step-requires : goal.step-requires
step-requires c =
    let a = c.args in
    let l = c.loop-steps in (
      loop_fits a.limit a.n a.most a.vertices.now a.triangles.now a.vertex_words.now a.round.now a.edge_reals.now a.triangle_words.now a.triangle_reals.now a.counts
          (slices a.edge_words.now a.words.now a.reals.now a.keys.now a.events.now a.vertex.now) (cut_buffers a.pts.now a.out.now a.keep.now a.next.now)
          (slices l.edge_words l.words l.reals l.keys l.events l.vertex) (cut_buffers l.pts l.out l.keep l.next) l.now l.steps l.invariant c.loop-steps-test.true,
      sizes_same (slices a.edge_words.now a.words.now a.reals.now a.keys.now a.events.now a.vertex.now) (slices l.edge_words l.words l.reals l.keys l.events l.vertex)
          (cut_buffers a.pts.now a.out.now a.keep.now a.next.now) (cut_buffers l.pts l.out l.keep l.next) l.invariant.same c.requires.1,
    )

pub shape_of-edge_words-in-None : goal.shape_of-edge_words-in-None
shape_of-edge_words-in-None c = c.step.auto.edge_words ∙ c.loop-steps.invariant.same.edges

pub shape_of-words-in-None : goal.shape_of-words-in-None
shape_of-words-in-None c = c.step.auto.words ∙ c.loop-steps.invariant.same.words

pub shape_of-reals-in-None : goal.shape_of-reals-in-None
shape_of-reals-in-None c = c.step.auto.reals ∙ c.loop-steps.invariant.same.reals

pub shape_of-keys-in-None : goal.shape_of-keys-in-None
shape_of-keys-in-None c = c.step.auto.keys ∙ c.loop-steps.invariant.same.keys

pub shape_of-events-in-None : goal.shape_of-events-in-None
shape_of-events-in-None c = c.step.auto.events ∙ c.loop-steps.invariant.same.events

pub shape_of-vertex-in-None : goal.shape_of-vertex-in-None
shape_of-vertex-in-None c = c.step.auto.vertex ∙ c.loop-steps.invariant.same.vertex

pub shape_of-pts-in-None : goal.shape_of-pts-in-None
shape_of-pts-in-None c = c.step.auto.pts ∙ c.loop-steps.invariant.same.pts

pub shape_of-out-in-None : goal.shape_of-out-in-None
shape_of-out-in-None c = c.step.auto.out ∙ c.loop-steps.invariant.same.out

pub shape_of-keep-in-None : goal.shape_of-keep-in-None
shape_of-keep-in-None c = c.step.auto.keep ∙ c.loop-steps.invariant.same.keep

pub shape_of-next-in-None : goal.shape_of-next-in-None
shape_of-next-in-None c = c.step.auto.next ∙ c.loop-steps.invariant.same.next

pub returns-in-None : goal.returns-in-None
returns-in-None c =
    let a = c.args in
    let l = c.loop-steps in
    let r = c.step in
    loop_idle a.limit a.n a.most a.vertices.now a.triangles.now a.vertex_words.now a.round.now a.edge_reals.now a.triangle_words.now a.triangle_reals.now a.counts
    (slices a.edge_words.now a.words.now a.reals.now a.keys.now a.events.now a.vertex.now) (cut_buffers a.pts.now a.out.now a.keep.now a.next.now)
    (slices l.edge_words l.words l.reals l.keys l.events l.vertex) (cut_buffers l.pts l.out l.keep l.next) l.now l.steps l.invariant c.loop-steps-test.true
    (slices r.new.edge_words r.new.words r.new.reals r.new.keys r.new.events r.new.vertex) (rw c.in-None.is at c.in_ok-stepped.ensures)

pub shape_of-edge_words-in_err-stepped : goal.shape_of-edge_words-in_err-stepped
shape_of-edge_words-in_err-stepped c = c.step.auto.edge_words ∙ c.loop-steps.invariant.same.edges

pub shape_of-words-in_err-stepped : goal.shape_of-words-in_err-stepped
shape_of-words-in_err-stepped c = c.step.auto.words ∙ c.loop-steps.invariant.same.words

pub shape_of-reals-in_err-stepped : goal.shape_of-reals-in_err-stepped
shape_of-reals-in_err-stepped c = c.step.auto.reals ∙ c.loop-steps.invariant.same.reals

pub shape_of-keys-in_err-stepped : goal.shape_of-keys-in_err-stepped
shape_of-keys-in_err-stepped c = c.step.auto.keys ∙ c.loop-steps.invariant.same.keys

pub shape_of-events-in_err-stepped : goal.shape_of-events-in_err-stepped
shape_of-events-in_err-stepped c = c.step.auto.events ∙ c.loop-steps.invariant.same.events

pub shape_of-vertex-in_err-stepped : goal.shape_of-vertex-in_err-stepped
shape_of-vertex-in_err-stepped c = c.step.auto.vertex ∙ c.loop-steps.invariant.same.vertex

pub shape_of-pts-in_err-stepped : goal.shape_of-pts-in_err-stepped
shape_of-pts-in_err-stepped c = c.step.auto.pts ∙ c.loop-steps.invariant.same.pts

pub shape_of-out-in_err-stepped : goal.shape_of-out-in_err-stepped
shape_of-out-in_err-stepped c = c.step.auto.out ∙ c.loop-steps.invariant.same.out

pub shape_of-keep-in_err-stepped : goal.shape_of-keep-in_err-stepped
shape_of-keep-in_err-stepped c = c.step.auto.keep ∙ c.loop-steps.invariant.same.keep

pub shape_of-next-in_err-stepped : goal.shape_of-next-in_err-stepped
shape_of-next-in_err-stepped c = c.step.auto.next ∙ c.loop-steps.invariant.same.next

pub returns-in_err-stepped : goal.returns-in_err-stepped
returns-in_err-stepped c =
    let a = c.args in
    let l = c.loop-steps in
    let r = c.step in
    let p = err_from_is_err_and c.from_residual.result c.from_residual.ensures.1 in
    rw (p.1, p.2) (loop_stopped a.limit a.n a.most a.vertices.now a.triangles.now a.vertex_words.now a.round.now a.edge_reals.now a.triangle_words.now a.triangle_reals.now a.counts
    (slices a.edge_words.now a.words.now a.reals.now a.keys.now a.events.now a.vertex.now) (cut_buffers a.pts.now a.out.now a.keep.now a.next.now)
    (slices l.edge_words l.words l.reals l.keys l.events l.vertex) (cut_buffers l.pts l.out l.keep l.next) l.now l.steps l.invariant c.loop-steps-test.true
    c.in_err-stepped.field-0.0 (slices r.new.edge_words r.new.words r.new.reals r.new.keys r.new.events r.new.vertex) c.in_err-stepped.ensures)

pub loop-steps-preserved : goal.loop-steps-preserved
loop-steps-preserved c =
    let a = c.args in
    let l = c.loop-steps in
    let r = c.step in
    loop_next a.limit a.n a.most a.vertices.now a.triangles.now a.vertex_words.now a.round.now a.edge_reals.now a.triangle_words.now a.triangle_reals.now a.counts
    (slices a.edge_words.now a.words.now a.reals.now a.keys.now a.events.now a.vertex.now) (cut_buffers a.pts.now a.out.now a.keep.now a.next.now)
    (slices l.edge_words l.words l.reals l.keys l.events l.vertex) (cut_buffers l.pts l.out l.keep l.next) l.now l.steps l.invariant c.loop-steps-test.true
    c.in-Some.c (slices r.new.edge_words r.new.words r.new.reals r.new.keys r.new.events r.new.vertex)
    (cut_buffers r.new.pts r.new.out r.new.keep r.new.next)
    (record {
      edges = r.auto.edge_words;
      words = r.auto.words;
      reals = r.auto.reals;
      keys = r.auto.keys;
      events = r.auto.events;
      vertex = r.auto.vertex;
      pts = r.auto.pts;
      out = r.auto.out;
      keep = r.auto.keep;
      next = r.auto.next;
    })
    (rw c.in-Some.is at c.in_ok-stepped.ensures)

pub shape_of-edge_words : goal.shape_of-edge_words
shape_of-edge_words c = c.loop-steps.invariant.same.edges

pub shape_of-words : goal.shape_of-words
shape_of-words c = c.loop-steps.invariant.same.words

pub shape_of-reals : goal.shape_of-reals
shape_of-reals c = c.loop-steps.invariant.same.reals

pub shape_of-keys : goal.shape_of-keys
shape_of-keys c = c.loop-steps.invariant.same.keys

pub shape_of-events : goal.shape_of-events
shape_of-events c = c.loop-steps.invariant.same.events

pub shape_of-vertex : goal.shape_of-vertex
shape_of-vertex c = c.loop-steps.invariant.same.vertex

pub shape_of-pts : goal.shape_of-pts
shape_of-pts c = c.loop-steps.invariant.same.pts

pub shape_of-out : goal.shape_of-out
shape_of-out c = c.loop-steps.invariant.same.out

pub shape_of-keep : goal.shape_of-keep
shape_of-keep c = c.loop-steps.invariant.same.keep

pub shape_of-next : goal.shape_of-next
shape_of-next c = c.loop-steps.invariant.same.next

pub returns : goal.returns
returns c =
    let a = c.args in
    let l = c.loop-steps in
    loop_over a.limit a.n a.most a.vertices.now a.triangles.now a.vertex_words.now a.round.now a.edge_reals.now a.triangle_words.now a.triangle_reals.now a.counts
    (slices a.edge_words.now a.words.now a.reals.now a.keys.now a.events.now a.vertex.now) (cut_buffers a.pts.now a.out.now a.keep.now a.next.now)
    (slices l.edge_words l.words l.reals l.keys l.events l.vertex) (cut_buffers l.pts l.out l.keep l.next) l.now l.steps l.invariant c.loop-steps-test.false
