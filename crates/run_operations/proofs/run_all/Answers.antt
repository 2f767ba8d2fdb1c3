-- `run_operations::run_all` meets its contract. The invariant: after k operations the buffers stand for a state that follows the model, and what is left to do from it is what the whole comes to.
-- Assumes nothing.
use Prim.Native.Nat.{◌+◌}
use mathlib.Core.Path.{◌∙◌}
use native.Mathlib.Omega.{arith}
use Rattle.trim.specs.Buffers.{slices}
use Rattle.trim.specs.of_cut_lists.Buffers.{cut_buffers}
use Rattle.run_operations.proofs.Loop.{inv_start, inv_ready, inv_stopped, inv_next, inv_done}
use Rattle.run_operations.proofs.run_all.Goals as goal

pub loop-k-init : goal.loop-k-init
loop-k-init c =
    let a = c.args in
    inv_start a.limit a.vertex_words.now a.ends.now a.lens.now a.m a.ops.now a.args.now a.n
    (slices a.edges.now a.words.now a.reals.now a.keys.now a.events.now a.vertex.now) (cut_buffers a.pts.now a.out.now a.keep.now a.next.now)
    c.requires.0 c.requires.1

pub operate-step-requires : goal.operate-step-requires
operate-step-requires c =
    let loop = c.loop-k in
    let a = c.args in
    inv_ready a.limit a.vertex_words.now a.ends.now a.lens.now a.m a.ops.now a.args.now a.n
    (slices a.edges.now a.words.now a.reals.now a.keys.now a.events.now a.vertex.now) (cut_buffers a.pts.now a.out.now a.keep.now a.next.now)
    c.requires.0 loop.k loop.counts.made loop.counts.queued (slices loop.edges loop.words loop.reals loop.keys loop.events loop.vertex)
    (cut_buffers loop.pts loop.out loop.keep loop.next) loop.invariant

pub returns-in-Err : goal.returns-in-Err
returns-in-Err c =
    let operate = c.operate-step in
    let operation-at = c.operation_at-op in
    let loop = c.loop-k in
    let a = c.args in
    inv_stopped a.limit a.vertex_words.now a.ends.now a.lens.now a.m a.ops.now a.args.now a.n
    (slices a.edges.now a.words.now a.reals.now a.keys.now a.events.now a.vertex.now) (cut_buffers a.pts.now a.out.now a.keep.now a.next.now)
    c.requires.0 loop.k loop.counts.made loop.counts.queued (slices loop.edges loop.words loop.reals loop.keys loop.events loop.vertex)
    (cut_buffers loop.pts loop.out loop.keep loop.next) loop.invariant c.loop-k-test.true operation-at.result operation-at.ensures operate.result
    (slices operate.new.edges operate.new.words operate.new.reals operate.new.keys
    operate.new.events operate.new.vertex) operate.ensures c.in-Err.refusal c.in-Err.is

pub loop-k-preserved : goal.loop-k-preserved
loop-k-preserved c =
    let operate = c.operate-step in
    let operation-at = c.operation_at-op in
    let loop = c.loop-k in
    let a = c.args in
    inv_next a.limit a.vertex_words.now a.ends.now a.lens.now a.m a.ops.now a.args.now a.n
    (slices a.edges.now a.words.now a.reals.now a.keys.now a.events.now a.vertex.now) (cut_buffers a.pts.now a.out.now a.keep.now a.next.now)
    c.requires.0 loop.k loop.counts.made loop.counts.queued (slices loop.edges loop.words loop.reals loop.keys loop.events loop.vertex)
    (cut_buffers loop.pts loop.out loop.keep loop.next) loop.invariant c.loop-k-test.true operation-at.result operation-at.ensures operate.result
    (slices operate.new.edges operate.new.words operate.new.reals operate.new.keys
    operate.new.events operate.new.vertex) operate.ensures c.in-Ok.now (loop.k + 1)
    (omega arith) c.in-Ok.is (cut_buffers operate.new.pts operate.new.out
    operate.new.keep operate.new.next)
    (record {
      edges = operate.auto.edges ∙ loop.invariant.same.edges;
      words = operate.auto.words ∙ loop.invariant.same.words;
      reals
          = operate.auto.reals ∙ loop.invariant.same.reals;
      keys = operate.auto.keys ∙ loop.invariant.same.keys;
      events
          = operate.auto.events ∙ loop.invariant.same.events;
      vertex = operate.auto.vertex ∙ loop.invariant.same.vertex;
    })
    (record {
      pts = operate.auto.pts ∙ loop.invariant.same_cuts.pts;
      out = operate.auto.out ∙
          loop.invariant.same_cuts.out;
      keep = operate.auto.keep ∙ loop.invariant.same_cuts.keep;
      next
          = operate.auto.next ∙ loop.invariant.same_cuts.next;
    })

pub returns : goal.returns
returns c =
    let loop = c.loop-k in
    let a = c.args in
    inv_done a.limit a.vertex_words.now a.ends.now a.lens.now a.m a.ops.now a.args.now a.n
    (slices a.edges.now a.words.now a.reals.now a.keys.now a.events.now a.vertex.now) (cut_buffers a.pts.now a.out.now a.keep.now a.next.now)
    c.requires.0 loop.k loop.counts.made loop.counts.queued (slices loop.edges loop.words loop.reals loop.keys loop.events loop.vertex)
    (cut_buffers loop.pts loop.out loop.keep loop.next) loop.invariant c.loop-k-test.false
