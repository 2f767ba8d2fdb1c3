-- `run_operations::run_parts` meets its contract. Assumes nothing.
use Prim.Native.Nat.{◌*◌}
use mathlib.Core.Path.{sym}
use lib.Seq.{length-take-le}
use Rattle.run_operations.specs.Lists.{snapshot_in}
use Rattle.trim.specs.Buffers.{slices}
use Rattle.trim.specs.of_cut_lists.Buffers.{cut_buffers}
use Rattle.cut_slots.proofs.Parts.{pts_fit, out_fit, keep_fit, next_fit}
use Rattle.run_operations.proofs.Whole.{parts_ready, parts_run}
use Rattle.run_operations.proofs.run_parts.Goals as goal

pub slice_bounds-run_all-end : goal.slice_bounds-run_all-end
slice_bounds-run_all-end c =
    let a = c.args in
    pts_fit (cut_buffers a.pts.now a.out.now a.keep.now a.next.now) a.x c.requires.1.0

pub slice_bounds-run_all-end-2 : goal.slice_bounds-run_all-end-2
slice_bounds-run_all-end-2 c =
    let a = c.args in
    sym (length-take-le a.x a.pts.now (pts_fit (cut_buffers a.pts.now a.out.now a.keep.now a.next.now) a.x c.requires.1.0))

pub slice_bounds-run_all-end-3 : goal.slice_bounds-run_all-end-3
slice_bounds-run_all-end-3 c =
    let a = c.args in
    out_fit (cut_buffers a.pts.now a.out.now a.keep.now a.next.now) a.x c.requires.1.0

pub slice_bounds-run_all-end-4 : goal.slice_bounds-run_all-end-4
slice_bounds-run_all-end-4 c =
    let a = c.args in
    sym (length-take-le (2 * a.x) a.out.now (out_fit (cut_buffers a.pts.now a.out.now a.keep.now a.next.now) a.x c.requires.1.0))

pub slice_bounds-run_all-end-5 : goal.slice_bounds-run_all-end-5
slice_bounds-run_all-end-5 c =
    let a = c.args in
    keep_fit (cut_buffers a.pts.now a.out.now a.keep.now a.next.now) a.x c.requires.1.0

pub slice_bounds-run_all-end-6 : goal.slice_bounds-run_all-end-6
slice_bounds-run_all-end-6 c =
    let a = c.args in
    sym (length-take-le (2 * a.x) a.keep.now (keep_fit (cut_buffers a.pts.now a.out.now a.keep.now a.next.now) a.x c.requires.1.0))

pub slice_bounds-run_all-end-7 : goal.slice_bounds-run_all-end-7
slice_bounds-run_all-end-7 c =
    let a = c.args in
    next_fit (cut_buffers a.pts.now a.out.now a.keep.now a.next.now) a.x c.requires.1.0

pub slice_bounds-run_all-end-8 : goal.slice_bounds-run_all-end-8
slice_bounds-run_all-end-8 c =
    let a = c.args in
    sym (length-take-le (2 * a.x) a.next.now (next_fit (cut_buffers a.pts.now a.out.now a.keep.now a.next.now) a.x c.requires.1.0))

pub run_all-requires : goal.run_all-requires
run_all-requires c =
    let a = c.args in (
      parts_ready a.ends.now a.lens.now (slices a.edges.now a.words.now a.reals.now a.keys.now a.events.now a.vertex.now)
          (cut_buffers a.pts.now a.out.now a.keep.now a.next.now) a.m a.x c.requires.0 c.requires.1.0,
      c.requires.1.1.1,
    )

pub returns : goal.returns
returns c =
    let run-all = c.run_all in
    let a = c.args in
    let the-slices = slices a.edges.now a.words.now a.reals.now a.keys.now a.events.now a.vertex.now in
    parts_run a.ends.now a.lens.now the-slices (cut_buffers a.pts.now a.out.now a.keep.now a.next.now) a.m a.x c.requires.0 c.requires.1.0 a.limit
    a.vertex_words.now a.ops.now a.args.now a.n c.requires.1.1.0 (snapshot_in 0 0 the-slices) run-all.result
    (slices run-all.new.edges run-all.new.words run-all.new.reals
    run-all.new.keys run-all.new.events run-all.new.vertex) run-all.ensures
