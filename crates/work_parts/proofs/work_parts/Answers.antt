-- `work_parts::work_parts` meets its contract. Assumes nothing.
use Prim.Native.Nat.{◌*◌}
use mathlib.Core.Path.{sym}
use lib.Seq.{length-take-le}
use Rattle.cut_slots.specs.of_cut_lists.Buffers.{cut_buffers}
use Rattle.cut_slots.proofs.Parts.{pts_fit, out_fit, keep_fit, next_fit, parts_sizes}
use Rattle.work_parts.proofs.work_parts.Goals as goal

pub slice_bounds-work-end : goal.slice_bounds-work-end
slice_bounds-work-end c =
    let a = c.args in
    pts_fit (cut_buffers a.pts.now a.out.now a.keep.now a.next.now) a.x c.requires.1.1.1

pub slice_bounds-work-end-2 : goal.slice_bounds-work-end-2
slice_bounds-work-end-2 c =
    let a = c.args in
    sym (length-take-le a.x a.pts.now (pts_fit (cut_buffers a.pts.now a.out.now a.keep.now a.next.now) a.x c.requires.1.1.1))

pub slice_bounds-work-end-3 : goal.slice_bounds-work-end-3
slice_bounds-work-end-3 c =
    let a = c.args in
    out_fit (cut_buffers a.pts.now a.out.now a.keep.now a.next.now) a.x c.requires.1.1.1

pub slice_bounds-work-end-4 : goal.slice_bounds-work-end-4
slice_bounds-work-end-4 c =
    let a = c.args in
    sym (length-take-le (2 * a.x) a.out.now (out_fit (cut_buffers a.pts.now a.out.now a.keep.now a.next.now) a.x c.requires.1.1.1))

pub slice_bounds-work-end-5 : goal.slice_bounds-work-end-5
slice_bounds-work-end-5 c =
    let a = c.args in
    keep_fit (cut_buffers a.pts.now a.out.now a.keep.now a.next.now) a.x c.requires.1.1.1

pub slice_bounds-work-end-6 : goal.slice_bounds-work-end-6
slice_bounds-work-end-6 c =
    let a = c.args in
    sym (length-take-le (2 * a.x) a.keep.now (keep_fit (cut_buffers a.pts.now a.out.now a.keep.now a.next.now) a.x c.requires.1.1.1))

pub slice_bounds-work-end-7 : goal.slice_bounds-work-end-7
slice_bounds-work-end-7 c =
    let a = c.args in
    next_fit (cut_buffers a.pts.now a.out.now a.keep.now a.next.now) a.x c.requires.1.1.1

pub slice_bounds-work-end-8 : goal.slice_bounds-work-end-8
slice_bounds-work-end-8 c =
    let a = c.args in
    sym (length-take-le (2 * a.x) a.next.now (next_fit (cut_buffers a.pts.now a.out.now a.keep.now a.next.now) a.x c.requires.1.1.1))

pub work-requires : goal.work-requires
work-requires c =
    let a = c.args in
    (c.requires.0, (c.requires.1.0, (c.requires.1.1.0, parts_sizes (cut_buffers a.pts.now a.out.now a.keep.now a.next.now) a.x c.requires.1.1.1)))

pub shape_of-edge_words : goal.shape_of-edge_words
shape_of-edge_words c = c.work.auto.edge_words

pub shape_of-triangle_words : goal.shape_of-triangle_words
shape_of-triangle_words c = c.work.auto.triangle_words

pub shape_of-piece_words : goal.shape_of-piece_words
shape_of-piece_words c = c.work.auto.piece_words

pub shape_of-piece_reals : goal.shape_of-piece_reals
shape_of-piece_reals c = c.work.auto.piece_reals

pub shape_of-vertex : goal.shape_of-vertex
shape_of-vertex c = c.work.auto.vertex

pub shape_of-words : goal.shape_of-words
shape_of-words c = c.work.auto.words

pub shape_of-reals : goal.shape_of-reals
shape_of-reals c = c.work.auto.reals

pub shape_of-keys : goal.shape_of-keys
shape_of-keys c = c.work.auto.keys

pub shape_of-events : goal.shape_of-events
shape_of-events c = c.work.auto.events

pub shape_of-entry_words : goal.shape_of-entry_words
shape_of-entry_words c = c.work.auto.entry_words

pub shape_of-pts : goal.shape_of-pts
shape_of-pts c = c.pts-1.given.1

pub shape_of-out : goal.shape_of-out
shape_of-out c = c.out-1.given.1

pub shape_of-keep : goal.shape_of-keep
shape_of-keep c = c.keep-1.given.1

pub shape_of-next : goal.shape_of-next
shape_of-next c = c.next-1.given.1

pub returns : goal.returns
returns c = c.work.ensures
