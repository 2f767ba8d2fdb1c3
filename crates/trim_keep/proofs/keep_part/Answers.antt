-- `trim_keep::keep_part` meets its contract. Assumes nothing.
use mathlib.Core.Path.{◌∙◌}
use Rattle.std.proofs.lemmas.Result.{err_from_is_err_and}
use Rattle.buffers.specs.Lack.{lack_number}
use Rattle.trim_split.specs.of_better.Stretches.{interval}
use Rattle.heap.specs.Queue.{queue}
use Rattle.trim_split.specs.of_live_windows.Live.{live_of}
use Rattle.trim_split.proofs.Loops.{window_slices, snapshot_of, windows_of}
use Rattle.trim_keep.proofs.Touching.{queue_full, queue_more}
use Rattle.trim_keep.proofs.Seating.{seats_full, seats_stop, seats_turn}
use Rattle.trim_keep.proofs.keep_part.Goals as goal

pub returns-in_err-queued : goal.returns-in_err-queued
returns-in_err-queued c =
    let touch-ends = c.touch_ends in
    let make-part = c.make_part in
    let seat-from = c.seat_from-seat in
    let a = c.args in
    let the-windowsOf = windows_of (window_slices a.edges.now a.words.now a.reals.now a.keys.now a.events.now) in
    let p = err_from_is_err_and c.from_residual-in_err-queued.result c.from_residual-in_err-queued.ensures.1 in
    rw (p.1, p.2) (
      tt,
      λ cuts k ks. seats_stop cuts the-windowsOf a.limit a.vertex_words.now a.e (live_of a.x k) (interval a.b0 a.b1) ks
          (snapshot_of (window_slices a.edges.now a.words.now a.reals.now a.keys.now a.events.now) a.counts.made a.counts.queued a.before a.vertex.now) seat-from.result
          seat-from.ensures (snapshot_of (window_slices make-part.new.edges make-part.new.words make-part.new.reals make-part.new.keys make-part.new.events)
          c.in_ok-part.part.counts.made c.in_ok-part.part.counts.queued c.in_ok-part.part.last a.vertex.now)
          (c.in_ok-part.ensures.1 cuts a.limit a.vertex_words.now a.vertex.now k) (lack_number c.in_err-queued.field-0.0)
          ((c.in_err-queued.ensures cuts the-windowsOf c.in_ok-part.part.counts.made k a.counts.made) ∙ queue_full c.in_ok-part.part.counts.made
          touch-ends.new.vertex c.in_err-queued.field-0.0 (queue touch-ends.new.keys touch-ends.new.events)),
    )

pub returns-in_err-part : goal.returns-in_err-part
returns-in_err-part c =
    let a = c.args in
    let the-slices = window_slices a.edges.now a.words.now a.reals.now a.keys.now a.events.now in
    let p = err_from_is_err_and c.from_residual.result c.from_residual.ensures.1 in
    rw (p.1, p.2) (
      tt,
      λ cuts k ks. seats_full cuts (windows_of the-slices) a.limit a.vertex_words.now a.e (live_of a.x k) (interval a.b0 a.b1) ks
          (snapshot_of the-slices a.counts.made a.counts.queued a.before a.vertex.now) (lack_number c.in_err-part.field-0.0)
          (c.in_err-part.ensures.1 cuts a.limit a.vertex_words.now a.vertex.now k),
    )

pub returns : goal.returns
returns c =
    let touch-ends = c.touch_ends in
    let make-part = c.make_part in
    let seat-from = c.seat_from-seat in
    let a = c.args in
    let r = c.in_ok-part.ensures.1 0 a.limit a.vertex_words.now a.vertex.now 0 in
    let the-queue = queue touch-ends.new.keys touch-ends.new.events in
    let the-windowsOf = windows_of (window_slices a.edges.now a.words.now a.reals.now a.keys.now a.events.now) in (
      (r.fits, r.linked),
      λ cuts k ks end d. seats_turn cuts the-windowsOf a.limit a.vertex_words.now a.e (live_of a.x k) (interval a.b0 a.b1) ks
          (snapshot_of (window_slices a.edges.now a.words.now a.reals.now a.keys.now a.events.now) a.counts.made a.counts.queued a.before a.vertex.now) seat-from.result
          seat-from.ensures (snapshot_of (window_slices make-part.new.edges make-part.new.words make-part.new.reals make-part.new.keys make-part.new.events)
          c.in_ok-part.part.counts.made c.in_ok-part.part.counts.queued c.in_ok-part.part.last a.vertex.now)
          (c.in_ok-part.ensures.1 cuts a.limit a.vertex_words.now a.vertex.now k) c.in_ok-queued.queued the-queue touch-ends.new.vertex
          ((c.in_ok-queued.ensures cuts the-windowsOf c.in_ok-part.part.counts.made k a.counts.made) ∙ queue_more c.in_ok-part.part.counts.made c.in_ok-queued.queued
          touch-ends.new.vertex the-queue) c.in_ok-part.ensures.0 end d,
    )
