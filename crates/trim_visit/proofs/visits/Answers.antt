-- `trim_visit::visits` meets its contract. The invariant: what the turns from here on come to is what they come to at first. Assumes nothing.
use Prim.Native.Nat.{◌+◌, ◌-◌}
use native.Mathlib.Omega.{arith}
use lib.Ieee.{nan}
use Rattle.std.proofs.lemmas.Result.{err_from_is_err_and}
use Rattle.trim_split.specs.of_live_windows.Live.{live_of}
use Rattle.trim_split.proofs.Loops.{window_slices}
use Rattle.trim_visit.proofs.Loop.{visits_start, visits_ready, visits_sizes, visits_few, visits_inside, visits_spent, visits_end, visits_over, visits_stopped, visits_next}
use Rattle.trim_split.specs.of_cut_lists.Buffers.{cut_buffers}
use Rattle.trim_visit.proofs.visits.Goals as goal

pub loop-turn-init : goal.loop-turn-init
loop-turn-init c =
    let a = c.args in
    visits_start a.e.0 a.tiny (live_of a.w 0) (window_slices a.edges.now a.words.now a.reals.now a.keys.now a.events.now)
    (cut_buffers a.pts.now a.out.now a.keep.now a.next.now) a.counts.made a.counts.queued a.before a.k (a.counts.made - 0) (omega arith) c.requires.0 c.requires.1.0 c.requires.1.1

pub returns-then-link-eq0 : goal.returns-then-link-eq0
returns-then-link-eq0 c =
    let next-link = c.next_link-link in
    let loop = c.loop-turn in
    let a = c.args in (
      (loop.invariant.fits, (loop.invariant.linked, (loop.invariant.few, loop.invariant.grown))),
      visits_end a.e.0 a.tiny (live_of a.w 0)
          (window_slices a.edges.now a.words.now a.reals.now a.keys.now a.events.now) (cut_buffers a.pts.now a.out.now a.keep.now a.next.now) a.counts.made
          a.counts.queued a.before a.k (window_slices loop.edges loop.words loop.reals loop.keys loop.events) (cut_buffers loop.pts loop.out loop.keep loop.next)
          loop.now.counts loop.now.last loop.now.kept (a.counts.made - loop._turn) loop.invariant next-link.result next-link.ensures c.if-link-eq0.true,
    )

pub overflow_sub-id : goal.overflow_sub-id
overflow_sub-id c = omega (arith, c.if-link-eq0.false)

pub load-x-requires : goal.load-x-requires
load-x-requires c =
    let a = c.args in
    let l = c.loop-turn in
    let r = visits_ready a.e.0 a.tiny (live_of a.w 0) (window_slices a.edges.now a.words.now a.reals.now a.keys.now a.events.now)
    (cut_buffers a.pts.now a.out.now a.keep.now a.next.now) a.counts.made a.counts.queued a.before a.k
    (window_slices l.edges l.words l.reals l.keys l.events) (cut_buffers l.pts l.out l.keep l.next) l.now.counts l.now.last l.now.kept (a.counts.made - l._turn) l.invariant in
    omega (arith, r.fits, c.next_link-link.ensures.made, c.if-link-eq0.false)

pub visit-requires : goal.visit-requires
visit-requires c =
    let load = c.load-x in
    let next-link = c.next_link-link in
    let loop = c.loop-turn in
    let a = c.args in
    let the-cuts-2 = cut_buffers loop.pts loop.out loop.keep loop.next in
    let the-cuts = cut_buffers a.pts.now a.out.now a.keep.now a.next.now in
    let the-slices-2 = window_slices loop.edges loop.words loop.reals loop.keys loop.events in
    let the-slices = window_slices a.edges.now a.words.now a.reals.now a.keys.now a.events.now in (
      visits_ready a.e.0 a.tiny (live_of a.w 0) the-slices the-cuts a.counts.made a.counts.queued a.before a.k the-slices-2 the-cuts-2 loop.now.counts
          loop.now.last loop.now.kept (a.counts.made - loop._turn) loop.invariant,
      (
        visits_inside a.e.0 a.tiny (live_of a.w 0) the-slices the-cuts a.counts.made a.counts.queued a.before
            a.k the-slices-2 the-cuts-2 loop.now.counts loop.now.last loop.now.kept (a.counts.made - loop._turn) loop.invariant next-link.result next-link.ensures (next-link.result - 1)
            (omega (arith, c.if-link-eq0.false)) load.result load.ensures,
        (
          visits_sizes a.e.0 a.tiny (live_of a.w 0) the-slices the-cuts a.counts.made a.counts.queued
              a.before a.k the-slices-2 the-cuts-2 loop.now.counts loop.now.last loop.now.kept (a.counts.made - loop._turn) loop.invariant,
          visits_few a.e.0 a.tiny (live_of a.w 0) the-slices the-cuts
              a.counts.made a.counts.queued a.before a.k the-slices-2 the-cuts-2 loop.now.counts loop.now.last loop.now.kept (a.counts.made - loop._turn) loop.invariant,
        ),
      ),
    )

pub returns-in_err-now : goal.returns-in_err-now
returns-in_err-now c =
    let visit = c.visit in
    let load = c.load-x in
    let next-link = c.next_link-link in
    let loop = c.loop-turn in
    let a = c.args in
    let p = err_from_is_err_and c.from_residual.result c.from_residual.ensures.1 in
    rw (p.1, p.2) (
      tt,
      visits_stopped a.e.0 a.tiny (live_of a.w 0) (window_slices a.edges.now a.words.now a.reals.now a.keys.now a.events.now)
          (cut_buffers a.pts.now a.out.now a.keep.now a.next.now) a.counts.made a.counts.queued a.before a.k
          (window_slices loop.edges loop.words loop.reals loop.keys loop.events) (cut_buffers loop.pts loop.out loop.keep loop.next) loop.now.counts loop.now.last loop.now.kept
          (a.counts.made - loop._turn) loop.invariant next-link.result next-link.ensures (next-link.result - 1) (omega (arith, c.if-link-eq0.false)) load.result load.ensures c.if-old-end.true
          c.in_err-now.field-0.0 visit.new.next c.in_err-now.ensures.1,
    )

pub loop-turn-preserved : goal.loop-turn-preserved
loop-turn-preserved c =
    let visit = c.visit in
    let load = c.load-x in
    let next-link = c.next_link-link in
    let loop = c.loop-turn in
    let a = c.args in
    visits_next a.e.0 a.tiny (live_of a.w 0) (window_slices a.edges.now a.words.now a.reals.now a.keys.now a.events.now)
    (cut_buffers a.pts.now a.out.now a.keep.now a.next.now) a.counts.made a.counts.queued a.before a.k
    (window_slices loop.edges loop.words loop.reals loop.keys loop.events) (cut_buffers loop.pts loop.out loop.keep loop.next) loop.now.counts loop.now.last loop.now.kept
    (a.counts.made - loop._turn) loop.invariant next-link.result next-link.ensures (next-link.result - 1) (omega (arith, c.if-link-eq0.false)) load.result load.ensures c.if-old-end.true
    (window_slices visit.new.edges visit.new.words visit.new.reals visit.new.keys visit.new.events)
    (cut_buffers visit.new.pts visit.new.out visit.new.keep visit.new.next) c.in_ok-now.now.counts
    c.in_ok-now.now.last c.in_ok-now.now.kept (a.counts.made - (loop._turn + 1))
    (record { edges = visit.auto.edges; words = visit.auto.words; reals = visit.auto.reals; keys = visit.auto.keys; events = visit.auto.events })
    (record { keep = visit.auto.keep; pts = visit.auto.pts; out = visit.auto.out; next = visit.auto.next })
    (omega (arith, c.loop-turn-test.true)) (omega arith) c.in_ok-now.ensures.0 c.in_ok-now.ensures.1 nan

pub returns-else-old-end : goal.returns-else-old-end
returns-else-old-end c =
    let load = c.load-x in
    let next-link = c.next_link-link in
    let loop = c.loop-turn in
    let a = c.args in (
      (loop.invariant.fits, (loop.invariant.linked, (loop.invariant.few, loop.invariant.grown))),
      visits_over a.e.0 a.tiny (live_of a.w 0)
          (window_slices a.edges.now a.words.now a.reals.now a.keys.now a.events.now) (cut_buffers a.pts.now a.out.now a.keep.now a.next.now) a.counts.made
          a.counts.queued a.before a.k (window_slices loop.edges loop.words loop.reals loop.keys loop.events) (cut_buffers loop.pts loop.out loop.keep loop.next)
          loop.now.counts loop.now.last loop.now.kept (a.counts.made - loop._turn) loop.invariant next-link.result next-link.ensures (next-link.result - 1) (omega (arith, c.if-link-eq0.false)) load.result
          load.ensures c.if-old-end.false,
    )

pub returns : goal.returns
returns c =
    let loop = c.loop-turn in
    let a = c.args in (
      (loop.invariant.fits, (loop.invariant.linked, (loop.invariant.few, loop.invariant.grown))),
      visits_spent a.e.0 a.tiny (live_of a.w 0)
          (window_slices a.edges.now a.words.now a.reals.now a.keys.now a.events.now) (cut_buffers a.pts.now a.out.now a.keep.now a.next.now) a.counts.made
          a.counts.queued a.before a.k (window_slices loop.edges loop.words loop.reals loop.keys loop.events) (cut_buffers loop.pts loop.out loop.keep loop.next)
          loop.now.counts loop.now.last loop.now.kept (a.counts.made - loop._turn) loop.invariant (omega (arith, c.loop-turn-test.false)),
    )
