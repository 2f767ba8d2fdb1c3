-- `trim_keep::keep_parts` meets its contract. The invariant: what the intervals from here on come to is what they come to at first. Assumes nothing.
use Prim.Native.Nat.{suc, ◌+◌}
use native.Mathlib.Omega.{arith}
use lib.ListN.{drop, get_or}
use lib.Ieee.{nan}
use Rattle.std.proofs.lemmas.Result.{err_from_is_err_and}
use Rattle.buffers.specs.Lack.{lack_number}
use Rattle.trim_split.specs.of_better.Buffers.{pairs}
use Rattle.trim_split.proofs.laws_of_cut_lists.Entries.{pairs_from, pairs_past}
use Rattle.trim_split.proofs.Loops.{window_slices, here_is}
use Rattle.trim_keep.proofs.Loop.{keep_start, keep_ready, keep_over, keep_skip, keep_stopped, keep_next}
use Rattle.trim_keep.proofs.keep_parts.Goals as goal

pub loop-i-init : goal.loop-i-init
loop-i-init c =
    let a = c.args in
    keep_start a.limit a.vertex_words.now a.e a.x a.tiny (pairs a.k a.keep.now) (window_slices a.edges.now a.words.now a.reals.now a.keys.now a.events.now) a.vertex.now a.counts.made a.counts.queued a.before c.requires.0

pub from_of-b0-requires : goal.from_of-b0-requires
from_of-b0-requires c = omega (arith, c.requires.1.0, c.loop-i-test.true)

pub to_of-b1-requires : goal.to_of-b1-requires
to_of-b1-requires c = omega (arith, c.requires.1.0, c.loop-i-test.true)

pub loop-i-preserved-then-b1-b0 : goal.loop-i-preserved-then-b1-b0
loop-i-preserved-then-b1-b0 c =
    let to-of = c.to_of-b1 in
    let from-of = c.from_of-b0 in
    let loop = c.loop-i in
    let a = c.args in
    keep_skip a.limit a.vertex_words.now a.e a.x a.tiny (pairs a.k a.keep.now)
    (window_slices a.edges.now a.words.now a.reals.now a.keys.now a.events.now) a.vertex.now a.counts.made a.counts.queued a.before
    (window_slices loop.edges loop.words loop.reals loop.keys loop.events) loop.vertex loop.now.counts.made loop.now.counts.queued loop.now.last loop.i loop.invariant from-of.result
    to-of.result (here_is (drop loop.i (pairs a.k a.keep.now)) (drop (suc loop.i) (pairs a.k a.keep.now)) from-of.result to-of.result
    (get_or a.keep.now (loop.i + loop.i) nan) (get_or a.keep.now (suc (loop.i + loop.i)) nan) (pairs_from a.keep.now a.k loop.i c.loop-i-test.true)
    from-of.ensures to-of.ensures) c.if-b1-b0.true

pub keep_part-requires : goal.keep_part-requires
keep_part-requires c =
    let loop = c.loop-i in
    let a = c.args in (
      keep_ready a.limit a.vertex_words.now a.e a.x a.tiny (pairs a.k a.keep.now)
          (window_slices a.edges.now a.words.now a.reals.now a.keys.now a.events.now) a.vertex.now a.counts.made a.counts.queued a.before
          (window_slices loop.edges loop.words loop.reals loop.keys loop.events) loop.vertex loop.now.counts.made loop.now.counts.queued loop.now.last loop.i loop.invariant,
      c.requires.1.1,
    )

pub returns-in_err-now : goal.returns-in_err-now
returns-in_err-now c =
    let to-of = c.to_of-b1 in
    let from-of = c.from_of-b0 in
    let loop = c.loop-i in
    let a = c.args in
    let p = err_from_is_err_and c.from_residual.result c.from_residual.ensures.1 in
    rw (p.1, p.2) (
      tt,
      keep_stopped a.limit a.vertex_words.now a.e a.x a.tiny (pairs a.k a.keep.now)
          (window_slices a.edges.now a.words.now a.reals.now a.keys.now a.events.now) a.vertex.now a.counts.made a.counts.queued a.before
          (window_slices loop.edges loop.words loop.reals loop.keys loop.events) loop.vertex loop.now.counts.made loop.now.counts.queued loop.now.last loop.i loop.invariant from-of.result
          to-of.result (here_is (drop loop.i (pairs a.k a.keep.now)) (drop (suc loop.i) (pairs a.k a.keep.now)) from-of.result to-of.result
          (get_or a.keep.now (loop.i + loop.i) nan) (get_or a.keep.now (suc (loop.i + loop.i)) nan) (pairs_from a.keep.now a.k loop.i c.loop-i-test.true)
          from-of.ensures to-of.ensures) c.if-b1-b0.false (lack_number c.in_err-now.field-0.0) c.in_err-now.ensures.1,
    )

pub loop-i-preserved : goal.loop-i-preserved
loop-i-preserved c =
    let keep-part = c.keep_part in
    let to-of = c.to_of-b1 in
    let from-of = c.from_of-b0 in
    let loop = c.loop-i in
    let a = c.args in
    keep_next a.limit a.vertex_words.now a.e a.x a.tiny (pairs a.k a.keep.now)
    (window_slices a.edges.now a.words.now a.reals.now a.keys.now a.events.now) a.vertex.now a.counts.made a.counts.queued a.before
    (window_slices loop.edges loop.words loop.reals loop.keys loop.events) loop.vertex loop.now.counts.made loop.now.counts.queued loop.now.last loop.i loop.invariant from-of.result
    to-of.result (here_is (drop loop.i (pairs a.k a.keep.now)) (drop (suc loop.i) (pairs a.k a.keep.now)) from-of.result to-of.result
    (get_or a.keep.now (loop.i + loop.i) nan) (get_or a.keep.now (suc (loop.i + loop.i)) nan) (pairs_from a.keep.now a.k loop.i c.loop-i-test.true)
    from-of.ensures to-of.ensures) c.if-b1-b0.false
    (window_slices keep-part.new.edges keep-part.new.words keep-part.new.reals keep-part.new.keys keep-part.new.events) keep-part.new.vertex
    c.in_ok-now.now.counts.made c.in_ok-now.now.counts.queued c.in_ok-now.now.last
    (record { edges = keep-part.auto.edges; words = keep-part.auto.words; reals = keep-part.auto.reals; keys = keep-part.auto.keys; events = keep-part.auto.events })
    keep-part.auto.vertex c.in_ok-now.ensures.0 c.in_ok-now.ensures.1

pub returns : goal.returns
returns c =
    let loop = c.loop-i in
    let a = c.args in (
      (loop.invariant.fits, loop.invariant.linked),
      keep_over a.limit a.vertex_words.now a.e a.x a.tiny (pairs a.k a.keep.now)
          (window_slices a.edges.now a.words.now a.reals.now a.keys.now a.events.now) a.vertex.now a.counts.made a.counts.queued a.before
          (window_slices loop.edges loop.words loop.reals loop.keys loop.events) loop.vertex loop.now.counts.made loop.now.counts.queued loop.now.last loop.i loop.invariant
          (pairs_past a.keep.now a.k loop.i c.loop-i-test.false),
    )
