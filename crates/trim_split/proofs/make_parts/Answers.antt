-- `trim_split::make_parts` meets its contract. The invariant: what the parts from here on come to is what they come to at first. Assumes nothing.
use Prim.Native.Nat.{suc, ◌+◌}
use mathlib.Core.Path.{refl}
use native.Mathlib.Omega.{arith}
use lib.ListN.{drop, get_or}
use lib.Ieee.{nan}
use Rattle.std.proofs.lemmas.Result.{err_from_is_err_and}
use Rattle.buffers.specs.Lack.{lack_number}
use Rattle.cut_lists.specs.of_better.Buffers.{pairs}
use Rattle.cut_lists.proofs.Entries.{pairs_from, pairs_past}
use Rattle.trim_split.proofs.Loops.{window_slices, parts_start, parts_ready, parts_stopped, parts_next, parts_over, parts_count, here_is}
use Rattle.trim_split.proofs.make_parts.Goals as goal

pub loop-i-init : goal.loop-i-init
loop-i-init c =
    let a = c.args in
    parts_start a.e.0 a.x (pairs a.n a.pieces.now) (window_slices a.edges.now a.words.now a.reals.now a.keys.now a.events.now) a.counts.made a.counts.queued a.before c.requires.0

pub from_of-b0-requires : goal.from_of-b0-requires
from_of-b0-requires c = omega (arith, c.requires.1, c.loop-i-test.true)

pub to_of-b1-requires : goal.to_of-b1-requires
to_of-b1-requires c = omega (arith, c.requires.1, c.loop-i-test.true)

pub make_part-requires : goal.make_part-requires
make_part-requires c =
    let loop = c.loop-i in
    let a = c.args in (
      parts_ready a.e.0 a.x (pairs a.n a.pieces.now) (window_slices a.edges.now a.words.now a.reals.now a.keys.now a.events.now) a.counts.made
          a.counts.queued a.before (window_slices loop.edges loop.words loop.reals loop.keys loop.events) loop.now.counts.made loop.now.counts.queued loop.now.last loop.i loop.invariant,
      c.lowest-low.ensures,
    )

pub returns-in_err-now : goal.returns-in_err-now
returns-in_err-now c =
    let make-part = c.make_part in
    let to-of = c.to_of-b1 in
    let from-of = c.from_of-b0 in
    let loop = c.loop-i in
    let a = c.args in
    let p = err_from_is_err_and c.from_residual.result c.from_residual.ensures.1 in
    rw (p.1, p.2) (
      tt,
      parts_stopped a.e.0 a.x (pairs a.n a.pieces.now) (window_slices a.edges.now a.words.now a.reals.now a.keys.now a.events.now) a.counts.made
          a.counts.queued a.before (window_slices loop.edges loop.words loop.reals loop.keys loop.events) loop.now.counts.made loop.now.counts.queued loop.now.last loop.i loop.invariant
          from-of.result to-of.result (here_is (drop loop.i (pairs a.n a.pieces.now)) (drop (suc loop.i) (pairs a.n a.pieces.now)) from-of.result to-of.result
          (get_or a.pieces.now (loop.i + loop.i) nan) (get_or a.pieces.now (suc (loop.i + loop.i)) nan) (pairs_from a.pieces.now a.n loop.i c.loop-i-test.true)
          from-of.ensures to-of.ensures) (window_slices make-part.new.edges make-part.new.words make-part.new.reals make-part.new.keys make-part.new.events)
          (lack_number c.in_err-now.field-0.0) c.in_err-now.ensures.1,
    )

pub loop-i-preserved : goal.loop-i-preserved
loop-i-preserved c =
    let make-part = c.make_part in
    let to-of = c.to_of-b1 in
    let from-of = c.from_of-b0 in
    let loop = c.loop-i in
    let a = c.args in
    parts_next a.e.0 a.x (pairs a.n a.pieces.now) (window_slices a.edges.now a.words.now a.reals.now a.keys.now a.events.now) a.counts.made
    a.counts.queued a.before (window_slices loop.edges loop.words loop.reals loop.keys loop.events) loop.now.counts.made loop.now.counts.queued loop.now.last loop.i loop.invariant
    from-of.result to-of.result (here_is (drop loop.i (pairs a.n a.pieces.now)) (drop (suc loop.i) (pairs a.n a.pieces.now)) from-of.result to-of.result
    (get_or a.pieces.now (loop.i + loop.i) nan) (get_or a.pieces.now (suc (loop.i + loop.i)) nan) (pairs_from a.pieces.now a.n loop.i c.loop-i-test.true)
    from-of.ensures to-of.ensures) (window_slices make-part.new.edges make-part.new.words make-part.new.reals make-part.new.keys make-part.new.events)
    (record { edges = make-part.auto.edges; words = make-part.auto.words; reals = make-part.auto.reals; keys = make-part.auto.keys; events = make-part.auto.events })
    c.in_ok-now.now.counts.made c.in_ok-now.now.counts.queued c.in_ok-now.now.last (loop.i + 1) c.in_ok-now.ensures.0 refl
    c.in_ok-now.ensures.1 nan

pub returns : goal.returns
returns c =
    let loop = c.loop-i in
    let a = c.args in
    let none = pairs_past a.pieces.now a.n loop.i c.loop-i-test.false in
    let the-slices-2 = window_slices loop.edges loop.words loop.reals loop.keys loop.events in
    let the-slices = window_slices a.edges.now a.words.now a.reals.now a.keys.now a.events.now in (
      parts_count a.e.0 a.x (pairs a.n a.pieces.now) the-slices a.counts.made a.counts.queued a.before the-slices-2 loop.now.counts.made loop.now.counts.queued
          loop.now.last loop.i loop.invariant none,
      parts_over a.e.0 a.x (pairs a.n a.pieces.now) the-slices a.counts.made a.counts.queued a.before the-slices-2
          loop.now.counts.made loop.now.counts.queued loop.now.last loop.i loop.invariant none,
    )
