-- `trim_split::split_window` meets its contract. Assumes nothing.
use Prim.Native.Nat.{ℕ, ◌+◌, pred}
use mathlib.Core.Path.{ap}
use native.Mathlib.Omega.{arith}
use native.Mathlib.Numerals.{add-one}
use lib.ListN.{length, drop, get_or}
use lib.Ieee.{nan}
use Rattle.source.specs.declared.Win.{Win}
use Rattle.cut_lists.specs.of_better.Buffers.{pairs}
use Rattle.cut_lists.proofs.laws_of_better.Pairs.{pairs_length}
use Rattle.chains.specs.Chains.{links}
use Rattle.heap.specs.Queue.{queue}
use Rattle.cut_lists.proofs.Entries.{pairs_from}
use Rattle.trim_split.specs.Running.{made_end}
use Rattle.trim_split.proofs.Loops.{window_slices, counted_as, but_first, none_of, split_killed, trimmed_ready, split_made, here_is}
use Rattle.trim_split.proofs.split_window.Goals as goal

pub kill_window-requires : goal.kill_window-requires
kill_window-requires c =
    (omega (arith, c.requires.0.fits), (c.requires.0.edge, (c.requires.0.linked, c.requires.1.0)))

pub returns-then-n-eq0 : goal.returns-then-n-eq0
returns-then-n-eq0 c =
    let kill-window = c.kill_window in
    let if1 = c.if-n-eq0 in
    let a = c.args in (
      omega (arith, pairs_length a.n a.pieces.now, if1.true),
      split_killed a.e.0 a.x a.id.0 a.counts.made a.counts.queued a.before
          (window_slices a.edges.now a.words.now a.reals.now a.keys.now a.events.now) c.requires.0.fits (pairs a.n a.pieces.now) c.requires.0.linked
          (none_of a.n a.pieces.now if1.true) kill-window.new.edges kill-window.new.words kill-window.ensures,
    )

pub from_of-b0-requires : goal.from_of-b0-requires
from_of-b0-requires c = omega (arith, c.requires.1.1, c.if-n-eq0.false)

pub to_of-b1-requires : goal.to_of-b1-requires
to_of-b1-requires c = omega (arith, c.requires.1.1, c.if-n-eq0.false)

pub trim_window-requires : goal.trim_window-requires
trim_window-requires c = omega (arith, c.requires.0.fits, c.requires.1.0)

pub overflow_add-id : goal.overflow_add-id
overflow_add-id c =
    omega (arith, c.requires.0.fits, c.requires.1.0)

pub make_parts-requires : goal.make_parts-requires
make_parts-requires c =
    let trim-window = c.trim_window in
    let trimmed = c.trimmed-first in
    let to-of = c.to_of-b1 in
    let from-of = c.from_of-b0 in
    let a = c.args in (
      trimmed_ready a.e.0 a.x a.id.0 a.counts.made a.counts.queued a.before (window_slices a.edges.now a.words.now a.reals.now a.keys.now a.events.now)
          c.requires.0.fits (pairs a.n a.pieces.now) c.requires.1.0 from-of.result to-of.result trimmed.result.low (ap (λ (w : Win). w.low) trimmed.ensures)
          trim-window.new.reals trim-window.ensures trim-window.auto.reals
          (here_is (pairs a.n a.pieces.now) (drop 1 (pairs a.n a.pieces.now)) from-of.result to-of.result (get_or a.pieces.now 0 nan) (get_or a.pieces.now 1 nan)
          (pairs_from a.pieces.now a.n 0 (omega (arith, c.if-n-eq0.false))) from-of.ensures to-of.ensures) c.requires.0.edge (a.id.0 + 1) (add-one a.id.0),
      c.requires.1.1,
    )

pub returns : goal.returns
returns c =
    let make-parts = c.make_parts in
    let trim-window = c.trim_window in
    let trimmed = c.trimmed-first in
    let to-of = c.to_of-b1 in
    let from-of = c.from_of-b0 in
    let a = c.args in
    let r = make-parts.result in (
      counted_as r (a.counts.made + length (drop 1 (pairs a.n a.pieces.now))) (a.counts.made + pred (length (pairs a.n a.pieces.now)))
          (ap (λ (j : ℕ). a.counts.made + j) (but_first (pairs a.n a.pieces.now))) make-parts.ensures.0,
      split_made a.e.0 a.x a.id.0 a.counts.made a.counts.queued
          a.before (window_slices a.edges.now a.words.now a.reals.now a.keys.now a.events.now) c.requires.0.fits (pairs a.n a.pieces.now) c.requires.1.0
          from-of.result to-of.result trimmed.result.low (ap (λ (w : Win). w.low) trimmed.ensures) trim-window.new.reals trim-window.ensures trim-window.auto.reals
          (here_is (pairs a.n a.pieces.now) (drop 1 (pairs a.n a.pieces.now)) from-of.result to-of.result (get_or a.pieces.now 0 nan) (get_or a.pieces.now 1 nan)
          (pairs_from a.pieces.now a.n 0 (omega (arith, c.if-n-eq0.false))) from-of.ensures to-of.ensures) (a.id.0 + 1) (add-one a.id.0)
          (made_end r (links make-parts.new.edges make-parts.new.words) make-parts.new.reals (queue make-parts.new.keys make-parts.new.events))
          make-parts.ensures.1,
    )
