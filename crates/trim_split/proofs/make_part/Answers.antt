-- `trim_split::make_part` meets its contract. Assumes nothing.
use Prim.Native.Nat.{◌+◌}
use native.Mathlib.Omega.{arith}
use native.Mathlib.Numerals.{add-one}
use lib.ListN.{length}
use Rattle.std.proofs.lemmas.Result.{err_from_is_err_and}
use Rattle.heap.specs.Queue.{queue}
use Rattle.windows.specs.Windows.{capacity_of}
use Rattle.chains.specs.Chains.{links}
use Rattle.trim_split.proofs.Parts.{part_none, part_quiet, part_full, part_queued}
use Rattle.trim_split.proofs.make_part.Goals as goal

pub returns-then-capacity-made : goal.returns-then-capacity-made
returns-then-capacity-made c =
    let a = c.args in
    (tt, λ cuts limit flags vertex k. part_none cuts (capacity_of (length a.words.now) (length a.reals.now)) limit flags a.e a.x k a.b0 a.b1 a.counts.made a.counts.queued a.before (links a.edges.now a.words.now) a.reals.now (queue a.keys.now a.events.now) vertex (omega (arith, c.capacity.ensures, c.if-capacity-made.true)))

pub returns-in_err-n : goal.returns-in_err-n
returns-in_err-n c =
    let push = c.push in
    let window-event = c.window_event-event in
    let make-window = c.make_window in
    let a = c.args in
    let p = err_from_is_err_and c.from_residual.result c.from_residual.ensures.1 in
    rw (p.1, p.2) (
      tt,
      λ cuts limit flags vertex k. part_full cuts (capacity_of (length a.words.now) (length a.reals.now)) limit flags a.e a.x k a.b0 a.b1 a.counts.made
          a.counts.queued a.before (links a.edges.now a.words.now) a.reals.now (queue a.keys.now a.events.now) vertex
          (omega (arith, c.capacity.ensures, c.if-capacity-made.false)) a.low c.requires.1 (links make-window.new.edges make-window.new.words)
          make-window.new.reals make-window.ensures c.if-carried.true window-event.result window-event.ensures
          (queue push.new.keys push.new.events) c.in_err-n.field-0.0 c.in_err-n.ensures.events_value,
    )

pub returns-then-carried : goal.returns-then-carried
returns-then-carried c =
    let push = c.push in
    let window-event = c.window_event-event in
    let make-window = c.make_window in
    let a = c.args in (
      add-one a.counts.made,
      λ cuts limit flags vertex k. part_queued cuts (capacity_of (length a.words.now) (length a.reals.now)) limit flags a.e a.x k a.b0 a.b1
          a.counts.made a.counts.queued a.before (links a.edges.now a.words.now) a.reals.now (queue a.keys.now a.events.now) vertex
          (omega (arith, c.capacity.ensures, c.if-capacity-made.false)) a.low c.requires.1 (links make-window.new.edges make-window.new.words)
          make-window.new.reals make-window.ensures c.if-carried.true window-event.result window-event.ensures
          (queue push.new.keys push.new.events) (a.counts.made + 1) (add-one a.counts.made) c.in_ok-n.n c.in_ok-n.ensures.events_value,
    )

pub returns : goal.returns
returns c =
    let make-window = c.make_window in
    let a = c.args in (
      add-one a.counts.made,
      λ cuts limit flags vertex k. part_quiet cuts (capacity_of (length a.words.now) (length a.reals.now)) limit flags a.e a.x k a.b0 a.b1
          a.counts.made a.counts.queued a.before (links a.edges.now a.words.now) a.reals.now (queue a.keys.now a.events.now) vertex
          (omega (arith, c.capacity.ensures, c.if-capacity-made.false)) a.low c.requires.1 (links make-window.new.edges make-window.new.words)
          make-window.new.reals make-window.ensures (a.counts.made + 1) (add-one a.counts.made) c.if-carried.false,
    )
