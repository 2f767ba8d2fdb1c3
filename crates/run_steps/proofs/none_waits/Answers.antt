-- `run_steps::none_waits` meets its contract. Assumes nothing.
use native.Mathlib.Omega.{arith}
use Rattle.heap.specs.Queue.{queue, slots}
use Rattle.run_steps.proofs.Running.{none_waits_lem, past_slots, one_waits}
use Rattle.run_steps.proofs.none_waits.Goals as goal

pub returns-then-queued-eq0 : goal.returns-then-queued-eq0
returns-then-queued-eq0 c =
    let a = c.args in
    none_waits_lem (queue a.keys.now a.events.now) a.queued c.if-queued-eq0.true

pub returns-then-count-queued : goal.returns-then-count-queued
unfolding slots
returns-then-count-queued c =
    let a = c.args in
    past_slots (queue a.keys.now a.events.now) a.queued (omega arith) (omega (arith, c.count.ensures))

pub returns : goal.returns
unfolding slots
returns c =
    let a = c.args in
    one_waits (queue a.keys.now a.events.now) a.queued (omega arith) (omega (arith, c.count.ensures))
