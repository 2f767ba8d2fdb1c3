use Rattle.heap.specs.Queue.{queue, popping}
use Rattle.pop.proofs.Calls.{pops_none, pops_one}
use Rattle.pop.proofs.pop.Goals as goal

pub returns-in_err-event : goal.returns-in_err-event
returns-in_err-event c =
    let a = c.args in
    rw c.from_residual.ensures (pops_none a.made a.words.now (popping (queue a.keys.now a.events.now) a.queued) _ c.in_err-event.ensures)

pub returns : goal.returns
returns c =
    let a = c.args in
    pops_one a.made a.words.now (popping (queue a.keys.now a.events.now) a.queued) _ c.in_ok-event.event c.in_ok-event.left
    c.in_ok-event.ensures c.claim_item-pending.result c.claim_item-pending.ensures.0 _ c.claim_item-pending.ensures.1
