use Rattle.heap.specs.Queue.{queue, popping}
use Rattle.run_operations.proofs.Pops.{left_none, left_one}
use Rattle.run_operations.proofs.pop_first.Goals as goal

pub returns-in-None : goal.returns-in-None
returns-in-None c =
    let said = c.pop.ensures in
    let a = c.args in
    record {
      left = left_none a.made a.words.now a.queued (popping (queue a.keys.now a.events.now) a.queued).0 c.in-None.ensures.0;
      claims = said.1.0;
      rest = said.1.1;
    }

pub returns-in-Some : goal.returns-in-Some
returns-in-Some c =
    let said = c.pop.ensures in
    let a = c.args in
    record {
      left = left_one a.made a.words.now a.queued (popping (queue a.keys.now a.events.now) a.queued).0 c.in-Some.first c.in-Some.ensures.0;
      claims = said.1.0;
      rest = said.1.1;
    }
