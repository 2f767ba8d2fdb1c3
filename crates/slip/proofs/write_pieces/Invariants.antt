use Rattle.slip.proofs.Walk.{Walk}
use Rattle.slip.proofs.write_pieces.Given as goal

abbrev pub invariant-loop-k : goal.invariant-loop-k
invariant-loop-k l = Walk l.s l.n l.initial.kinds l.initial.faces l.initial.coords l.kinds l.faces l.coords l.at l.k
