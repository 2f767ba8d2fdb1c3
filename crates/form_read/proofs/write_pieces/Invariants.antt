use Rattle.form_read.proofs.Walk.{Walk}
use Rattle.form_read.proofs.write_pieces.Given as goal

abbrev pub invariant-loop-k : goal.invariant-loop-k
invariant-loop-k l = Walk l.s l.from l.n l.initial.kinds l.initial.faces l.initial.coords l.kinds l.faces l.coords l.at l.k
