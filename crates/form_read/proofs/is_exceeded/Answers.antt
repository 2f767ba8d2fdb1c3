-- `form_read::is_exceeded` meets its contract. Assumes nothing.
use Rattle.form_read.specs.FormReading.{counts_exceed}
use borrow.Author.Tests.{lt-ltb, le-ltb}
use Rattle.form_read.proofs.is_exceeded.Goals as goal

pub returns-then-vertices-v : goal.returns-then-vertices-v
unfolding counts_exceed
returns-then-vertices-v c = rw (lt-ltb c.args.vertices c.args.v c.if-vertices-v.true)

pub returns-then-triangles-t : goal.returns-then-triangles-t
unfolding counts_exceed
returns-then-triangles-t c = rw (le-ltb c.args.vertices c.args.v c.if-vertices-v.false, lt-ltb c.args.triangles c.args.t c.if-triangles-t.true)

pub returns-then-pieces-p : goal.returns-then-pieces-p
unfolding counts_exceed
returns-then-pieces-p c = rw (le-ltb c.args.vertices c.args.v c.if-vertices-v.false, le-ltb c.args.triangles c.args.t c.if-triangles-t.false, lt-ltb c.args.pieces c.args.p c.if-pieces-p.true)

pub returns : goal.returns
unfolding counts_exceed
returns c = rw (le-ltb c.args.vertices c.args.v c.if-vertices-v.false, le-ltb c.args.triangles c.args.t c.if-triangles-t.false, le-ltb c.args.pieces c.args.p c.if-pieces-p.false)
