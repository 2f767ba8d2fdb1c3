-- `range_test::upper` meets its contract. Assumes nothing.
use Rattle.std.proofs.lemmas.Option.{IfSome_then}
use Rattle.range_test.specs.Range.{highest_of}
use Rattle.range_test.proofs.upper.Goals as goal

pub returns-then-x-lo : goal.returns-then-x-lo
unfolding highest_of
returns-then-x-lo c = rw (c.in-Point.is, c.if-x-lo.true) (IfSome_then c.bounds.result c.bounds.ensures (λ e b. b.upto))

pub returns-then-hi-x : goal.returns-then-hi-x
unfolding highest_of
returns-then-hi-x c = rw (c.in-Point.is, c.if-x-lo.false, c.if-hi-x.true) (IfSome_then c.bounds-then-hi-x.result c.bounds-then-hi-x.ensures (λ e b. b.upto))

pub returns-then-ux : goal.returns-then-ux
unfolding highest_of
returns-then-ux c = rw (c.in-Line.is, c.if-ux.true, ← c.edge-then-ux.ensures) (IfSome_then c.exact-then-ux.result c.exact-then-ux.ensures (λ e b. b.0))

pub returns-else-hi-x : goal.returns-else-hi-x
unfolding highest_of
returns-else-hi-x c = rw (c.in-Point.is, c.if-x-lo.false, c.if-hi-x.false, ← c.edge.ensures, ← c.edge-in-Point.ensures, ← c.max.ensures) (IfSome_then c.exact.result c.exact.ensures (λ e b. b.0))

pub returns-else-ux : goal.returns-else-ux
unfolding highest_of
returns-else-ux c = rw (c.in-Line.is, c.if-ux.false, ← c.edge-in-Line.ensures) (IfSome_then c.exact-in-Line.result c.exact-in-Line.ensures (λ e b. b.0))
