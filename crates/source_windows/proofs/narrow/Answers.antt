-- `source_windows::narrow` meets its contract. Assumes nothing.
use Rattle.source_windows.specs.Wedge.{narrow_of}
use Rattle.source_windows.proofs.narrow.Goals as goal

pub returns-then-k1 : goal.returns-then-k1
unfolding narrow_of
returns-then-k1 c = rw (c.min.ensures, c.if-k1.true)

pub returns-then-k1-2 : goal.returns-then-k1-2
unfolding narrow_of
returns-then-k1-2 c = rw (c.max.ensures, c.if-k1-2.true, c.if-k1.false)

pub returns-then-k0 : goal.returns-then-k0
unfolding narrow_of
returns-then-k0 c = rw (c.if-k0.true, c.if-k1-2.false, c.if-k1.false)

pub returns : goal.returns
unfolding narrow_of
returns c = rw (c.if-k0.false, c.if-k1-2.false, c.if-k1.false)
