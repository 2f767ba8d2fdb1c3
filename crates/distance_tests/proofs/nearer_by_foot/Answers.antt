-- `distance_tests::nearer_by_foot` meets its contract. Assumes nothing.
use mathlib.Core.Path.{◌≡◌}
use mathlib.Core.Bool.{false, ◌&&◌}
use lib.Ieee.{le}
use Rattle.source.specs.Distance.{eval_of}
use Rattle.distance_tests.proofs.nearer_by_foot.Goals.{else-f-w-via-then-f-w+else-f-w-2, else-f-w-via-else-f-w}
use Rattle.distance_tests.proofs.nearer_by_foot.Goals as goal

pub returns-then-f-w-2 : goal.returns-then-f-w-2
unfolding eval_of
returns-then-f-w-2 c = rw (← c.foot-f.ensures, c.if-f-w.true, c.if-f-w-2.true, c.min.ensures, c.free.ensures)

pub returns : goal.returns
unfolding eval_of
returns c =
    let outside : (le c.args.w.b0 c.foot-f.result && le c.foot-f.result c.args.w.b1) ≡ false = elim c.else-f-w.branch [ else-f-w-via-then-f-w+else-f-w-2 w ↦ rw (w.if-f-w.true, w.if-f-w-2.false) | else-f-w-via-else-f-w w ↦ rw w.if-f-w.false ] in
    rw (← c.foot-f.ensures, outside, ← c.clamp.ensures, c.along.ensures)
