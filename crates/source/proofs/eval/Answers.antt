-- `source::eval` meets its contract. Assumes nothing.
use mathlib.Core.Path.{◌≡◌}
use mathlib.Core.Bool.{false, ◌&&◌}
use lib.Ieee.{le}
use Rattle.source.specs.Distance.{eval_of}
use Rattle.source.proofs.eval.Goals.{Joined-else-f-w, else-f-w-via-then-f-w+else-f-w-2, else-f-w-via-else-f-w}
use Rattle.source.proofs.eval.Goals as goal

outside : (c : Joined-else-f-w) → (le c.args.w.b0 c.foot-f.result && le c.foot-f.result c.args.w.b1) ≡ false
outside c = elim c.else-f-w.branch [ else-f-w-via-then-f-w+else-f-w-2 w ↦ rw (w.if-f-w.true, w.if-f-w-2.false) | else-f-w-via-else-f-w w ↦ rw w.if-f-w.false ]

pub returns-then-f-w-2 : goal.returns-then-f-w-2
unfolding eval_of
returns-then-f-w-2 c = rw (← c.foot-f.ensures, c.if-f-w.true, c.if-f-w-2.true, c.free.ensures)

pub returns : goal.returns
unfolding eval_of
returns c =
    rw (← c.foot-f.ensures, outside (goal.at.returns c).Joined-else-f-w, ← c.clamp-q.ensures, c.hypot.ensures, c.edge.ensures)
