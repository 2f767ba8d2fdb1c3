-- `piece_ends::direction` meets its contract. Assumes nothing.
use mathlib.Core.Path.{sym, ◌∙◌}
use Rattle.piece_ends.proofs.Unit.{no_second, short_is, no_direction, direction_is}
use Rattle.piece_ends.proofs.direction.Goals as goal

pub returns-then-len : goal.returns-then-len
returns-then-len c =
    let a = c.args in
    direction_is a.kinds.now a.coords.now a.i _ _ _ _ c.end_point-a.ensures c.end_point-b.ensures c.sub-d.ensures c.norm-len.ensures _ (sym c.is_end.ensures ∙ c.if-is_end.true) c.if-len.true c.scale.ensures

pub returns-else-len : goal.returns-else-len
returns-else-len c =
    let a = c.args in
    no_direction a.kinds.now a.coords.now a.i (short_is a.kinds.now a.coords.now a.i _ _ _ _ c.end_point-a.ensures c.end_point-b.ensures c.sub-d.ensures c.norm-len.ensures c.if-len.false)

pub returns-else-is_end : goal.returns-else-is_end
returns-else-is_end c =
    let a = c.args in
    no_direction a.kinds.now a.coords.now a.i (no_second a.kinds.now a.coords.now a.i (sym c.is_end.ensures ∙ c.if-is_end.false))
