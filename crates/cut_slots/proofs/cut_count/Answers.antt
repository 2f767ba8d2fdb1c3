use Rattle.cut_slots.proofs.Parts.{least_left, least_right}
use Rattle.cut_slots.proofs.cut_count.Goals as goal

pub returns-then-a-b : goal.returns-then-a-b
returns-then-a-b c = least_left _ _ _ _ c.count-a.ensures c.count-b.ensures c.if-a-b.true

pub returns : goal.returns
returns c = least_right _ _ _ _ c.count-a.ensures c.count-b.ensures c.if-a-b.false
