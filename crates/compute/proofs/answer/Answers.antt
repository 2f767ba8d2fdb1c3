-- `compute::answer` meets its contract. Assumes nothing.
use Rattle.compute.proofs.Told.{told_refused, told_done}
use Rattle.compute.proofs.answer.Goals as goal

pub returns-in-Refused : goal.returns-in-Refused
returns-in-Refused c =
    let a = c.args in
    told_refused a.work a.vertices a.triangles a.kinds a.edges _ c.in-Refused.is

pub returns-in-Done : goal.returns-in-Done
returns-in-Done c =
    let a = c.args in
    told_done a.work a.vertices a.triangles a.kinds a.edges _ _ _ _ _ c.in-Done.is c.slots.ensures c.slots-in-Done.ensures c.slots-in-Done-2.ensures
