-- `point_wedge::behind_end` meets its contract. Assumes nothing.
use Rattle.point_wedge.proofs.Steps.{end_is}
use Rattle.point_wedge.proofs.behind_end.Goals as goal

pub returns : goal.returns
returns c =
    let a = c.args in
    end_is a.reals.now a.plane a.o a.p a.xhat a.w a.e c.leaving-d.result c.laid-there.result c.behind.result c.leaving-d.ensures c.laid-there.ensures c.behind.ensures
