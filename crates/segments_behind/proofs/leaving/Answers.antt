-- `segments_behind::leaving` meets its contract. Assumes nothing.
use Rattle.segments_behind.proofs.Finding.{leaves_first, leaves_second}
use Rattle.segments_behind.proofs.leaving.Goals as goal

pub returns-then-e-eq0 : goal.returns-then-e-eq0
returns-then-e-eq0 c =
    let a = c.args in
    leaves_first a.reals.now a.e _ c.vector_from-d.ensures c.if-e-eq0.true

pub returns : goal.returns
returns c =
    let a = c.args in
    leaves_second a.reals.now a.e _ c.vector_from-d.ensures _ c.if-e-eq0.false c.scale.ensures
