-- `job_checks::vertex` meets its contract. Assumes nothing.
use Rattle.job_checks.proofs.Edge.{vertex_of_lem}
use Rattle.job_checks.proofs.vertex.Goals as goal

pub returns : goal.returns
returns c =
    let a = c.args in
    vertex_of_lem a.v.now a.k _ _ _ c.read_f64.ensures c.read_f64-2.ensures c.read_f64-3.ensures
