use Rattle.float64.specs.Scalar.{zero64}
use Rattle.source.specs.Distance.{eval_of}
use Rattle.last_pass.proofs.Turns.{lower_is}
use Rattle.last_pass.proofs.lower.Goals as goal

pub returns : goal.returns
returns c =
    let a = c.args in
    lower_is a.vertex.now _ a.v.0 c.distance-d.result c.nearer-least.result (eval_of a.w a.x zero64) c.distance-d.ensures c.nearer-least.ensures c.write_f64.ensures
