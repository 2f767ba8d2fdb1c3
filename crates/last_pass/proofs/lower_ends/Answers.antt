use Rattle.last_pass.proofs.Turns.{by_is}
use Rattle.last_pass.proofs.lower_ends.Goals as goal

pub returns : goal.returns
returns c =
    let a = c.args in
    by_is a.e a.w a.vertex.now _ _ c.lower.ensures c.lower-2.ensures
