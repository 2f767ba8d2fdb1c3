-- `begin::leave_unreached` meets its contract. Assumes nothing.
use Rattle.begin.proofs.Vertices.{unreached_is}
use Rattle.begin.proofs.leave_unreached.Goals as goal

pub returns : goal.returns
returns c = unreached_is c.args.v _ _ _ c.write_f64.ensures c.write_f64-2.ensures
