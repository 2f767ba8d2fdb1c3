-- `compute::is_zeroed` meets its contract. Assumes nothing.
use Rattle.compute.proofs.Told.{zeroes_refused, zeroes_done}
use Rattle.compute.proofs.is_zeroed.Goals as goal

pub returns-in-Refused : goal.returns-in-Refused
returns-in-Refused c = zeroes_refused c.args.work _ c.in-Refused.is

pub returns-in-Done : goal.returns-in-Done
returns-in-Done c =
    zeroes_done c.args.work c.in-Done.field-0 c.in-Done.field-1 c.in-Done.is
