-- `compute::is_cleared` meets its contract. Assumes nothing.
use Rattle.compute.proofs.Told.{clears_refused, clears_done}
use Rattle.compute.proofs.is_cleared.Goals as goal

pub returns-in-Refused : goal.returns-in-Refused
returns-in-Refused c = clears_refused c.args.work _ c.in-Refused.is

pub returns-in-Done : goal.returns-in-Done
returns-in-Done c =
    clears_done c.args.work c.in-Done.field-0 c.in-Done.field-1 c.in-Done.is
