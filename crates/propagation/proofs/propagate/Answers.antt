-- `propagation::propagate` meets its contract. Assumes nothing.
use Rattle.propagation.specs.Propagate.{propagate_of, after_ray}
use Rattle.propagation.proofs.propagate.Goals as goal

pub returns-in_err-xc : goal.returns-in_err-xc
unfolding propagate_of after_ray
returns-in_err-xc c = rw (c.from_residual.ensures, ← c.in_err-xc.ensures)

pub returns : goal.returns
unfolding propagate_of after_ray
returns c = rw (← c.in_ok-xc.ensures, c.pass_on.ensures)
