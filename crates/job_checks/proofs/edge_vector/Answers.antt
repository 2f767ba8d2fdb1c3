-- `job_checks::edge_vector` meets its contract. Assumes nothing.
use Rattle.job_checks.proofs.edge_vector.Goals as goal

pub returns : goal.returns
returns c = rw (c.sub.ensures, c.vertex-2.ensures, c.vertex.ensures, c.higher_of-end.ensures, c.lower_of-start.ensures)
