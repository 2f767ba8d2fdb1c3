use lib.Ieee.{of_bits}
use Rattle.queries.proofs.edge_value.Goals as goal

pub returns : goal.returns
unfolding of_bits
returns c = c.unwrap_or.ensures
