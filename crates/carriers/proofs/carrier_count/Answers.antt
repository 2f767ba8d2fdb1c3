-- `carriers::carrier_count` meets its contract. Assumes nothing.
use Rattle.carriers.specs.Carrier.{carrier_count_at}
use Rattle.carriers.proofs.carrier_count.Goals as goal

pub returns-in-Face : goal.returns-in-Face
unfolding carrier_count_at
returns-in-Face c = rw c.in-Face.is

pub returns-in-Edge : goal.returns-in-Edge
unfolding carrier_count_at
returns-in-Edge c = rw c.in-Edge.is c.edge_degree.ensures

pub returns-in-Vertex : goal.returns-in-Vertex
unfolding carrier_count_at
returns-in-Vertex c = rw c.in-Vertex.is c.vertex_degree.ensures
