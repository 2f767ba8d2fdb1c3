-- `carriers::carrier_face` meets its contract. Assumes nothing.
use Rattle.carriers.specs.Carrier.{carrier_face_at}
use Rattle.carriers.proofs.carrier_face.Goals as goal

pub returns-in-Face : goal.returns-in-Face
unfolding carrier_face_at
returns-in-Face c = rw c.in-Face.is

pub returns-in-Edge : goal.returns-in-Edge
unfolding carrier_face_at
returns-in-Edge c = rw c.in-Edge.is c.edge_face.ensures

pub returns-in-Vertex : goal.returns-in-Vertex
unfolding carrier_face_at
returns-in-Vertex c = rw c.in-Vertex.is c.vertex_face.ensures
