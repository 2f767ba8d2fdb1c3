-- `face_distance::edge_floor` meets its contract. Assumes nothing.
use Rattle.float_laws.proofs.Order.{le_refl}
use Rattle.source.specs.Distance.{edge_of}
use Rattle.face_distance.proofs.Floors.{hypot_from_zero, floor_sum}
use Rattle.face_distance.proofs.edge_floor.Goals as goal

pub returns-in-Point : goal.returns-in-Point
unfolding edge_of
returns-in-Point c = rw c.in-Point.is (floor_sum _ _ _ (hypot_from_zero _ _) c.leg.ensures.1)

pub returns-in-Line : goal.returns-in-Line
unfolding edge_of
returns-in-Line c = rw c.in-Line.is (λ n m. le_refl _ n)
