-- `source_inserts::insert_at` meets its contract. Assumes nothing.
use mathlib.Core.Path.{refl}
use Rattle.source_inserts.specs.Read.{insert_at}
use Rattle.source_inserts.proofs.insert_at.Goals as goal

pub returns-in-Absent : goal.returns-in-Absent
unfolding insert_at
returns-in-Absent c = rw c.in-Absent.is refl

pub returns-in-Point : goal.returns-in-Point
unfolding insert_at
returns-in-Point c = rw c.in-Point.is c.point_insert.ensures

pub returns-in-Segment : goal.returns-in-Segment
unfolding insert_at
returns-in-Segment c = rw c.in-Segment.is c.segment_insert.ensures
