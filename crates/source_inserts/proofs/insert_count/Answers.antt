-- `source_inserts::insert_count` meets its contract. Assumes nothing.
use mathlib.Core.Path.{refl}
use Rattle.source_inserts.specs.Read.{insert_count_at}
use Rattle.source_inserts.proofs.Steps.{count_few, count_cut}
use Rattle.source_inserts.proofs.insert_count.Goals as goal

pub returns-then-count-lt1073741823 : goal.returns-then-count-lt1073741823
unfolding insert_count_at
returns-then-count-lt1073741823 c = rw c.in-Point.is (count_few _ _ c.carrier_count-count.ensures c.if-count-lt1073741823.true)

pub returns-in-Absent : goal.returns-in-Absent
unfolding insert_count_at
returns-in-Absent c = rw c.in-Absent.is refl

pub returns-else-count-lt1073741823 : goal.returns-else-count-lt1073741823
unfolding insert_count_at
returns-else-count-lt1073741823 c = rw c.in-Point.is (count_cut _ _ c.carrier_count-count.ensures c.if-count-lt1073741823.false)

pub returns-in-Segment : goal.returns-in-Segment
unfolding insert_count_at
returns-in-Segment c = rw c.in-Segment.is refl
