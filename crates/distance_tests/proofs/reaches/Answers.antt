-- `distance_tests::reaches` meets its contract. Assumes nothing.
use mathlib.Core.Path.{sym}
use lib.Ieee.Bits.{is_true}
use Rattle.nat_laws.proofs.Tests.{holds}
use Rattle.distance_tests.proofs.reaches.Goals as goal

pub returns-then-lowest_at_most : goal.returns-then-lowest_at_most
returns-then-lowest_at_most c = sym (is_true _ (c.lowest_at_most.ensures (holds _ c.if-lowest_at_most.true)))

pub returns-then-lowest-d : goal.returns-then-lowest-d
returns-then-lowest-d c = rw (← c.lowest.ensures, c.if-lowest-d.true)

pub returns : goal.returns
returns c = rw (← c.lowest.ensures, c.if-lowest-d.false)
