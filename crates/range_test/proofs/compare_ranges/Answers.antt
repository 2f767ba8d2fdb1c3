-- `range_test::compare_ranges` meets its contract. Assumes nothing.
use mathlib.Core.Path.{sym, subst}
use lib.Dec.{T}
use Rattle.range_test.proofs.Ranges.{tells_never, tells_always}
use Rattle.range_test.proofs.compare_ranges.Goals as goal

pub returns-then-range_above : goal.returns-then-range_above
returns-then-range_above c =
    let a = c.args in
    tells_never a.p a.q a.lo a.hi (rw c.if-all_finite.true at c.all_finite.ensures) (c.range_above.ensures (subst T (sym c.if-range_above.true) tt))

pub returns-then-range_below : goal.returns-then-range_below
returns-then-range_below c =
    let a = c.args in
    tells_always a.p a.q a.lo a.hi (rw c.if-all_finite-2.true at c.all_finite-then-p_low-p_wide.ensures) (c.range_below.ensures (subst T (sym c.if-range_below.true) tt))
