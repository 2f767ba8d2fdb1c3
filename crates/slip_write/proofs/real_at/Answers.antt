-- `slip_write::real_at` meets its contract. Assumes nothing.
use lib.Ieee.{nan, div, of_bits}
use lib.ListN.{get_or-eq_default}
use mathlib.Core.Path.{sym}
use Rattle.slip_write.proofs.real_at.Goals as goal

pub returns-else-k-xs : goal.returns-else-k-xs
unfolding div of_bits
returns-else-k-xs c =
    let a = c.args in
    sym (get_or-eq_default a.xs.now nan c.if-k-xs.false)
