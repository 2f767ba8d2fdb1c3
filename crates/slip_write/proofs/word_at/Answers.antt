-- `slip_write::word_at` meets its contract. Assumes nothing.
use lib.ListN.{get_or-eq_default}
use mathlib.Core.Path.{sym}
use Rattle.slip_write.proofs.word_at.Goals as goal

pub returns-else-k-xs : goal.returns-else-k-xs
returns-else-k-xs c =
    let a = c.args in
    sym (get_or-eq_default a.xs.now 0 c.if-k-xs.false)
