-- `range_test::list_whole` meets its contract. Assumes nothing.
use native.Mathlib.Omega.{arith}
use Rattle.range_test.proofs.Ranges.{short_list, whole_list}
use Rattle.range_test.proofs.list_whole.Goals as goal

pub returns-then-out-lt2 : goal.returns-then-out-lt2
returns-then-out-lt2 c = let a = c.args in short_list a.lo a.hi a.out.now (omega arith)

pub returns : goal.returns
returns c = let a = c.args in whole_list a.lo a.hi a.out.now (omega arith)
