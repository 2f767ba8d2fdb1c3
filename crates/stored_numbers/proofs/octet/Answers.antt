-- `stored_numbers::octet` meets its contract. Assumes nothing.
use mathlib.Core.Path.{sym}
use native.Mathlib.Omega.{arith}
use lib.ListN.{get_or-eq_default}
use Rattle.stored_numbers.proofs.octet.Goals as goal

pub returns : goal.returns
returns c = let a = c.args in (sym (get_or-eq_default a.s.now 0 c.if-i-s.false), omega arith)
