-- `range_test::exact` meets its contract. Assumes nothing.
use mathlib.Core.Path.{sym, subst}
use lib.Dec.{T}
use Rattle.float_laws.proofs.Order.{le_refl, le_number_l}
use Rattle.range_test.proofs.exact.Goals as goal

pub returns-then-v : goal.returns-then-v
returns-then-v c = let v = c.args.v in let r = le_refl v (le_number_l v _ (subst T (sym c.if-v.true) tt)) in (r, r)
