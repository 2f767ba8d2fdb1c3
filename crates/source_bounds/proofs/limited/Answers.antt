-- `source_bounds::limited` meets its contract. Assumes nothing.
use mathlib.Core.Path.{refl, sym, subst}
use lib.Dec.{T}
use Rattle.source_bounds.proofs.limited.Goals as goal

pub returns-then-hi : goal.returns-then-hi
returns-then-hi c = (refl, refl, (subst T (sym c.if-lo.true) tt, subst T (sym c.if-hi.true) tt))
