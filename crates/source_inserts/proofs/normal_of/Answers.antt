-- `source_inserts::normal_of` meets its contract. Assumes nothing.
use mathlib.Core.Path.{refl}
use borrow.Author.Tests.{eq-eqb, ne_eqb}
use Rattle.source_inserts.specs.Read.{normal_of_number}
use Rattle.source_inserts.proofs.normal_of.Goals as goal

pub returns-then-number-eq0 : goal.returns-then-number-eq0
unfolding normal_of_number
returns-then-number-eq0 c = rw (eq-eqb c.args.number 0 c.if-number-eq0.true) refl

pub returns : goal.returns
unfolding normal_of_number
returns c = rw (ne_eqb c.args.number 0 c.if-number-eq0.false) refl
