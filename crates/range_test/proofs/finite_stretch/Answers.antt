-- `range_test::finite_stretch` meets its contract. Assumes nothing.
use borrow.Author.Rules.{rules}
use mathlib.Core.Path.{sym, ◌∙◌, subst}
use lib.Dec.{T}
use Rattle.range_test.specs.Range.{finite_stretch}
use Rattle.range_test.proofs.finite_stretch.Goals as goal
use Rattle.range_test.proofs.finite_stretch.Goals.{then-lo-hi, else-lo-hi}

pub returns-then-is_finite : goal.returns-then-is_finite
unfolding finite_stretch
returns-then-is_finite c = elim c.if-lo-hi.branch [
  | then-lo-hi w ↦ (rw (w.if-lo-hi.true, ← w.is_finite.ensures, ← w.value-is, c.if-is_finite.true) c.is_finite-then-is_finite.ensures, (search rules, search rules))
  | else-lo-hi w ↦ absurd (subst T (sym (sym w.if-lo-hi.false ∙ sym w.value-is ∙ c.if-is_finite.true)) tt)
]

pub returns-else-is_finite : goal.returns-else-is_finite
unfolding finite_stretch
returns-else-is_finite c = elim c.if-lo-hi.branch [
  | then-lo-hi w ↦ (rw (w.if-lo-hi.true, ← w.is_finite.ensures, ← w.value-is, c.if-is_finite.false), (search rules, search rules))
  | else-lo-hi w ↦ (rw w.if-lo-hi.false c.if-is_finite.false, (search rules, search rules))
]
