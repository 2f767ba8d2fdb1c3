use borrow.Author.Tests.{eq-eqb, ne_eqb}
use mathlib.Core.Path.{sym}
use Rattle.windows.proofs.has_flag.Goals as goal

pub returns-then-flags-v-eq1 : goal.returns-then-flags-v-eq1
returns-then-flags-v-eq1 c = sym (eq-eqb _ _ c.if-flags-v-eq1.true)

pub returns : goal.returns
returns c = sym (ne_eqb _ _ c.if-flags-v-eq1.false)
