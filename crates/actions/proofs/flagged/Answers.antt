use Prim.Native.Nat.{ℕ}
use mathlib.Core.Path.{◌∙◌, sym, ap}
use lib.Dec.{eqb}
use borrow.Author.Tests.{eq-eqb, ne_eqb}
use Rattle.actions.proofs.flagged.Goals as goal

pub returns-then-read_u32-eq1 : goal.returns-then-read_u32-eq1
returns-then-read_u32-eq1 c = sym (eq-eqb _ _ c.if-read_u32-eq1.true) ∙ ap (λ (x : ℕ). eqb x 1) c.read_u32.ensures

pub returns : goal.returns
returns c = sym (ne_eqb _ _ c.if-read_u32-eq1.false) ∙ ap (λ (x : ℕ). eqb x 1) c.read_u32.ensures
