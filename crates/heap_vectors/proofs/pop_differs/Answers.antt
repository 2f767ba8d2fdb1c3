use mathlib.Core.Bool.{cond, not}
use mathlib.Core.Path.{refl, ap, ◌∙◌}
use Rattle.heap_vectors.specs.Replay.{pop_differs}
use Rattle.heap_vectors.proofs.pop_differs.Goals as goal

pub returns-then-found : goal.returns-then-found
unfolding pop_differs
returns-then-found c = rw c.if-found.true (c.one_if.ensures ∙ ap (λ z. cond (not z) 1 0) c.same_event.ensures)

pub returns : goal.returns
unfolding pop_differs
returns c = rw c.if-found.false refl
