-- `root_vectors::answer` meets its contract. Assumes nothing.
use mathlib.Core.Path.{ap, ◌∙◌}
use native.Mathlib.Omega.{arith}
use lib.Ieee.{binary64}
use Rattle.root_spec.specs.Root.{sqrt_of, hypot_of}
use Rattle.root_vectors.specs.Replay.{answer_at}
use Rattle.root_vectors.proofs.answer.Goals as goal

pub float_at-requires-in-Hypot-2 : goal.float_at-requires-in-Hypot-2
float_at-requires-in-Hypot-2 c =
    let h = rw c.in-Hypot.is at c.requires in
    omega arith

pub returns-in-Sqrt : goal.returns-in-Sqrt
unfolding answer_at
returns-in-Sqrt c = rw c.in-Sqrt.is (c.sqrt.ensures ∙ ap (sqrt_of binary64) c.float_at.ensures)

pub returns-in-Hypot : goal.returns-in-Hypot
unfolding answer_at
returns-in-Hypot c =
    rw c.in-Hypot.is (c.hypot.ensures ∙ ap (λ x. hypot_of binary64 x c.float_at-in-Hypot-2.result) c.float_at-in-Hypot.ensures ∙ ap (hypot_of binary64 _) c.float_at-in-Hypot-2.ensures)
