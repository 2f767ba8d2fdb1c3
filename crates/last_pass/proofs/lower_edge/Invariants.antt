use Prim.Native.Nat.{◌≤◌}
use mathlib.Core.Path.{◌≡◌}
use Rattle.chains.specs.Chains.{links}
use Rattle.last_pass.proofs.Turns.{to_do}
use Rattle.last_pass.proofs.lower_edge.Given as goal

abbrev pub invariant-loop-left : goal.invariant-loop-left
invariant-loop-left l =
    (l.before ≤ l.made) × ((l.left ≤ l.made) × (to_do l.made (links l.edge_words l.words) l.reals l.e l.left l.before l.vertex ≡ to_do l.made (links l.edge_words l.words) l.reals l.e l.made 0 l.initial.vertex))

abbrev pub decreases-loop-left : goal.decreases-loop-left
decreases-loop-left l = l.left
