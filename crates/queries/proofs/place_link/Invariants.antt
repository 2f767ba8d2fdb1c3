use Prim.Native.Nat.{◌≤◌}
use mathlib.Core.Path.{◌≡◌}
use Rattle.chains.specs.Chains.{links}
use Rattle.queries.proofs.Places.{to_come}
use Rattle.queries.proofs.place_link.Given as goal

abbrev pub invariant-loop-left : goal.invariant-loop-left
invariant-loop-left l =
    (l.before ≤ l.made) × (to_come l.made (links l.edge_words l.words) l.e.0 l.skip l.left l.before ≡ to_come l.made (links l.edge_words l.words) l.e.0 l.place l.made 0)

abbrev pub decreases-loop-left : goal.decreases-loop-left
decreases-loop-left l = l.left
