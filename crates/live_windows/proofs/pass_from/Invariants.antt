use Prim.Native.Nat.{◌≤◌}
use mathlib.Core.Path.{◌≡◌}
use Rattle.float64.specs.Notation.{◌⊖◌}
use Rattle.chains.specs.Chains.{links}
use Rattle.live_windows.proofs.Walks.{walk_on, passes_at}
use Rattle.live_windows.proofs.pass_from.Given as goal

abbrev pub invariant-loop-left : goal.invariant-loop-left
invariant-loop-left l = (l.before ≤ l.made) × ((l.left ≤ l.made) × (walk_on (passes_at l.b0 (l.b0 ⊖ l.tiny) l.reals) l.made (links l.edges l.words) l.e.0 l.left l.before ≡ walk_on (passes_at l.b0 (l.b0 ⊖ l.tiny) l.reals) l.made (links l.edges l.words) l.e.0 l.made l.from))

abbrev pub decreases-loop-left : goal.decreases-loop-left
decreases-loop-left l = l.left
