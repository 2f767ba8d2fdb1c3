use Prim.Native.Nat.{◌≤◌}
use mathlib.Core.Path.{◌≡◌}
use Rattle.chains.specs.Chains.{links}
use Rattle.live_windows.proofs.Walks.{walk_on, starts_at}
use Rattle.live_windows.proofs.seat_from.Given as goal

abbrev pub invariant-loop-left : goal.invariant-loop-left
invariant-loop-left l = (l.before ≤ l.made) × ((l.left ≤ l.made) × (walk_on (starts_at l.b0 l.reals) l.made (links l.edges l.words) l.e.0 l.left l.before ≡ walk_on (starts_at l.b0 l.reals) l.made (links l.edges l.words) l.e.0 l.made l.from))

abbrev pub decreases-loop-left : goal.decreases-loop-left
decreases-loop-left l = l.left
